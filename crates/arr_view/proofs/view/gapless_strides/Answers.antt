use Rattle.std.proofs.Common.{◌≡◌, ℕ, ◌+◌, ◌/◌, ◌≤◌, pos, ◌∷◌, ◌++◌, cond, get_or, drop, to_z, w32, ap, sym, ◌∙◌, arith, append_assoc}
use Rattle.std.specs.Prelude.{◌==◌}
use Rattle.std.proofs.lemmas.Int.{ints}
use Rattle.std.proofs.lemmas.Bool.{cond-true, cond-false, eq-eqb, ne_eqb}
use Rattle.std.proofs.Math.Nat.{div-le_self}
use Rattle.arr_view.specs.Views.{positions, whole_strides}
use Rattle.arr_view.proofs.Strides.{rest_turn, whole_turn}
use Rattle.arr_view.proofs.view.gapless_strides.Goals as goal
use Rattle.arr_view.proofs.view.gapless_strides.Goals.{then-length-eq1, else-length-eq1}

pub loop-length-preserved : goal.loop-length-preserved
loop-length-preserved c =
    let i : ℕ = c.loop-length.length-index in
    let n : ℕ = get_or c.args.lengths.now i 0 in
    let size : c.loop-length.rest / n ≡ positions (drop (i + 1) c.args.lengths.now) =
    rest_turn c.args.lengths.now i c.loop-length.rest c.requires.lengths c.loop-length-test.true c.loop-length.invariant.size in
    let less : c.loop-length.rest / n ≤ c.loop-length.rest = div-le_self c.loop-length.rest n in
    let few : c.loop-length.rest / n ≤ 1048576 = let f : c.loop-length.rest ≤ 1048576 = c.loop-length.invariant.few in omega arith in
    let value : to_z w32 c.if-length-eq1.push-bits ≡ cond (n == 1) (pos 0) (pos (positions (drop (i + 1) c.args.lengths.now))) =
    elim c.if-length-eq1.branch [
      | then-length-eq1 w ↦ w.push-is ∙ sym (cond-true (n == 1) (pos 0) (pos (positions (drop (i + 1) c.args.lengths.now))) (eq-eqb n 1 w.if-length-eq1.true))
      | else-length-eq1 w ↦ (let e : to_z w32 c.if-length-eq1.push-bits ≡ pos (c.loop-length.rest / n) = omega (arith, ints) in e) ∙ ap pos size ∙ sym (cond-false (n == 1) (pos 0) (pos (positions (drop (i + 1) c.args.lengths.now))) (ne_eqb n 1 w.if-length-eq1.false))
    ] in
    record {
      many = c.push.ensures.len ∙ ap (λ k. k + 1) c.loop-length.invariant.many;
      size = size;
      few = few;
      rest =
          ap (λ xs. xs ++ whole_strides (drop (i + 1) c.args.lengths.now)) c.push.ensures.items
          ∙ append_assoc c.loop-length.strides.items _ (whole_strides (drop (i + 1) c.args.lengths.now))
          ∙ ap (λ z. c.loop-length.strides.items ++ (z ∷ whole_strides (drop (i + 1) c.args.lengths.now))) value
          ∙ ap (λ xs. c.loop-length.strides.items ++ xs) (sym (whole_turn c.args.lengths.now i c.loop-length-test.true))
          ∙ c.loop-length.invariant.rest;
    }
