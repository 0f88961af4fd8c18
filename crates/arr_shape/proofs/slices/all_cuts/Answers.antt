use Rattle.std.proofs.Common.{◌≡◌, ◌+◌, ◌<◌, ◌≤◌, ℕ, pos, List, [], ◌∷◌, ◌++◌, length, get_or, drop, take, ap, sym, ◌∙◌, subst, arith, length-append}
use Rattle.std.specs.Prelude.{◌==◌, Ok, None, Result}
use Rattle.std.proofs.lemmas.Bool.{eq-eqb, ne_eqb, cond-true, cond-false}
use Rattle.std.proofs.lemmas.List.{take_more}
use Rattle.arr_view.specs.Views.{positions}
use Rattle.arr_view.proofs.Places.{length_at}
use Rattle.arr_shape.specs.declared.bounds.Cut.{Cut}
use Rattle.arr_shape.specs.declared.bounds.Slice.{Slice}
use Rattle.arr_shape.specs.declared.fault.ShapeFault.{ShapeFault}
use Rattle.arr_shape.specs.Slices.{all_cuts, and_then, whole_cut, IsCut, AreCuts}
use Rattle.arr_shape.proofs.Joins.{after, after_more, cuts_more, cuts_whole, cuts_append}
use Rattle.arr_shape.proofs.Wholes.{whole_lawful, length_few}
use Rattle.arr_shape.proofs.slices.all_cuts.Goals as goal
use Rattle.arr_shape.proofs.slices.all_cuts.Goals.{then-axis-slices+in_ok-cut, else-axis-slices, then-length-eq1, else-length-eq1}

pub cut-requires-clause-few : goal.cut-requires-clause-few
cut-requires-clause-few c =
    let some = c.requires.some in
    let few : get_or c.args.lengths.now c.loop-axis.axis 0 ≤ positions c.args.lengths.now = length_few c.args.lengths.now c.loop-axis.axis c.requires.some c.loop-axis-test.true in
    let all : positions c.args.lengths.now ≤ 1048576 = c.requires.few in
    omega arith

abbrev no_slice : Slice
no_slice = record { start = None; stop = None; step = pos 0 }

-- one turn: the cut that is added
record Turn (ns : List ℕ) (before after' : List Cut) (i : ℕ) (now rest : Result (List Cut) ShapeFault) : Type 0 where
  added : Cut
  items : after' ≡ before ++ (added ∷ [])
  is : now ≡ and_then (Ok added) rest
  lawful : IsCut (get_or ns i 0) added

pub loop-axis-preserved : goal.loop-axis-preserved
loop-axis-preserved c =
    let ns : List ℕ = c.args.lengths.now in
    let slices = c.args.slices.now in
    let i : ℕ = c.loop-axis.axis in
    let below : i < length ns = c.loop-axis-test.true in
    let some : 1 ≤ get_or ns i 0 = length_at i ns c.requires.some below in
    let turned : Turn ns c.loop-axis.cuts.items c.if-axis-slices.cuts.items i (all_cuts (drop i ns) (drop i slices)) (all_cuts (drop (i + 1) ns) (drop (i + 1) slices)) =
    elim c.if-axis-slices.branch [
      | then-axis-slices+in_ok-cut w ↦
          record {
            added = w.in_ok-cut.field-0;
            items = ap (λ xs. xs.items) w.cuts-is ∙ w.push.ensures.items;
            is =
                cuts_more ns slices i no_slice below w.if-axis-slices.true
                ∙ ap (λ r. and_then r (all_cuts (drop (i + 1) ns) (drop (i + 1) slices))) (sym w.in_ok-cut.ensures.cut);
            lawful = w.in_ok-cut.ensures.lawful;
          }
      | else-axis-slices w ↦
          let n : ℕ = get_or ns i 0 in
          let step : w.push-else-axis-slices.new.self.items ≡ c.loop-axis.cuts.items ++ (whole_cut n ∷ []) =
          w.push-else-axis-slices.ensures.items
          ∙ ap (λ z. c.loop-axis.cuts.items ++ (record { first = 0; count = n; step = z } ∷ []))
          (elim w.if-length-eq1.branch [
            | then-length-eq1 w' ↦ w'.push-is ∙ sym (cond-true (n == 1) (pos 0) (pos 1) (eq-eqb n 1 w'.if-length-eq1.true))
            | else-length-eq1 w' ↦ w'.push-is ∙ sym (cond-false (n == 1) (pos 0) (pos 1) (ne_eqb n 1 w'.if-length-eq1.false))
          ]) in
          record {
            added = whole_cut n;
            items = ap (λ xs. xs.items) w.cuts-is ∙ step;
            is = cuts_whole ns slices i below w.if-axis-slices.false;
            lawful = whole_lawful n some;
          }
    ] in
    record {
      many = ap length turned.items ∙ length-append c.loop-axis.cuts.items (_ ∷ []) ∙ ap (λ k. k + 1) c.loop-axis.invariant.many;
      so_far =
          ap (λ xs. after xs (all_cuts (drop (i + 1) ns) (drop (i + 1) slices))) turned.items
          ∙ after_more c.loop-axis.cuts.items turned.added (all_cuts (drop (i + 1) ns) (drop (i + 1) slices)) ∙ ap (after c.loop-axis.cuts.items) (sym turned.is) ∙ c.loop-axis.invariant.so_far;
      lawful =
          subst (λ xs. AreCuts xs c.if-axis-slices.cuts.items) (sym (take_more ns i 0 below))
          (subst (AreCuts (take i ns ++ (get_or ns i 0 ∷ []))) (sym turned.items) (cuts_append (take i ns) (get_or ns i 0 ∷ []) c.loop-axis.cuts.items (turned.added ∷ []) c.loop-axis.invariant.lawful (turned.lawful, tt)));
    }
