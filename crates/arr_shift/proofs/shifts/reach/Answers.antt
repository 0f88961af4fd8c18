use Rattle.std.proofs.Common.{◌≡◌, ◌∙◌, ℕ, ◌+◌, ◌-◌, ◌*◌, ◌<◌, ◌≤◌, ◌^◌, ℤ, pos, ◌+ℤ◌, ◌*ℤ◌, List, ◌∷◌, ap, ap₂, sym, arith, rules, drop, get_or, length, to_z, of_z, w32, w64, unsigned_abs}
use Rattle.std.specs.Int.{w128}
use Rattle.std.proofs.lemmas.Int.{ints, to_z-of_z}
use Rattle.std.proofs.lemmas.List.{drop_more}
use mir.Val.{SFits}
use Rattle.arr_shift.specs.Shifts.{reach}
use Rattle.arr_shift.proofs.shifts.reach.Goals as goal

-- as the code adds it up
added : (s far : ℤ) (k : ℕ) → unsigned_abs s ≤ k * 2 ^ 63 → k < 4 → unsigned_abs far ≤ 9223372034707292160 → to_z w128 (of_z w128 (s +ℤ to_z w128 (of_z w128 (to_z w64 (of_z w64 far))))) ≡ s +ℤ far
added s far k a b c = omega (arith, ints)

small : (s far : ℤ) (k : ℕ) → unsigned_abs s ≤ k * 2 ^ 63 → unsigned_abs far ≤ 9223372034707292160 → unsigned_abs (s +ℤ far) ≤ (k + 1) * 2 ^ 63
small s far k a c = omega (arith, ints)

pub loop-axis-preserved : goal.loop-axis-preserved
loop-axis-preserved c =
    let i : ℕ = c.loop-axis.axis in
    let ns : List ℕ = c.args.lengths.now in
    let ss : List ℤ = c.args.strides.now in
    let n : ℕ = get_or ns i 0 in
    let s : ℤ = get_or ss i (pos 0) in
    let sum : ℤ = to_z w128 c.loop-axis.sum-bits in
    let fits : SFits w32 s = search rules in
    let far : c.offset.result ≡ pos (n - 1) *ℤ s = c.offset.ensures.value ∙ ap (λ y. pos (n - 1) *ℤ y) (to_z-of_z w32 s fits) in
    let there : i < length ns = c.loop-axis-test.true in
    let axis : i < 4 = omega (arith, c.requires.few) in
    let total = added sum c.offset.result i c.loop-axis.invariant.size axis c.offset.ensures.size in
    let here : reach (drop i ns) (drop i ss) ≡ c.offset.result +ℤ reach (drop (i + 1) ns) (drop (i + 1) ss) =
    ap₂ reach (drop_more ns i 0 there) (drop_more ss i (pos 0) (omega (arith, c.requires.same_rank))) ∙ ap (λ x. x +ℤ reach (drop (i + 1) ns) (drop (i + 1) ss)) (sym far) in
    record {
      sum = ap (λ x. x +ℤ reach (drop (i + 1) ns) (drop (i + 1) ss)) total ∙ grouped sum c.offset.result (reach (drop (i + 1) ns) (drop (i + 1) ss)) ∙ ap (λ x. sum +ℤ x) (sym here) ∙ c.loop-axis.invariant.sum;
      size = Rattle.std.proofs.Common.subst (λ x. unsigned_abs x ≤ (i + 1) * 2 ^ 63) (sym total) (small sum c.offset.result i c.loop-axis.invariant.size c.offset.ensures.size);
    }
  where
    grouped : (x y z : ℤ) → (x +ℤ y) +ℤ z ≡ x +ℤ (y +ℤ z)
    grouped x y z = omega (arith, ints)
