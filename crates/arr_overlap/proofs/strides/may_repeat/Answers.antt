use Rattle.std.proofs.Common.{◌≡◌, ℕ, ℤ, pos, ◌+◌, ◌-◌, ◌≤◌, List, ◌∷◌, drop, length, get_or, w32, false, ap, ap₂, sym, ◌∙◌, subst, arith, rules}
use Rattle.std.specs.Prelude.{nat_le, unsigned_abs}
use Rattle.std.proofs.lemmas.Bool.{and_parts, leb-true}
use Rattle.std.proofs.lemmas.Int.{to_z-of_z}
use mir.Val.{SFits}
use Rattle.arr_view.specs.Strided.{Strided}
use Rattle.arr_view.specs.Views.{positions}
use Rattle.arr_view.proofs.Checks.{lawful, same_rank}
use Rattle.arr_overlap.specs.Legs.{both_ways_of, reach, IsOpen, LeadTo}
use Rattle.arr_overlap.specs.declared.legs.Leg.{Leg}
use Rattle.arr_overlap.proofs.Leading.{of_more_dimensions}
use Rattle.arr_overlap.proofs.Steps.{behind_at, behind_more, behind_none, behind_short, each_length, open_fresh, Behind}
use Rattle.arr_overlap.proofs.strides.may_repeat.Goals as goal
use Rattle.arr_overlap.proofs.strides.may_repeat.Goals.{else-length-gt1-via-then-length-gt1+else-leads_back, else-length-gt1-via-else-length-gt1}

pub loop-axis-init : goal.loop-axis-init
loop-axis-init c =
    let v : Strided = c.args.view.now in
    let rank : ℕ = length c.shape-shape.result.now in
    let whole : rank ≡ length v.lengths = ap length c.shape-shape.ensures.value in
    behind_none v.lengths v.strides rank (8 - (rank + rank)) c.new-legs.result.items (omega arith) c.new-legs.ensures

pub bounds-strides-axis : goal.bounds-strides-axis
bounds-strides-axis c =
    let v : Strided = c.args.view.now in
    let same : length v.strides ≡ length v.lengths = same_rank v c.strides-strides.ensures.lawful in
    let a : length c.shape-shape.result.now ≡ length v.lengths = ap length c.shape-shape.ensures.value in
    let b : length c.strides-strides.result.now ≡ length v.strides = ap length c.strides-strides.ensures.value in
    let low : c.loop-axis.axis ≤ length c.shape-shape.result.now = c.loop-axis.auto.axis in
    let some = c.loop-axis-test.true in
    omega arith

pub leads_back-requires-clause-legs : goal.leads_back-requires-clause-legs
leads_back-requires-clause-legs c =
    let some = c.loop-axis-test.true in
    of_more_dimensions (8 - (c.loop-axis.axis + c.loop-axis.axis)) 6 c.loop-axis.legs.items (omega arith) c.loop-axis.invariant.are

pub leads_back-requires-clause-length : goal.leads_back-requires-clause-length
leads_back-requires-clause-length c =
    let v : Strided = c.args.view.now in
    let i : ℕ = c.loop-axis.axis in
    let n : ℕ = get_or v.lengths (i - 1) 0 in
    let a : length c.shape-shape.result.now ≡ length v.lengths = ap length c.shape-shape.ensures.value in
    let low : i ≤ length c.shape-shape.result.now = c.loop-axis.auto.axis in
    let some = c.loop-axis-test.true in
    let own : c.from-length.result ≡ n = c.from-length.ensures ∙ ap (λ xs. get_or xs (i - 1) 0) c.shape-shape.ensures.value in
    let few : n ≤ positions v.lengths = (each_length v.lengths (i - 1) (lawful v c.strides-strides.ensures.lawful).lengths (omega arith)).1 in
    let size : positions v.lengths ≤ 1048576 = (lawful v c.strides-strides.ensures.lawful).size in
    let long = c.if-length-gt1.true in
    (omega arith, omega arith)

pub loop-axis-preserved : goal.loop-axis-preserved
loop-axis-preserved c =
    let v : Strided = c.args.view.now in
    let i : ℕ = c.loop-axis.axis in
    let n : ℕ = get_or v.lengths (i - 1) 0 in
    let s : ℤ = get_or v.strides (i - 1) (pos 0) in
    let bits : ℤ = get_or c.strides-strides.result.now (i - 1) (pos 0) in
    let fits : SFits w32 bits = search rules in
    let step : c.from-step.result ≡ unsigned_abs s =
    c.from-step.ensures ∙ c.unsigned_abs.ensures.value ∙ ap unsigned_abs (to_z-of_z w32 bits fits) ∙ ap (λ xs. unsigned_abs (get_or xs (i - 1) (pos 0))) c.strides-strides.ensures.value in
    let own : c.from-length.result ≡ n = c.from-length.ensures ∙ ap (λ xs. get_or xs (i - 1) 0) c.shape-shape.ensures.value in
    let a : length c.shape-shape.result.now ≡ length v.lengths = ap length c.shape-shape.ensures.value in
    let low : i ≤ length c.shape-shape.result.now = c.loop-axis.auto.axis in
    let some = c.loop-axis-test.true in
    let rank : length v.lengths ≤ 4 = leb-true (length v.lengths) 4 (and_parts (nat_le 1 (length v.lengths)) (nat_le (length v.lengths) 4) (lawful v c.strides-strides.ensures.lawful).rank).1 in
    let next : ℕ = 8 - ((i - 1) + (i - 1)) in
    behind_at v.lengths v.strides i next c.else-length-gt1.legs.items (same_rank v c.strides-strides.ensures.lawful) (omega arith) (omega arith)
    (elim c.else-length-gt1.branch [
      | else-length-gt1-via-then-length-gt1+else-leads_back w ↦
          let told : w.leads_back.result ≡ false = w.if-leads_back.false in
          let legs : List Leg = c.loop-axis.legs.items in
          let more : List Leg = w.leads_back.new.legs.items in
          let long = w.if-length-gt1.true in
          let both : both_ways_of c.from-length.result c.from-step.result ≡ both_ways_of n (unsigned_abs s) = ap₂ both_ways_of own step in
          subst (Behind (n ∷ drop i v.lengths) (s ∷ drop i v.strides) next) (sym (ap (λ ls. ls.items) w.legs-is))
          (behind_more n s (drop i v.lengths) (drop i v.strides) (8 - (i + i)) next legs more (omega arith) (omega arith) c.loop-axis.invariant
          (subst (λ k. IsOpen n k legs) step (subst (λ k. IsOpen k c.from-step.result legs) own (w.leads_back.ensures.free told))) (w.leads_back.ensures.legs told (8 - (i + i)) c.loop-axis.invariant.are)
          (subst (λ x. reach more ≡ reach (x ∷ legs)) both (w.leads_back.ensures.reach told)) (λ t h. w.leads_back.ensures.missed told t (subst (λ x. LeadTo (x ∷ legs) t) (sym both) h)))
      | else-length-gt1-via-else-length-gt1 w ↦
          let short = w.if-length-gt1.false in
          subst (Behind (n ∷ drop i v.lengths) (s ∷ drop i v.strides) next) (sym (ap (λ ls. ls.items) w.legs-is))
          (behind_short n s (drop i v.lengths) (drop i v.strides) (8 - (i + i)) next c.loop-axis.legs.items (omega arith) (omega arith) c.loop-axis.invariant)
    ])

pub returns : goal.returns
returns c told =
    let none : c.loop-axis.axis ≡ 0 = (let e = c.loop-axis-test.false in omega arith) in
    open_fresh c.args.view.now c.strides-strides.ensures.lawful (subst (λ i. Behind (drop i c.args.view.now.lengths) (drop i c.args.view.now.strides) (8 - (i + i)) c.loop-axis.legs.items) none c.loop-axis.invariant).free
