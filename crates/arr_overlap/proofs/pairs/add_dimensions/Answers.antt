use Rattle.std.proofs.Common.{◌≡◌, ℕ, ℤ, pos, ◌+◌, ◌<◌, ◌≤◌, List, ◌∷◌, true, false, cond, length, get_or, w32, refl, ap, ap₂, sym, ◌∙◌, subst, arith, rules}
use Rattle.std.specs.Prelude.{◌==◌, nat_le, unsigned_abs}
use Rattle.std.proofs.lemmas.Bool.{and_from, and_parts, eqb-true, eq-eqb, false_from_ne_true, leb-true}
use Rattle.std.proofs.lemmas.Int.{to_z-of_z}
use mir.Val.{SFits}
use Rattle.arr_view.specs.Strided.{Strided}
use Rattle.arr_view.specs.Views.{positions}
use Rattle.arr_view.proofs.Checks.{lawful, same_rank}
use Rattle.arr_overlap.specs.Legs.{is_leg, AreLegs, LeadTo}
use Rattle.arr_overlap.specs.declared.legs.Leg.{Leg}
use Rattle.arr_overlap.proofs.Leading.{of_more_dimensions, within}
use Rattle.arr_overlap.proofs.Shared.{next_dimension, next_dimension_back, no_dimension, no_dimension_back}
use Rattle.arr_overlap.proofs.Steps.{each_length}
use Rattle.arr_overlap.proofs.pairs.add_dimensions.Goals as goal
use Rattle.arr_overlap.proofs.pairs.add_dimensions.Goals.{then-step-gt0, else-step-gt0}

pub loop-axis-init : goal.loop-axis-init
loop-axis-init c = record { are = λ k h. of_more_dimensions k (k + 0) c.args.legs.now.items (omega arith) h; led = λ t h. h; back = λ t h. h }

pub bounds-strides-axis : goal.bounds-strides-axis
bounds-strides-axis c =
    let v : Strided = c.args.view.now in
    let same : length v.strides ≡ length v.lengths = same_rank v c.strides-strides.ensures.lawful in
    let a : length c.shape-length-items.result.now ≡ length v.lengths = ap length c.shape-length-items.ensures.value in
    let b : length c.strides-strides.result.now ≡ length v.strides = ap length c.strides-strides.ensures.value in
    omega arith

pub add-requires-clause-legs : goal.add-requires-clause-legs
add-requires-clause-legs c =
    let v : Strided = c.args.view.now in
    let a : length c.shape-length-items.result.now ≡ length v.lengths = ap length c.shape-length-items.ensures.value in
    let rank : length v.lengths ≤ 4 = leb-true (length v.lengths) 4 (and_parts (nat_le 1 (length v.lengths)) (nat_le (length v.lengths) 4) (lawful v c.strides-strides.ensures.lawful).rank).1 in
    let low = c.loop-axis-test.true in
    of_more_dimensions (4 + c.loop-axis.axis) 7 c.loop-axis.legs.items (omega arith) (c.loop-axis.invariant.are 4 c.requires)

pub add-requires-clause-leg : goal.add-requires-clause-leg
add-requires-clause-leg c =
    let v : Strided = c.args.view.now in
    let i : ℕ = c.loop-axis.axis in
    let leg : Leg = record { places = c.from-places.result; step = c.from-step.result } in
    let below : i < length v.lengths = subst (λ xs. i < length xs) c.shape-length-items.ensures.value c.loop-axis-test.true in
    let own : c.from-places.result ≡ get_or v.lengths i 0 = c.from-places.ensures ∙ ap (λ xs. get_or xs i 0) c.shape-length-items.ensures.value in
    let each = each_length v.lengths i (lawful v c.strides-strides.ensures.lawful).lengths below in
    let low : 1 ≤ get_or v.lengths i 0 = each.0 in
    let few : get_or v.lengths i 0 ≤ positions v.lengths = each.1 in
    let size : positions v.lengths ≤ 1048576 = (lawful v c.strides-strides.ensures.lawful).size in
    let moves = c.if-step-gt0.true in
    let step : c.from-step.result ≡ c.unsigned_abs.result = c.from-step.ensures in
    let short : c.unsigned_abs.result ≤ 2147483648 = c.unsigned_abs.ensures.bound in
    record { few = omega arith; each = and_from (is_leg 1 leg) true (within 1 leg (omega arith) (omega arith) (omega arith) (omega arith)) refl }

pub loop-axis-preserved : goal.loop-axis-preserved
loop-axis-preserved c =
    let v : Strided = c.args.view.now in
    let i : ℕ = c.loop-axis.axis in
    let n : ℕ = get_or v.lengths i 0 in
    let s : ℤ = get_or v.strides i (pos 0) in
    let legs : List Leg = c.loop-axis.legs.items in
    let bits : ℤ = get_or c.strides-strides.result.now i (pos 0) in
    let fits : SFits w32 bits = search rules in
    let step : c.from-step.result ≡ unsigned_abs s =
    c.from-step.ensures ∙ c.unsigned_abs.ensures.value ∙ ap unsigned_abs (to_z-of_z w32 bits fits) ∙ ap (λ xs. unsigned_abs (get_or xs i (pos 0))) c.strides-strides.ensures.value in
    let own : c.from-places.result ≡ n = c.from-places.ensures ∙ ap (λ xs. get_or xs i 0) c.shape-length-items.ensures.value in
    let same : length v.strides ≡ length v.lengths = same_rank v c.strides-strides.ensures.lawful in
    let below : i < length v.lengths = subst (λ xs. i < length xs) c.shape-length-items.ensures.value c.loop-axis-test.true in
    elim c.if-step-gt0.branch [
      | then-step-gt0 w ↦
          let more : List Leg = w.add.new.legs.items in
          let up : more ≡ c.if-step-gt0.legs.items = sym (ap (λ ls. ls.items) w.legs-is) in
          let leg : Leg = record { places = n; step = unsigned_abs s } in
          let same_leg : record { places = c.from-places.result; step = c.from-step.result } ≡ leg = ap₂ (λ (p q : ℕ). record { places = p; step = q }) own step in
          let moves : unsigned_abs s ≡ 0 → ⊥ = λ z. (let m = w.if-step-gt0.true in omega arith) in
          let some : (unsigned_abs s == 0) ≡ false = false_from_ne_true (unsigned_abs s == 0) (λ e. moves (eqb-true (unsigned_abs s) 0 e)) in
          record {
            are = λ k h. subst (AreLegs (k + (i + 1))) up (of_more_dimensions ((k + i) + 1) (k + (i + 1)) more (omega arith) (w.add.ensures.legs (k + i) (c.loop-axis.invariant.are k h)));
            led = λ t h.
                next_dimension v.lengths v.strides i legs c.if-step-gt0.legs.items same below
                (λ u led. subst (λ ls. LeadTo ls u) up (w.add.ensures.missed u (subst (λ x. LeadTo (x ∷ legs) u) (sym same_leg) (subst (λ b. LeadTo (cond b legs (leg ∷ legs)) u) some led)))) t (c.loop-axis.invariant.led t h);
            back = λ t h.
                c.loop-axis.invariant.back t (next_dimension_back v.lengths v.strides i legs c.if-step-gt0.legs.items same below
                (λ u led. subst (λ b. LeadTo (cond b legs (leg ∷ legs)) u) (sym some) (subst (λ x. LeadTo (x ∷ legs) u) same_leg (w.add.ensures.reached u (subst (λ ls. LeadTo ls u) (sym up) led)))) t h);
          }
      | else-step-gt0 w ↦
          let up : legs ≡ c.if-step-gt0.legs.items = sym (ap (λ ls. ls.items) w.legs-is) in
          let leg : Leg = record { places = n; step = unsigned_abs s } in
          let still : unsigned_abs s ≡ 0 = (let m = w.if-step-gt0.false in omega arith) in
          let none : (unsigned_abs s == 0) ≡ true = eq-eqb (unsigned_abs s) 0 still in
          record {
            are = λ k h. subst (AreLegs (k + (i + 1))) up (of_more_dimensions (k + i) (k + (i + 1)) legs (omega arith) (c.loop-axis.invariant.are k h));
            led = λ t h.
                next_dimension v.lengths v.strides i legs c.if-step-gt0.legs.items same below (λ u led. subst (λ ls. LeadTo ls u) up (subst (λ b. LeadTo (cond b legs (leg ∷ legs)) u) none led)) t (c.loop-axis.invariant.led t h);
            back = λ t h.
                c.loop-axis.invariant.back t (next_dimension_back v.lengths v.strides i legs c.if-step-gt0.legs.items same below
                (λ u led. subst (λ b. LeadTo (cond b legs (leg ∷ legs)) u) (sym none) (subst (λ ls. LeadTo ls u) (sym up) led)) t h);
          }
    ]

pub returns-clause-legs : goal.returns-clause-legs
returns-clause-legs c k few h =
    let v : Strided = c.args.view.now in
    let a : length c.shape-length-items.result.now ≡ length v.lengths = ap length c.shape-length-items.ensures.value in
    let rank : length v.lengths ≤ 4 = leb-true (length v.lengths) 4 (and_parts (nat_le 1 (length v.lengths)) (nat_le (length v.lengths) 4) (lawful v c.strides-strides.ensures.lawful).rank).1 in
    let end : c.loop-axis.axis ≤ length c.shape-length-items.result.now = c.loop-axis.auto.axis-end in
    of_more_dimensions (k + c.loop-axis.axis) (k + 4) c.loop-axis.legs.items (omega arith) (c.loop-axis.invariant.are k h)

pub returns-clause-missed : goal.returns-clause-missed
returns-clause-missed c t h =
    let v : Strided = c.args.view.now in
    let done : length v.lengths ≤ c.loop-axis.axis = subst (λ xs. length xs ≤ c.loop-axis.axis) c.shape-length-items.ensures.value c.loop-axis-test.false in
    no_dimension v.lengths v.strides c.loop-axis.axis c.loop-axis.legs.items t done (c.loop-axis.invariant.led t h)

pub returns-clause-reached : goal.returns-clause-reached
returns-clause-reached c t h =
    let v : Strided = c.args.view.now in
    let done : length v.lengths ≤ c.loop-axis.axis = subst (λ xs. length xs ≤ c.loop-axis.axis) c.shape-length-items.ensures.value c.loop-axis-test.false in
    c.loop-axis.invariant.back t (no_dimension_back v.lengths v.strides c.loop-axis.axis c.loop-axis.legs.items t done h)
