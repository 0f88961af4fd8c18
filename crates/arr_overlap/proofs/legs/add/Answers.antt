use Rattle.std.proofs.Common.{◌≡◌, ℕ, ◌≤◌, ◌<◌, ◌+◌, List, [], ◌∷◌, length, get_or, set, ap, sym, ◌∙◌, subst, arith}
use Rattle.std.specs.List.{refill}
use Rattle.std.proofs.lemmas.List.{length-set}
use Rattle.arr_overlap.specs.Legs.{reach, AreLegs, LeadTo}
use Rattle.arr_overlap.specs.declared.legs.Leg.{Leg}
use Rattle.arr_overlap.proofs.Leading.{first_leg, from_inserted, from_set, joined, Joins, leg_at, legs_inserted, legs_set, reach_inserted, reach_set, refilled, to_inserted, to_set, with_joined}
use Rattle.arr_overlap.proofs.legs.add.Goals as goal

abbrev none : Leg
none = record { places = 0; step = 0 }

-- the legs with one of them made longer
lengthened : (l : Leg) (xs ys : List Leg) (i : ℕ) → ys ≡ xs → refill (length xs) xs (set ys i (joined (get_or ys i none) l)) ≡ with_joined l none xs i
lengthened l xs ys i same = ap (λ zs. refill (length xs) xs (set zs i (joined (get_or zs i none) l))) same ∙ refilled xs (with_joined l none xs i) (length-set xs i (joined (get_or xs i none) l))

joins : (l : Leg) (xs ys : List Leg) (i : ℕ) → AreLegs 7 xs → AreLegs 1 (l ∷ []) → ys ≡ xs → i < length xs → (get_or ys i none).step ≡ l.step → Joins l none xs i
joins l xs ys i legs leg same low step =
    (low, (sym (ap (λ zs. (get_or zs i none).step) same) ∙ step, ((leg_at 7 xs i none low legs.each).some, (first_leg 1 l [] leg).some)))

pub returns-then-deref-place-clause-legs : goal.returns-then-deref-place-clause-legs
returns-then-deref-place-clause-legs c k h =
    subst (AreLegs (k + 1)) (sym (lengthened c.args.leg c.args.legs.now.items c.deref_mut.result.now c.place_for-place.result c.deref_mut.ensures.value)) (legs_set c.args.leg none k c.args.legs.now.items c.place_for-place.result (let long : c.len.result ≡ length c.args.legs.now.items = c.len.ensures.value in let l = c.if-place-len.true in omega arith) (first_leg 1 c.args.leg [] c.requires.leg) h)

pub returns-then-deref-place-clause-reach : goal.returns-then-deref-place-clause-reach
returns-then-deref-place-clause-reach c = ap reach (lengthened c.args.leg c.args.legs.now.items c.deref_mut.result.now c.place_for-place.result c.deref_mut.ensures.value) ∙ reach_set c.args.leg none c.args.legs.now.items c.place_for-place.result (joins c.args.leg c.args.legs.now.items c.deref.result.now c.place_for-place.result c.requires.legs c.requires.leg c.deref.ensures.0 (let long : c.len.result ≡ length c.args.legs.now.items = c.len.ensures.value in let l = c.if-place-len.true in omega arith) c.if-deref-place.true)

pub returns-then-deref-place-clause-reached : goal.returns-then-deref-place-clause-reached
returns-then-deref-place-clause-reached c t h =
    from_set c.args.leg none c.args.legs.now.items c.place_for-place.result t (joins c.args.leg c.args.legs.now.items c.deref.result.now c.place_for-place.result c.requires.legs c.requires.leg c.deref.ensures.0 (let long : c.len.result ≡ length c.args.legs.now.items = c.len.ensures.value in let l = c.if-place-len.true in omega arith) c.if-deref-place.true) (subst (λ ls. LeadTo ls t) (lengthened c.args.leg c.args.legs.now.items c.deref_mut.result.now c.place_for-place.result c.deref_mut.ensures.value) h)

pub returns-then-deref-place-clause-missed : goal.returns-then-deref-place-clause-missed
returns-then-deref-place-clause-missed c t h =
    subst (λ ls. LeadTo ls t) (sym (lengthened c.args.leg c.args.legs.now.items c.deref_mut.result.now c.place_for-place.result c.deref_mut.ensures.value)) (to_set c.args.leg none c.args.legs.now.items c.place_for-place.result t (joins c.args.leg c.args.legs.now.items c.deref.result.now c.place_for-place.result c.requires.legs c.requires.leg c.deref.ensures.0 (let long : c.len.result ≡ length c.args.legs.now.items = c.len.ensures.value in let l = c.if-place-len.true in omega arith) c.if-deref-place.true) h)

pub returns-else-place-len-clause-legs : goal.returns-else-place-len-clause-legs
returns-else-place-len-clause-legs c k h =
    let low : c.place_for-place.result ≤ length c.as_slice.result.now = c.place_for-place.ensures in
    subst (AreLegs (k + 1)) (sym c.insert.ensures.items)
    (legs_inserted k c.args.leg c.args.legs.now.items c.place_for-place.result (subst (λ ls. c.place_for-place.result ≤ length ls) c.as_slice.ensures.value low) (first_leg 1 c.args.leg [] c.requires.leg) h)

pub returns-else-place-len-clause-reach : goal.returns-else-place-len-clause-reach
returns-else-place-len-clause-reach c = ap reach c.insert.ensures.items ∙ reach_inserted c.args.leg c.args.legs.now.items c.place_for-place.result

pub returns-else-place-len-clause-reached : goal.returns-else-place-len-clause-reached
returns-else-place-len-clause-reached c t h = from_inserted c.args.leg c.args.legs.now.items c.place_for-place.result t (subst (λ ls. LeadTo ls t) c.insert.ensures.items h)

pub returns-else-place-len-clause-missed : goal.returns-else-place-len-clause-missed
returns-else-place-len-clause-missed c t h = subst (λ ls. LeadTo ls t) (sym c.insert.ensures.items) (to_inserted c.args.leg c.args.legs.now.items c.place_for-place.result t h)
