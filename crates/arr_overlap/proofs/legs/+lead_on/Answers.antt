use Rattle.std.proofs.Common.{◌≡◌, ℕ, ◌≤◌, ◌<◌, ◌+◌, ◌-◌, ◌*◌, ◌/◌, List, ◌∷◌, length, Some, true, false, refl, ap, sym, ◌∙◌, subst, arith}
use Rattle.std.specs.Prelude.{nat_lt, min}
use Rattle.std.specs.Int.{div_ceil}
use Rattle.std.proofs.lemmas.Bool.{ltb-true, ltb-false}
use Rattle.arr_overlap.specs.Legs.{reach, AreLegs, LeadTo}
use Rattle.arr_overlap.specs.declared.legs.Leg.{Leg}
use Rattle.arr_overlap.proofs.Leading.{first_leg, other_legs, tried, Tried}
use Rattle.arr_overlap.proofs.Counting.{steps_within}
use Rattle.arr_overlap.proofs.legs.+lead_on.Goals as goal

pub loop-count-init : goal.loop-count-init
loop-count-init t c k low high h = omega arith

pub lead_on-requires : goal.lead_on-requires
lead_on-requires t c =
    let whole : c.args.legs.now ≡ c.in-Some.leg.now ∷ c.in-Some.others.now = c.in-Some.ensures.cases.0 in
    let long : length c.in-Some.others.now + 1 ≡ length c.args.legs.now = c.in-Some.ensures.cases.1 in
    let measure = c.decreases in
    (omega arith, other_legs 8 c.in-Some.leg.now c.in-Some.others.now (subst (AreLegs 8) whole c.requires))

pub loop-count-preserved : goal.loop-count-preserved
loop-count-preserved t c k low high h =
    elim (nat_lt k c.loop-count.count) as (λ b. nat_lt k c.loop-count.count ≡ b → ⊥) [
      | true ↦ λ e. c.loop-count.invariant k low (ltb-true k c.loop-count.count e) h
      | false ↦ λ e.
          let above : c.loop-count.count ≤ k = ltb-false k c.loop-count.count e in
          let same : k ≡ c.loop-count.count = omega arith in
          let here : LeadTo c.in-Some.others.now (c.args.target - c.loop-count.count * c.in-Some.leg.now.step) =
          subst (λ i. LeadTo c.in-Some.others.now (c.args.target - i * c.in-Some.leg.now.step)) same h in
          c.lead_on.ensures.missed (c.in_ok-lead_on.was ∙ ap Some c.if-branch.false) here
    ] refl

pub returns-clause-missed : goal.returns-clause-missed
returns-clause-missed t c told h =
    let whole : c.args.legs.now ≡ c.in-Some.leg.now ∷ c.in-Some.others.now = c.in-Some.ensures.cases.0 in
    let ls : List Leg = c.in-Some.others.now in
    let l : Leg = c.in-Some.leg.now in
    let n : ℕ = c.args.target in
    let moves : 1 ≤ l.step = (first_leg 8 l ls (subst (AreLegs 8) whole c.requires)).moves in
    let one : Tried l ls (div_ceil (n - reach ls) l.step) (min (n / l.step) (l.places - 1)) n = tried l ls n moves (subst (λ xs. LeadTo xs n) whole h) in
    let low : div_ceil (n - reach ls) l.step ≤ one.count = one.low in
    let high : one.count < min (n / l.step) (l.places - 1) + 1 = one.high in
    let least : c.div_ceil-least.result ≡ div_ceil (n - reach ls) l.step =
    c.div_ceil-least.ensures ∙ ap (λ r. div_ceil r l.step) (c.saturating_sub.ensures ∙ ap (λ r. n - r) c.reach.ensures.value) in
    let most : c.min-most.result ≡ min (n / l.step) (l.places - 1) = c.min-most.ensures in
    let done : c.min-most.result + 1 ≤ c.loop-count.count = c.loop-count-test.false in
    absurd (c.loop-count.invariant one.count (omega arith) (omega arith) one.on)

pub returns-then-counts-tries-clause-missed : goal.returns-then-counts-tries-clause-missed
returns-then-counts-tries-clause-missed t c told h =
    let whole : c.args.legs.now ≡ c.in-Some.leg.now ∷ c.in-Some.others.now = c.in-Some.ensures.cases.0 in
    let ls : List Leg = c.in-Some.others.now in
    let l : Leg = c.in-Some.leg.now in
    let n : ℕ = c.args.target in
    let moves : 1 ≤ l.step = (first_leg 8 l ls (subst (AreLegs 8) whole c.requires)).moves in
    let one : Tried l ls (div_ceil (n - reach ls) l.step) (min (n / l.step) (l.places - 1)) n = tried l ls n moves (subst (λ xs. LeadTo xs n) whole h) in
    let low : div_ceil (n - reach ls) l.step ≤ one.count = one.low in
    let high : one.count < min (n / l.step) (l.places - 1) + 1 = one.high in
    let least : c.div_ceil-least.result ≡ div_ceil (n - reach ls) l.step =
    c.div_ceil-least.ensures ∙ ap (λ r. div_ceil r l.step) (c.saturating_sub.ensures ∙ ap (λ r. n - r) c.reach.ensures.value) in
    let most : c.min-most.result ≡ min (n / l.step) (l.places - 1) = c.min-most.ensures in
    c.lead_by_two.ensures.missed told one.count (omega arith) (omega arith) one.on

pub returns-then-branch-clause-reached : goal.returns-then-branch-clause-reached
returns-then-branch-clause-reached t c e =
    let whole : c.args.legs.now ≡ c.in-Some.leg.now ∷ c.in-Some.others.now = c.in-Some.ensures.cases.0 in
    let l : Leg = c.in-Some.leg.now in
    let k : ℕ = c.loop-count.count in
    let n : ℕ = c.args.target in
    let most : c.min-most.result ≡ min (n / l.step) (l.places - 1) = c.min-most.ensures in
    let some : 1 ≤ l.places = (first_leg 8 l c.in-Some.others.now (subst (AreLegs 8) whole c.requires)).some in
    let low = c.loop-count-test.true in
    let near : k ≤ n / l.step = omega arith in
    let within : k * l.step ≤ n = steps_within n l.step k near in
    subst (λ xs. LeadTo xs n) (sym whole) (record {
      count = k;
      few = omega arith;
      left = n - k * l.step;
      sum = (let o : n ≡ k * l.step + (n - k * l.step) = omega arith in o);
      on = c.in_ok-lead_on.ensures.reached (ap Some c.if-branch.true);
    })
