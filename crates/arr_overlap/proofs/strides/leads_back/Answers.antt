use Rattle.std.proofs.Common.{◌≡◌, ℕ, ◌≤◌, ◌+◌, ◌-◌, ◌*◌, ◌∷◌, refl, ap, sym, ◌∙◌, subst, arith}
use Rattle.arr_overlap.specs.Legs.{reach, AreLegs, LeadTo}
use Rattle.arr_overlap.specs.declared.legs.Leg.{Leg}
use Rattle.arr_overlap.proofs.Leading.{behind, from_joined, joined, of_more_dimensions}
use Rattle.arr_overlap.proofs.strides.leads_back.Goals as goal

pub reach-middle-requires : goal.reach-middle-requires
reach-middle-requires c = subst (AreLegs 8) (sym c.as_slice.ensures.value) (of_more_dimensions 6 8 c.args.legs.now.items (omega arith) c.requires.legs)

pub add-requires-clause-legs : goal.add-requires-clause-legs
add-requires-clause-legs c = of_more_dimensions 6 7 c.args.legs.now.items (omega arith) c.requires.legs

pub miss-requires : goal.miss-requires
miss-requires c = subst (AreLegs 8) (sym c.as_slice-then-step-middle.ensures.value) (of_more_dimensions 7 8 c.add.new.legs.items (omega arith) (c.add.ensures.legs 6 c.requires.legs))

pub returns-clause-reach : goal.returns-clause-reach
returns-clause-reach c told =
    let n : ℕ = c.args.length in
    let a : ℕ = c.args.step in
    let long : 2 ≤ n = c.requires.length.0 in
    let whole : (n + (n - 1)) - 1 ≡ ((n + 1) - 1) + ((n - 1) - 1) = omega arith in
    let parts : ((n + (n - 1)) - 1) * a ≡ ((n + 1) - 1) * a + ((n - 1) - 1) * a = ap (λ k. k * a) whole ∙ (let o : (((n + 1) - 1) + ((n - 1) - 1)) * a ≡ ((n + 1) - 1) * a + ((n - 1) - 1) * a = omega arith in o) in
    let first : reach c.add.new.legs.items ≡ ((n - 1) - 1) * a + reach c.args.legs.now.items = c.add.ensures.reach in
    let second : reach c.add-2.new.legs.items ≡ ((n + 1) - 1) * a + reach c.add.new.legs.items = c.add-2.ensures.reach in
    omega arith

pub returns-clause-missed : goal.returns-clause-missed
returns-clause-missed c told t h =
    let n : ℕ = c.args.length in
    let x : Leg = record { places = n - 1; step = c.args.step } in
    let l : Leg = record { places = n + 1; step = c.args.step } in
    let long : 2 ≤ n = c.requires.length.0 in
    let whole : n + (n - 1) ≡ (n - 1) + ((n + 1) - 1) = omega arith in
    let led : LeadTo (joined x l ∷ c.args.legs.now.items) t = subst (λ k. LeadTo (record { places = k; step = c.args.step } ∷ c.args.legs.now.items) t) whole h in
    c.add-2.ensures.missed t (behind l (x ∷ c.args.legs.now.items) c.add.new.legs.items c.add.ensures.missed t (from_joined x l c.args.legs.now.items t refl (omega arith) (omega arith) led))
