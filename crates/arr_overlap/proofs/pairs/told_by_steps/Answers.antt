use Rattle.std.proofs.Common.{◌≡◌, ℕ, ◌-◌, ◌≤◌, List, [], Bool, true, false, sym, subst, refl, arith}
use Rattle.std.specs.Prelude.{IfSome, Option, Some, None}
use Rattle.arr_view.specs.Views.{elements}
use Rattle.arr_view.specs.Views.{share}
use Rattle.arr_overlap.specs.declared.legs.Leg.{Leg}
use Rattle.arr_overlap.specs.Legs.{with_dimensions, AreLegs, LeadTo}
use Rattle.arr_overlap.proofs.Shared.{leads_shared, more_dimensions, never_shared, shared_leads}
use Rattle.arr_overlap.proofs.pairs.told_by_steps.Goals as goal

pub returns-then-greatest-least : goal.returns-then-greatest-least
returns-then-greatest-least c =
    sym (never_shared (elements c.args.a.now) (elements c.args.b.now) (λ x here there.
    let led = shared_leads c.args.a.now c.args.b.now c.ends-least.result.0 c.ends-least.result.1 c.ends-bottom.result.0 c.ends-bottom.result.1 x c.ends-least.ensures.lawful c.ends-bottom.ensures.lawful
    c.ends-least.ensures.all c.ends-least.ensures.least c.ends-bottom.ensures.all c.ends-bottom.ensures.greatest here there in
    let order : c.ends-least.result.0 ≤ c.ends-bottom.result.1 = led.0 in
    let apart = c.if-greatest-least.true in
    omega arith))

pub add_dimensions-requires : goal.add_dimensions-requires
add_dimensions-requires c = subst (AreLegs 4) (sym c.new-legs.ensures) (record { few = omega arith; each = refl })

pub add_dimensions-requires-2 : goal.add_dimensions-requires-2
add_dimensions-requires-2 c = c.add_dimensions.ensures.legs 0 (omega arith) (subst (AreLegs 0) (sym c.new-legs.ensures) (record { few = omega arith; each = refl }))

pub lead_to-requires : goal.lead_to-requires
lead_to-requires c =
    subst (AreLegs 8) (sym c.as_slice.ensures.value)
    (c.add_dimensions-2.ensures.legs 4 (omega arith) (c.add_dimensions.ensures.legs 0 (omega arith) (subst (AreLegs 0) (sym c.new-legs.ensures) (record { few = omega arith; each = refl }))))

told : (o : Option Bool) (r : Bool) → (o ≡ Some true → r ≡ true) → (o ≡ Some false → r ≡ false) → IfSome o (λ b. b ≡ r)
told None r met missed = tt
told (Some true) r met missed = sym (met refl)
told (Some false) r met missed = sym (missed refl)

pub returns : goal.returns
returns c =
    let v = c.args.a.now in
    let w = c.args.b.now in
    let least : ℕ = c.ends-least.result.0 in
    let greatest : ℕ = c.ends-bottom.result.1 in
    let gap : ℕ = greatest - least in
    let order : least ≤ greatest = (let h = c.if-greatest-least.false in omega arith) in
    let first : List Leg = c.add_dimensions.new.legs.items in
    told c.lead_to.result (share (elements v) (elements w))
    (λ e.
    leads_shared v w least c.ends-least.result.1 c.ends-bottom.result.0 greatest c.ends-least.ensures.lawful c.ends-bottom.ensures.lawful
    c.ends-least.ensures.all c.ends-least.ensures.least c.ends-bottom.ensures.all c.ends-bottom.ensures.greatest order
    (more_dimensions w.lengths w.strides first (with_dimensions v.lengths v.strides [])
    (λ t h. subst (λ ls. LeadTo (with_dimensions v.lengths v.strides ls) t) c.new-legs.ensures (c.add_dimensions.ensures.reached t h)) gap
    (c.add_dimensions-2.ensures.reached gap (subst (LeadTo c.add_dimensions-2.new.legs.items) c.from.ensures (subst (λ ls. LeadTo ls c.from.result) c.as_slice.ensures.value (c.lead_to.ensures.reached e))))))
    (λ e.
    never_shared (elements v) (elements w) (λ x here there.
    let led = shared_leads v w least c.ends-least.result.1 c.ends-bottom.result.0 greatest x c.ends-least.ensures.lawful c.ends-bottom.ensures.lawful
    c.ends-least.ensures.all c.ends-least.ensures.least c.ends-bottom.ensures.all c.ends-bottom.ensures.greatest here there in
    let second : LeadTo c.add_dimensions-2.new.legs.items gap =
    c.add_dimensions-2.ensures.missed gap (more_dimensions w.lengths w.strides (with_dimensions v.lengths v.strides []) first
    (λ t h. c.add_dimensions.ensures.missed t (subst (λ ls. LeadTo (with_dimensions v.lengths v.strides ls) t) (sym c.new-legs.ensures) h)) gap led.1) in
    c.lead_to.ensures.missed e (subst (λ ls. LeadTo ls c.from.result) (sym c.as_slice.ensures.value) (subst (LeadTo c.add_dimensions-2.new.legs.items) (sym c.from.ensures) second))))
