use Rattle.std.proofs.Common.{◌≡◌, ◌∙◌, ◌<◌, ap, sym, arith, rules, refl, true, false}
use Rattle.arr_view.specs.Views.{elements, has, share, most_elements}
use Rattle.arr_overlap.proofs.Marking.{at_end, below, meet_on, next_one, one_more, shared, unshared}
use Rattle.arr_overlap.proofs.Apart.{undecided_base}
use Rattle.arr_overlap.proofs.meeting.overlaps.Goals as goal

pub loop-element-init : goal.loop-element-init
loop-element-init c = record {
  whole = sym c.new-element-items.ensures ∙ sym c.into_iter-element-iterator.ensures.into_iter_gives;
  none = refl;
}

pub has-requires : goal.has-requires
has-requires c =
    let inside : c.in-Some-element.element < most_elements = below c.args.a.now _ _ c.in-Some-element.element c.decided.ensures.lawful.0 (next_one _ _ _ _ _ c.loop-element.invariant.whole c.in-Some-element.ensures.steps) in
    let long = c.in_ok-bits.ensures.long in
    omega arith

pub returns-then-has : goal.returns-then-has
returns-then-has c =
    let inside : c.in-Some-element.element < most_elements = below c.args.a.now _ _ c.in-Some-element.element c.decided.ensures.lawful.0 (next_one _ _ _ _ _ c.loop-element.invariant.whole c.in-Some-element.ensures.steps) in
    let common : has (elements c.args.b.now) c.in-Some-element.element ≡ true = sym (c.in_ok-bits.ensures.each c.in-Some-element.element inside) ∙ sym c.has.ensures ∙ c.if-has.true in
    sym (meet_on c.args.a.now c.args.b.now true (undecided_base c.args.a.now c.args.b.now c.decided.result c.decided.ensures.bases c.in_default.is)
    (ap (λ es. share es (elements c.args.b.now)) (next_one _ _ _ _ _ c.loop-element.invariant.whole c.in-Some-element.ensures.steps)
    ∙ shared c.loop-element.yielded c.next.new.self (elements c.args.b.now) c.in-Some-element.element common))

pub loop-element-preserved : goal.loop-element-preserved
loop-element-preserved c =
    let inside : c.in-Some-element.element < most_elements = below c.args.a.now _ _ c.in-Some-element.element c.decided.ensures.lawful.0 (next_one _ _ _ _ _ c.loop-element.invariant.whole c.in-Some-element.ensures.steps) in
    record {
      whole = one_more _ _ _ _ _ c.loop-element.invariant.whole c.in-Some-element.ensures.steps;
      none = unshared c.loop-element.yielded (elements c.args.b.now) c.in-Some-element.element c.loop-element.invariant.none
          (sym (c.in_ok-bits.ensures.each c.in-Some-element.element inside) ∙ sym c.has.ensures ∙ c.if-has.false);
    }

pub returns : goal.returns
returns c =
    sym (meet_on c.args.a.now c.args.b.now false (undecided_base c.args.a.now c.args.b.now c.decided.result c.decided.ensures.bases c.in_default.is)
    (ap (λ es. share es (elements c.args.b.now)) (at_end _ _ _ c.loop-element.invariant.whole (search rules)) ∙ c.loop-element.invariant.none))
