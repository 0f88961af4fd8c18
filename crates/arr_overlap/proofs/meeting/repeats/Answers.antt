use Rattle.std.proofs.Common.{◌≡◌, ◌∙◌, ◌<◌, ◌++◌, ◌∷◌, [], ap, sym, arith, subst, rules, refl, true}
use Rattle.arr_view.specs.Views.{elements, has, repeated, most_elements}
use Rattle.arr_overlap.specs.Marks.{Marks}
use Rattle.arr_overlap.proofs.Marking.{at_end, below, found_again, fresh_more, marks_more, marks_none, next_one, one_more}
use Rattle.arr_overlap.proofs.meeting.repeats.Goals as goal

pub loop-element-init : goal.loop-element-init
loop-element-init c = record {
  whole = sym c.new-element-items.ensures ∙ sym c.into_iter-element-iterator.ensures.into_iter_gives;
  marks = marks_none c.in_ok-bits.bits c.in_ok-bits.ensures;
  fresh = refl;
}

pub has-requires : goal.has-requires
has-requires c =
    let inside : c.in-Some-element.element < most_elements = below c.args.view.now _ _ c.in-Some-element.element c.told_by_strides.ensures.lawful (next_one _ _ _ _ _ c.loop-element.invariant.whole c.in-Some-element.ensures.steps) in
    let long = c.loop-element.invariant.marks.long in
    omega arith

pub returns-then-has : goal.returns-then-has
returns-then-has c =
    let inside : c.in-Some-element.element < most_elements = below c.args.view.now _ _ c.in-Some-element.element c.told_by_strides.ensures.lawful (next_one _ _ _ _ _ c.loop-element.invariant.whole c.in-Some-element.ensures.steps) in
    let seen : has c.loop-element.yielded c.in-Some-element.element ≡ true = sym (c.loop-element.invariant.marks.each c.in-Some-element.element inside) ∙ sym c.has.ensures ∙ c.if-has.true in
    sym (ap repeated (next_one _ _ _ _ _ c.loop-element.invariant.whole c.in-Some-element.ensures.steps) ∙ found_again c.loop-element.yielded c.next.new.self c.in-Some-element.element seen)

pub insert-requires : goal.insert-requires
insert-requires c =
    let inside : c.in-Some-element.element < most_elements = below c.args.view.now _ _ c.in-Some-element.element c.told_by_strides.ensures.lawful (next_one _ _ _ _ _ c.loop-element.invariant.whole c.in-Some-element.ensures.steps) in
    let long = c.loop-element.invariant.marks.long in
    omega arith

pub loop-element-preserved : goal.loop-element-preserved
loop-element-preserved c =
    let inside : c.in-Some-element.element < most_elements = below c.args.view.now _ _ c.in-Some-element.element c.told_by_strides.ensures.lawful (next_one _ _ _ _ _ c.loop-element.invariant.whole c.in-Some-element.ensures.steps) in
    record {
      whole = one_more _ _ _ _ _ c.loop-element.invariant.whole c.in-Some-element.ensures.steps;
      marks = subst (λ b. Marks b (c.loop-element.yielded ++ c.in-Some-element.element ∷ [])) (sym c.insert.ensures)
          (marks_more c.loop-element.bits c.loop-element.yielded c.in-Some-element.element c.loop-element.invariant.marks inside);
      fresh = fresh_more c.loop-element.yielded c.in-Some-element.element c.loop-element.invariant.fresh
          (sym (c.loop-element.invariant.marks.each c.in-Some-element.element inside) ∙ sym c.has.ensures ∙ c.if-has.false);
    }

pub returns : goal.returns
returns c = sym (ap repeated (at_end (elements c.args.view.now) c.loop-element.yielded c.loop-element.element-iterator c.loop-element.invariant.whole (search rules)) ∙ c.loop-element.invariant.fresh)
