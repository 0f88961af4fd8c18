use Rattle.std.proofs.Common.{◌∙◌, ◌<◌, sym, arith, subst, rules, ◌++◌, ◌∷◌, []}
use Rattle.arr_view.specs.Views.{most_elements}
use Rattle.arr_overlap.specs.Marks.{Marks}
use Rattle.arr_overlap.proofs.Marking.{at_end, below, marks_more, marks_none, next_one, one_more}
use Rattle.arr_overlap.proofs.meeting.marked_singly.Goals as goal

pub loop-element-init : goal.loop-element-init
loop-element-init c = record {
  whole = sym c.new-element-items.ensures ∙ sym c.into_iter-element-iterator.ensures.into_iter_gives;
  marks = marks_none c.in_ok-bits.bits c.in_ok-bits.ensures;
}

pub insert-requires : goal.insert-requires
insert-requires c =
    let inside : c.in-Some.element < most_elements = below c.args.view.now _ _ c.in-Some.element c.base-base.ensures.lawful (next_one _ _ _ _ _ c.loop-element.invariant.whole c.in-Some.ensures.steps) in
    let long = c.loop-element.invariant.marks.long in
    omega arith

pub loop-element-preserved : goal.loop-element-preserved
loop-element-preserved c =
    let inside : c.in-Some.element < most_elements = below c.args.view.now _ _ c.in-Some.element c.base-base.ensures.lawful (next_one _ _ _ _ _ c.loop-element.invariant.whole c.in-Some.ensures.steps) in
    record {
      whole = one_more _ _ _ _ _ c.loop-element.invariant.whole c.in-Some.ensures.steps;
      marks = subst (λ b. Marks b (c.loop-element.yielded ++ c.in-Some.element ∷ [])) (sym c.insert.ensures) (marks_more c.loop-element.bits c.loop-element.yielded c.in-Some.element c.loop-element.invariant.marks inside);
    }

pub returns : goal.returns
returns c = subst (Marks c.loop-element.bits) (sym (at_end _ _ _ c.loop-element.invariant.whole (search rules))) c.loop-element.invariant.marks
