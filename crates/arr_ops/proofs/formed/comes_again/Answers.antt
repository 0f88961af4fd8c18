use Rattle.std.proofs.Common.{◌≡◌, length, ap, sym, ◌∙◌, arith, drop, ◌+◌}
use Rattle.arr_view.specs.Views.{elements, positions, has}
use Rattle.arr_ops.proofs.Parts.{has_more, has_here, has_none, length-elements}
use Rattle.arr_ops.proofs.formed.comes_again.Goals as goal

pub returns-then-element : goal.returns-then-element
returns-then-element c =
    let v = c.args.view.now in
    let long : length (elements v) ≡ positions v.lengths = length-elements v c.element-element.ensures.lawful in
    let end : c.positions-later-end.result ≡ positions v.lengths = c.positions-later-end.ensures.value in
    sym (ap (has (drop (c.args.position + 1) (elements v))) (sym c.element-element.ensures.value) ∙ sym c.loop-later.invariant
    ∙ has_here (elements v) c.element-element.result c.loop-later.later (omega arith) (sym c.element.ensures.value ∙ c.if-element.true))

pub returns : goal.returns
returns c =
    let v = c.args.view.now in
    let long : length (elements v) ≡ positions v.lengths = length-elements v c.element-element.ensures.lawful in
    let end : c.positions-later-end.result ≡ positions v.lengths = c.positions-later-end.ensures.value in
    sym (ap (has (drop (c.args.position + 1) (elements v))) (sym c.element-element.ensures.value) ∙ sym c.loop-later.invariant
    ∙ has_none (elements v) c.element-element.result c.loop-later.later (omega arith))

pub loop-later-preserved : goal.loop-later-preserved
loop-later-preserved c =
    let v = c.args.view.now in
    let long : length (elements v) ≡ positions v.lengths = length-elements v c.element-element.ensures.lawful in
    let end : c.positions-later-end.result ≡ positions v.lengths = c.positions-later-end.ensures.value in
    sym (has_more (elements v) c.element-element.result c.loop-later.later (omega arith) (λ e. c.if-element.false (c.element.ensures.value ∙ e))) ∙ c.loop-later.invariant
