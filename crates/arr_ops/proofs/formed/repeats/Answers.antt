use Rattle.std.proofs.Common.{◌≡◌, length, sym, ◌∙◌, arith}
use Rattle.std.proofs.lemmas.List.{at_drop_all}
use Rattle.arr_view.specs.Views.{elements, positions, repeated}
use Rattle.arr_ops.proofs.Parts.{length-elements, repeats_more, repeats_here}
use Rattle.arr_ops.proofs.formed.repeats.Goals as goal

pub returns : goal.returns
returns c =
    let long : length (elements c.args.view.now) ≡ positions c.args.view.now.lengths = length-elements c.args.view.now c.positions-position-end.ensures.lawful in
    sym (sym c.loop-position.invariant ∙ at_drop_all repeated (elements c.args.view.now) c.loop-position.position (let e : c.positions-position-end.result ≡ positions c.args.view.now.lengths = c.positions-position-end.ensures.value in omega arith))

pub returns-then-comes_again : goal.returns-then-comes_again
returns-then-comes_again c =
    let v = c.args.view.now in
    let long : length (elements v) ≡ positions v.lengths = length-elements v c.positions-position-end.ensures.lawful in
    let end : c.positions-position-end.result ≡ positions v.lengths = c.positions-position-end.ensures.value in
    sym (sym c.loop-position.invariant ∙ repeats_here (elements v) c.loop-position.position (omega arith) (sym c.comes_again.ensures ∙ c.if-comes_again.true))

pub loop-position-preserved : goal.loop-position-preserved
loop-position-preserved c =
    let v = c.args.view.now in
    let long : length (elements v) ≡ positions v.lengths = length-elements v c.positions-position-end.ensures.lawful in
    let end : c.positions-position-end.result ≡ positions v.lengths = c.positions-position-end.ensures.value in
    sym (repeats_more (elements v) c.loop-position.position (omega arith) (sym c.comes_again.ensures ∙ c.if-comes_again.false)) ∙ c.loop-position.invariant
