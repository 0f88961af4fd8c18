use Rattle.std.proofs.Common.{◌∙◌, ap, sym, arith, ◌+◌}
use Rattle.arr_view.proofs.Checks.{lawful}
use Rattle.arr_picks.proofs.Rows.{row_at, starts_low}
use Rattle.arr_picks.proofs.elements.element_at.Goals as goal

pub overflow_add-result : goal.overflow_add-result
overflow_add-result c =
    let low = starts_low c.args.view.now c.start.ensures.lawful in
    let few = (lawful c.args.view.now c.start.ensures.lawful).size in
    let below = c.requires.below in
    omega (arith, c.start.ensures.value)

pub returns-then-gapless-clause-value : goal.returns-then-gapless-clause-value
returns-then-gapless-clause-value c =
    ap (λ n. n + c.args.position) c.start.ensures.value ∙ row_at c.args.view.now c.args.position (sym c.requires.told ∙ c.if-gapless.true) c.requires.below
