use Rattle.std.proofs.Common.{◌∙◌, ◌+◌, sym}
use Rattle.std.specs.Prelude.{◌==◌}
use Rattle.arr_check.proofs.Loops.{any_more, any_there}
use Rattle.arr_check.proofs.plan.is_followed.Goals as goal

pub returns-then-comes_before : goal.returns-then-comes_before
returns-then-comes_before c = sym (any_there (λ q. q + 1 == c.args.place) c.args.places.now c.loop-at.at c.at.result.now c.at.ensures (sym c.comes_before.ensures ∙ c.if-comes_before.true))

pub loop-at-preserved : goal.loop-at-preserved
loop-at-preserved c = any_more (λ q. q + 1 == c.args.place) c.args.places.now c.loop-at.at c.at.result.now c.at.ensures c.loop-at.invariant (sym c.comes_before.ensures ∙ c.if-comes_before.false)
