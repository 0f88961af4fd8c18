use Rattle.std.proofs.Common.{sym, ◌∙◌}
use Rattle.arr_overlap.proofs.Apart.{identical_meet}
use Rattle.arr_overlap.proofs.filters.decided.Goals as goal

pub returns-then-identical-clause-value : goal.returns-then-identical-clause-value
returns-then-identical-clause-value c = sym (identical_meet c.args.a.now c.args.b.now c.base.ensures.lawful (sym c.identical.ensures.value ∙ c.if-identical.true))
