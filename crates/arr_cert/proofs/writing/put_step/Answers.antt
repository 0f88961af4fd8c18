use Rattle.std.proofs.Common.{sym, ◌∙◌}
use Rattle.arr_cert.proofs.Writes.{wrote_as}
use Rattle.arr_cert.proofs.Lines.{step_two, step_three}
use Rattle.arr_cert.proofs.writing.put_step.Goals as goal

pub returns-then-two : goal.returns-then-two
returns-then-two g c = wrote_as _ _ _ _ _ _ _ _ _ _ c.put_line.ensures (step_two c.args.rule c.args.f c.args.g c.args.h _ _ _ c.from-number.ensures c.from-first.ensures c.from-second.ensures (sym c.takes_two-two.ensures ∙ c.if-two.true))

pub returns : goal.returns
returns g c = wrote_as _ _ _ _ _ _ _ _ _ _ c.put_line-2.ensures (step_three c.args.rule c.args.f c.args.g c.args.h _ _ _ _ c.from-number.ensures c.from-first.ensures c.from-second.ensures c.from.ensures (sym c.takes_two-two.ensures ∙ c.if-two.false))
