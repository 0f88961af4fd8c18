use Rattle.std.proofs.Common.{ap, sym}
use Rattle.arr_cert.specs.Texts.{line_text}
use Rattle.arr_cert.proofs.Writes.{wrote_as}
use Rattle.arr_cert.proofs.writing.put_record.Goals as goal

pub returns-in-Flush : goal.returns-in-Flush
returns-in-Flush g c = wrote_as _ _ _ _ _ _ _ _ _ _ c.put_head.ensures (ap line_text (sym c.in-Flush.is))

pub returns-in-Plan : goal.returns-in-Plan
returns-in-Plan g c = wrote_as _ _ _ _ _ _ _ _ _ _ c.put_plan.ensures (ap line_text (sym c.in-Plan.is))

pub returns-in-Cost : goal.returns-in-Cost
returns-in-Cost g c = wrote_as _ _ _ _ _ _ _ _ _ _ c.put_line.ensures (ap line_text (sym c.in-Cost.is))

pub returns-in-Bound : goal.returns-in-Bound
returns-in-Bound g c = wrote_as _ _ _ _ _ _ _ _ _ _ c.put_line-in-Bound.ensures (ap line_text (sym c.in-Bound.is))

pub returns-in-Step : goal.returns-in-Step
returns-in-Step g c = wrote_as _ _ _ _ _ _ _ _ _ _ c.put_step.ensures (ap line_text (sym c.in-Step.is))

pub returns-in-Branch : goal.returns-in-Branch
returns-in-Branch g c = wrote_as _ _ _ _ _ _ _ _ _ _ c.put_pair.ensures (ap line_text (sym c.in-Branch.is))

pub returns-in-Dead : goal.returns-in-Dead
returns-in-Dead g c = wrote_as _ _ _ _ _ _ _ _ _ _ c.put_pair-in-Dead.ensures (ap line_text (sym c.in-Dead.is))

pub returns-in-Worth : goal.returns-in-Worth
returns-in-Worth g c = wrote_as _ _ _ _ _ _ _ _ _ _ c.put_worth.ensures (ap line_text (sym c.in-Worth.is))

pub returns-in-End : goal.returns-in-End
returns-in-End g c = wrote_as _ _ _ _ _ _ _ _ _ _ c.put_line-in-End.ensures (ap line_text (sym c.in-End.is))
