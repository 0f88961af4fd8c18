use Rattle.arr_run.specs.Texts.{refusal_text}
use Rattle.arr_run.proofs.program.refuse.Goals as goal

pub returns-clause-ended : goal.returns-clause-ended
returns-clause-ended g c = c.end_with.ensures.ended (refusal_text c.args.refusal) c.refusal_text.ensures
