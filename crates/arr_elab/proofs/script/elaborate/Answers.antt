use Rattle.std.proofs.Common.{rules}
use Rattle.arr_elab.proofs.Recorded.{recorded}
use Rattle.arr_elab.proofs.script.elaborate.Goals as goal

pub returns-clause-recording : goal.returns-clause-recording
returns-clause-recording c = recorded c.args.script.now.statements c.into_steps.result.items (search rules)
