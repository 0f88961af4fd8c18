use Rattle.arr_record.proofs.Following.{Along}
use Rattle.arr_record.proofs.recording.parts.Given as goal

abbrev pub invariant-loop-step : goal.invariant-loop-step
invariant-loop-step l = Along l.steps l.step-index l.writer l.owners
