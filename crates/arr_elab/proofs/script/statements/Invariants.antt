use Rattle.std.proofs.Common.{◌≡◌, length}
use Rattle.arr_elab.specs.Outcome.{IsReached, statements}
use Rattle.arr_elab.proofs.script.statements.Given as goal

abbrev pub invariant-loop-rest : goal.invariant-loop-rest
invariant-loop-rest l = (statements l.initial.rest l.initial.reader ≡ statements l.rest l.reader) × IsReached l.reader

abbrev pub decreases-loop-rest : goal.decreases-loop-rest
decreases-loop-rest l = length l.rest
