use Rattle.std.proofs.Common.{◌≤◌}
use Rattle.arr_contract.proofs.making.row_of.Given as goal

abbrev pub invariant-loop-port : goal.invariant-loop-port
invariant-loop-port l = 1 ≤ l.row
