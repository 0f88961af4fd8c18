use Rattle.std.proofs.Common.{◌≡◌, drop}
use Rattle.arr_rewrite.specs.Writers.{unspoiled}
use Rattle.arr_rewrite.proofs.writers.unspoiled.Given as goal

abbrev pub invariant-loop-op : goal.invariant-loop-op
invariant-loop-op l = unspoiled (drop l.op-index l.ops) l.view ≡ unspoiled l.ops l.view
