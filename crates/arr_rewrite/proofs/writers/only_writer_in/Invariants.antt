use Rattle.std.proofs.Common.{◌≡◌, drop}
use Rattle.arr_rewrite.specs.Writers.{only_writer_in}
use Rattle.arr_rewrite.proofs.writers.only_writer_in.Given as goal

abbrev pub invariant-loop-place : goal.invariant-loop-place
invariant-loop-place l = only_writer_in (drop l.place l.ops) l.base ≡ only_writer_in l.ops l.base
