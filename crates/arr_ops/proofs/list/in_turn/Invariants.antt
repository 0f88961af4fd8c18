use Rattle.std.proofs.Common.{◌≡◌, drop}
use Rattle.arr_ops.specs.Formed.{all_pairs, may_precede}
use Rattle.arr_ops.proofs.list.in_turn.Given as goal

abbrev pub invariant-loop-place : goal.invariant-loop-place
invariant-loop-place l = all_pairs may_precede (drop l.place l.ops) ≡ all_pairs may_precede l.ops
