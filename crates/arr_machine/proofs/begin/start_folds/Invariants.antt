use Rattle.std.proofs.Common.{◌≡◌, length}
use Rattle.arr_machine.specs.Kept.{StartsBelow, TypedKept}
use Rattle.arr_machine.proofs.begin.start_folds.Given as goal

abbrev pub invariant-loop-index : goal.invariant-loop-index
invariant-loop-index l =
    record {
      long : length l.numbers ≡ length l.fn.numbers;
      kept : TypedKept l.ops l.numbers;
      starts : StartsBelow l.ops l.index l.numbers;
    }
