use Rattle.std.proofs.Common.{◌*◌, ◌-◌, ◌≤◌}
use Rattle.arr_sums.specs.Along.{FoldsAlong}
use Rattle.arr_sums.specs.Kept.{ChangesWithin}
use Rattle.arr_sums.proofs.strip.fold_strip.Given as goal

abbrev pub invariant-loop-done : goal.invariant-loop-done
invariant-loop-done g l =
    record {
      below : l.done ≤ l.count;
      changes : ChangesWithin g.T.Native.elem l.fn.at (l.axis.outer * l.axis.inner) l.fn.sums l.sums;
      gathered : FoldsAlong g.T.Native.elem g.T.Native.number l.code l.axis l.fn.at l.fn.sums l.sums l.source l.position 0 l.done;
    }

abbrev pub decreases-loop-done : goal.decreases-loop-done
decreases-loop-done g l = l.count - l.done
