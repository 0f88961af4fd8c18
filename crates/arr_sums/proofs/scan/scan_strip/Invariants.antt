use Rattle.std.proofs.Common.{◌≡◌, ◌≤◌, ◌-◌, length}
use Rattle.arr_sums.specs.Along.{ScansAlong}
use Rattle.arr_sums.specs.Kept.{ChangesWithin}
use Rattle.arr_sums.proofs.scan.scan_strip.Given as goal

abbrev pub invariant-loop-done : goal.invariant-loop-done
invariant-loop-done g l =
    record {
      long_out : length l.out ≡ length l.fn.out;
      changes : ChangesWithin g.T.Native.elem l.fn.at l.axis.inner l.fn.carries l.carries;
      below : l.done ≤ l.count;
      scanned : ScansAlong g.T.Native.elem g.T.Native.number l.code l.start l.axis l.fn.at l.fn.carries l.carries l.out l.source l.position 0 l.done;
    }

abbrev pub decreases-loop-done : goal.decreases-loop-done
decreases-loop-done g l = l.count - l.done
