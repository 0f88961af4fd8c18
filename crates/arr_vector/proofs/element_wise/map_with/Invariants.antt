use Rattle.std.proofs.Common.{◌≡◌, ℕ, ◌<◌, length}
use Rattle.arr_num.specs.Numbers.{value}
use Rattle.arr_native.specs.Entries.{entry}
use Rattle.arr_vector.proofs.element_wise.map_with.Given as goal

abbrev pub invariant-loop-i : goal.invariant-loop-i
invariant-loop-i g l =
    record {
      long : length l.out ≡ length l.fn.out;
      each : (k : ℕ) → k < l.i → entry g.U.Native.number l.out k ≡ value l.fn._code g.U.Native.elem (entry g.T.Native.number l.a k) (entry g.T.Native.number l._b k);
    }
