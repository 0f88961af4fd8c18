use Rattle.std.proofs.Common.{◌≡◌, ℕ, ◌<◌, length}
use Rattle.arr_native.specs.Entries.{entry}
use Rattle.arr_vector.specs.Sorts.{plus}
use Rattle.arr_vector.proofs.element_wise.add_three.Given as goal

abbrev pub invariant-loop-i : goal.invariant-loop-i
invariant-loop-i g l =
    let n = entry g.T.Native.number in
    let p = plus g.T.Native.elem in
    record {
      long : length l.out ≡ length l.fn.out;
      each : (k : ℕ) → k < l.i → n l.out k ≡ p (p (n l.a k) (n l.b k)) (n l.c k);
    }
