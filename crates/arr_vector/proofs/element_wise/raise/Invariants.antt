use Rattle.std.proofs.Common.{◌≡◌, ℕ, ◌<◌, length, pos}
use Rattle.arr_num.specs.Numbers.{value}
use Rattle.arr_num.specs.declared.code.Code.TheVariants.{Power}
use Rattle.arr_native.specs.Entries.{entry}
use Rattle.arr_vector.proofs.element_wise.raise.Given as goal

abbrev pub invariant-loop-i : goal.invariant-loop-i
invariant-loop-i g l = record { long : length l.out ≡ length l.fn.out; each : (k : ℕ) → k < l.i → entry g.T.Native.number l.out k ≡ value Power g.T.Native.elem (entry g.T.Native.number l.a k) (pos l.exponent) }
