use Rattle.std.proofs.Common.{◌≡◌, ℕ, ◌<◌, true, pos}
use Rattle.arr_num.specs.Numbers.{wrap}
use Rattle.arr_native.specs.Entries.{entry}
use Rattle.arr_vector.proofs.element_wise.one_number.Given as goal

abbrev pub invariant-loop-i : goal.invariant-loop-i
invariant-loop-i g l = record { each : l.same ≡ true → (k : ℕ) → k < l.i → entry g.T.Native.number l.b k ≡ wrap g.T.Native.elem (pos l.bits) }
