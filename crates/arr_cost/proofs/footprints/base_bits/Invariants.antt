use Rattle.std.proofs.Common.{◌≡◌, ℕ, ◌+◌, ◌<◌, ◌&&◌}
use Rattle.std.specs.Prelude.{nat_lt}
use Rattle.arr_cost.specs.Footprints.{base_bit, has_bit}
use Rattle.arr_cost.proofs.footprints.base_bits.Given as goal

abbrev pub invariant-loop-digit : goal.invariant-loop-digit
invariant-loop-digit l = (i : ℕ) → i < 64 → has_bit l.word i ≡ (nat_lt i l.digit && base_bit l.bases l.base (l.first + i))
