use Rattle.std.proofs.Common.{◌≡◌, ◌*◌, ℕ, min}
use Rattle.std.specs.Prelude.{◌||◌}
use Rattle.arr_sets.specs.Bits.{in_run, is_set}
use Rattle.arr_sets.proofs.bits.set_run.Given as goal

abbrev pub invariant-loop-index : goal.invariant-loop-index
invariant-loop-index l = (i : ℕ) → is_set l.words i ≡ (in_run l.fn.from (min l.fn.end (64 * l.index)) i || is_set l.initial.words i)
