use Rattle.std.proofs.Common.{◌≡◌, ◌<◌, ℕ, None, length, get_or}
use Rattle.arr_machine.proofs.port.forget_places.Given as goal

abbrev pub invariant-loop-index : goal.invariant-loop-index
invariant-loop-index l =
    record {
      long : length l.places ≡ length l.fn.places;
      none : (r : ℕ) → r < l.index → get_or l.places r None ≡ None;
    }
