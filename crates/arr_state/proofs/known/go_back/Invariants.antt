use Rattle.std.proofs.Common.{◌≡◌, ℕ, ◌<◌, ◌≤◌, length, take, get_or}
use Rattle.arr_law.specs.ProblemOf.{problem_of}
use Rattle.arr_state.specs.Kept.{IsKept}
use Rattle.arr_state.proofs.known.go_back.Given as goal

abbrev pub invariant-loop-known : goal.invariant-loop-known
invariant-loop-known l =
    record {
      kept : IsKept (problem_of l.ops) l.known;
      facts : l.known.facts.items ≡ take (length l.known.facts.items) l.fn.known.facts.items;
      within : l.mark ≤ length l.known.facts.items;
      low : (k : ℕ) → k < length l.known.closed.items → get_or l.known.closed.items k 0 ≤ l.mark;
    }

abbrev pub decreases-loop-known : goal.decreases-loop-known
decreases-loop-known l = length l.known.facts.items
