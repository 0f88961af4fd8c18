use Rattle.std.proofs.Common.{ℕ, ◌<◌, ◌≤◌, length}
use Rattle.arr_law.specs.Facts.{facts_of}
use Rattle.arr_law.specs.ProblemOf.{problem_of}
use Rattle.arr_state.specs.Went.{IsClash}
use Rattle.arr_state.proofs.clash.find_clash.Given as goal

abbrev pub invariant-loop-f : goal.invariant-loop-f
invariant-loop-f l = (f : ℕ) → f < l.f → (g : ℕ) → g ≤ length l.ops → IsClash (facts_of (problem_of l.ops) l.known.facts.items) f g → ⊥
