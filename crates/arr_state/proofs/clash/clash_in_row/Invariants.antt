use Rattle.std.proofs.Common.{ℕ, ◌*◌, ◌<◌}
use Rattle.arr_law.specs.Facts.{facts_of}
use Rattle.arr_law.specs.ProblemOf.{problem_of}
use Rattle.arr_state.specs.Went.{IsClash}
use Rattle.arr_state.proofs.clash.clash_in_row.Given as goal

abbrev pub invariant-loop-i : goal.invariant-loop-i
invariant-loop-i l = (g : ℕ) → g < 64 * l.i → IsClash (facts_of (problem_of l.ops) l.known.facts.items) l.f g → ⊥
