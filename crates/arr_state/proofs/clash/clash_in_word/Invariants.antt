use Rattle.std.proofs.Common.{ℕ, ◌+◌, ◌*◌, ◌<◌}
use Rattle.arr_law.specs.Facts.{facts_of}
use Rattle.arr_law.specs.ProblemOf.{problem_of}
use Rattle.arr_state.specs.Went.{IsClash}
use Rattle.arr_state.proofs.clash.clash_in_word.Given as goal

abbrev pub invariant-loop-k : goal.invariant-loop-k
invariant-loop-k l = (k : ℕ) → k < l.k → IsClash (facts_of (problem_of l.ops) l.known.facts.items) l.f (64 * l.i + k) → ⊥
