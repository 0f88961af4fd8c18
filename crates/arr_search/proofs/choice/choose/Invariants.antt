use Rattle.std.proofs.Common.{◌≡◌, ℕ, ◌<◌, ◌≤◌, length, false}
use Rattle.arr_law.specs.ProblemOf.{problem_of}
use Rattle.arr_law.specs.Trees.{may_branch}
use Rattle.arr_state.specs.States.{known}
use Rattle.arr_search.proofs.choice.choose.Given as goal

abbrev pub invariant-loop-f : goal.invariant-loop-f
invariant-loop-f l = (k : ℕ) → k < l.f → (g : ℕ) → g ≤ length l.graph → may_branch (problem_of l.graph) (known l.state) k g ≡ false
