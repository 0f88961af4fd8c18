use Rattle.std.proofs.Common.{◌≡◌, ℕ, ◌<◌, false}
use Rattle.arr_law.specs.ProblemOf.{problem_of}
use Rattle.arr_law.specs.Trees.{may_branch}
use Rattle.arr_state.specs.States.{known}
use Rattle.arr_search.proofs.choice.partner_of.Given as goal

abbrev pub invariant-loop-g : goal.invariant-loop-g
invariant-loop-g l = (k : ℕ) → k < l.g → may_branch (problem_of l.graph) (known l.state) l.f k ≡ false
