use Rattle.std.proofs.Common.{◌≡◌, ℕ, ◌+◌, ◌<◌, false}
use Rattle.std.specs.Prelude.{◌||◌, ◌==◌}
use Rattle.arr_law.specs.declared.fact.Fact.TheVariants.{Same}
use Rattle.arr_state.specs.States.{known}
use Rattle.arr_search.proofs.decided.label_of.Given as goal

abbrev pub invariant-loop-place : goal.invariant-loop-place
invariant-loop-place l = (k : ℕ) → k < l.place → ((1 + k == l.f) || known l.state (Same (1 + k) l.f)) ≡ false
