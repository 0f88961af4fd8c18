use Rattle.std.proofs.Common.{◌≡◌, length, reverse}
use Rattle.arr_law.specs.ProblemOf.{problem_of}
use Rattle.arr_search.specs.Nodes.{IsSearch}
use Rattle.arr_search.specs.Running.{nodes}
use Rattle.arr_search.specs.Turns.{AreWaiting, pending_at}
use Rattle.arr_search.proofs.explore.explore.Given as goal

abbrev pub invariant-loop-draft : goal.invariant-loop-draft
invariant-loop-draft l = record {
  list : l.state.list ≡ l.graph;
  draft : l.draft.state.list ≡ l.graph;
  search : IsSearch l.graph l.budget (pending_at (problem_of l.graph) l.state.trail l.waits.items) l.progress;
  waits : AreWaiting (problem_of l.graph) l.state.trail (length l.state.trail) (reverse l.waits.items);
}

abbrev pub decreases-loop-draft : goal.decreases-loop-draft
decreases-loop-draft l = nodes (problem_of l.graph) (pending_at (problem_of l.graph) l.state.trail l.waits.items)
