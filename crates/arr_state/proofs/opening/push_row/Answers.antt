use Rattle.arr_law.specs.ProblemOf.{problem_of}
use Rattle.arr_state.specs.Known.{after}
use Rattle.arr_state.specs.Opening.{no_facts}
use Rattle.arr_state.proofs.Openings.{row_next}
use Rattle.arr_state.proofs.opening.push_row.Goals as goal

pub loop-g-preserved : goal.loop-g-preserved
loop-g-preserved c = row_next (problem_of c.args.graph.now) c.loop-g.g c.args.f (after no_facts c.args.roots.now.items) (after no_facts c.loop-g.roots.items) (after no_facts c.push_pair.new.roots.items) c.loop-g.invariant c.in_ok-push_pair.ensures
