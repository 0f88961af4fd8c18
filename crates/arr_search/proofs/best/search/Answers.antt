use Rattle.std.proofs.Common.{◌∷◌, [], List, sym, subst}
use Rattle.std.specs.Prelude.{IsTrue}
use Rattle.arr_ops.specs.Plans.{is_legal}
use Rattle.arr_heur.proofs.LinearPlan.{linear_legal}
use Rattle.arr_law.specs.Facts.{Facts, root_facts}
use Rattle.arr_law.specs.ProblemOf.{problem_of}
use Rattle.arr_search.proofs.best.search.Goals as goal

pub improve-requires-clause-legal : goal.improve-requires-clause-legal
improve-requires-clause-legal c = subst (λ q. IsTrue (is_legal c.args.graph.now q)) (sym c.in_ok-other.ensures) (linear_legal c.args.graph.now)

pub explore-requires-clause-search : goal.explore-requires-clause-search
explore-requires-clause-search c =
    let pending : List Facts = root_facts (problem_of c.args.graph.now) ∷ [] in
    c.in_ok-try_moves.ensures.search c.args.budget pending (c.in_ok-improve.ensures c.args.budget pending (c.in_ok-progress.ensures c.args.budget))
