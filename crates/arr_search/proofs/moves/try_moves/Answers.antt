use Rattle.std.proofs.lemmas.Result.{IfOk-weaker}
use Rattle.arr_search.proofs.Nodes.{stays_on}
use Rattle.arr_search.proofs.moves.try_moves.Goals as goal

pub returns-clause-search : goal.returns-clause-search
returns-clause-search c = IfOk-weaker c.try_from-2.result _ _ (λ done second. stays_on c.args.graph.now _ _ _ c.in_ok-try_from.ensures second) c.try_from-2.ensures
