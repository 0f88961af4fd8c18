use Rattle.std.proofs.Common.{◌≡◌, sym, subst, true}
use Rattle.arr_law.specs.ProblemOf.{problem_of}
use Rattle.arr_law.specs.Trees.{may_branch}
use Rattle.arr_state.specs.States.{Standing, known}
use Rattle.arr_search.proofs.gains.try_pair.Goals as goal

pub side_worth-requires-2-clause-open : goal.side_worth-requires-2-clause-open
side_worth-requires-2-clause-open c = subst (λ (s : Standing). may_branch (problem_of c.args.graph.now) (known s) c.args.f c.args.g ≡ true) (sym c.in_ok-together.ensures.kept) c.requires.open
