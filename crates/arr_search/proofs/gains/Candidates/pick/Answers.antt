use Rattle.std.proofs.Common.{◌≡◌, ◌∙◌, sym, subst, true}
use Rattle.std.specs.Prelude.{MatchOption}
use Rattle.arr_law.specs.ProblemOf.{problem_of}
use Rattle.arr_law.specs.Trees.{may_branch}
use Rattle.arr_state.specs.States.{Standing, known}
use Rattle.arr_search.specs.Nodes.{IsDecided}
use Rattle.arr_search.proofs.gains.Candidates.pick.Goals as goal

pub returns-in_default-clause-picks : goal.returns-in_default-clause-picks
returns-in_default-clause-picks c =
    subst (λ (s : Standing). MatchOption c.choose.result (IsDecided (problem_of c.args.graph.now) (known s)) (λ p. may_branch (problem_of c.args.graph.now) (known s) p.0 p.1 ≡ true)) (c.in_ok-try_again.ensures.kept ∙ c.in_ok-find.ensures.kept) c.choose.ensures

pub returns-then-not-may_branch-clause-picks : goal.returns-then-not-may_branch-clause-picks
returns-then-not-may_branch-clause-picks c =
    subst (λ (s : Standing). MatchOption c.choose-then-not-may_branch.result (IsDecided (problem_of c.args.graph.now) (known s)) (λ p. may_branch (problem_of c.args.graph.now) (known s) p.0 p.1 ≡ true)) (c.in_ok-try_again.ensures.kept ∙ c.in_ok-find.ensures.kept) c.choose-then-not-may_branch.ensures

pub returns-clause-picks : goal.returns-clause-picks
returns-clause-picks c =
    subst (λ (s : Standing). may_branch (problem_of c.args.graph.now) (known s) c.index.result.now.f c.index-2.result.now.g ≡ true) (c.in_ok-try_again.ensures.kept ∙ c.in_ok-find.ensures.kept) (sym c.may_branch.ensures ∙ c.if-not-may_branch.false)
