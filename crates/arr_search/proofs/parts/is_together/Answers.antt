use Rattle.std.proofs.Common.{◌≡◌, ◌∙◌, ◌<◌, true, sym, subst, length, arith}
use Rattle.std.specs.Prelude.{◌||◌, ◌==◌, not}
use Rattle.std.specs.List.{list_all, range_with_len}
use Rattle.arr_law.specs.Plans.{place_in}
use Rattle.arr_law.specs.Problem.{is_pair, operations}
use Rattle.arr_law.specs.ProblemOf.{problem_of}
use Rattle.arr_search.proofs.Loops.{numbers_fail, numbers_more}
use Rattle.arr_search.proofs.parts.is_together.Goals as goal

pub returns-then-not-may_share_all-clause-value : goal.returns-then-not-may_share_all-clause-value
returns-then-not-may_share_all-clause-value c =
    let P = problem_of c.args.graph.now in
    let ls = c.args.labels.now in
    sym (numbers_fail (λ f. list_all (λ g. not (is_pair P f g) || (not (place_in ls f == place_in ls g) || P.fusible f g)) (operations P)) P.count c.loop-k.k (subst (λ n. c.loop-k.k < n) c.len-k-end.ensures.value c.loop-k-test.true) (sym c.may_share_all.ensures ∙ c.if-not-may_share_all.true))

pub loop-k-preserved : goal.loop-k-preserved
loop-k-preserved c =
    let P = problem_of c.args.graph.now in
    let ls = c.args.labels.now in
    numbers_more (λ f. list_all (λ g. not (is_pair P f g) || (not (place_in ls f == place_in ls g) || P.fusible f g)) (operations P)) c.loop-k.k c.loop-k.invariant (sym c.may_share_all.ensures ∙ c.if-not-may_share_all.false)

pub returns-clause-value : goal.returns-clause-value
returns-clause-value c =
    let P = problem_of c.args.graph.now in
    let ls = c.args.labels.now in
    let all : c.loop-k.k ≡ length c.args.graph.now = omega (arith, c.loop-k-test.false, c.loop-k.auto.k-end, c.len-k-end.ensures.value) in
    sym (subst (λ n. list_all (λ f. list_all (λ g. not (is_pair P f g) || (not (place_in ls f == place_in ls g) || P.fusible f g)) (operations P)) (range_with_len 1 n) ≡ true) all c.loop-k.invariant)
