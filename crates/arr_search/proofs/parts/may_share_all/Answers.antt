use Rattle.std.proofs.Common.{◌≡◌, ◌∙◌, ◌<◌, true, sym, subst, length, arith}
use Rattle.std.specs.Prelude.{◌||◌, ◌==◌, not}
use Rattle.std.specs.List.{list_all, range_with_len}
use Rattle.arr_law.specs.Plans.{place_in}
use Rattle.arr_law.specs.Problem.{is_pair}
use Rattle.arr_law.specs.ProblemOf.{problem_of}
use Rattle.arr_search.proofs.Loops.{numbers_fail, numbers_more}
use Rattle.arr_search.proofs.parts.may_share_all.Goals as goal

pub returns-then-not-may_share : goal.returns-then-not-may_share
returns-then-not-may_share c =
    let P = problem_of c.args.graph.now in
    let ls = c.args.labels.now in
    sym (numbers_fail (λ g. not (is_pair P c.args.f g) || (not (place_in ls c.args.f == place_in ls g) || P.fusible c.args.f g)) P.count c.loop-k.k (subst (λ n. c.loop-k.k < n) c.len-k-end.ensures.value c.loop-k-test.true) (sym c.may_share.ensures ∙ c.if-not-may_share.true))

pub loop-k-preserved : goal.loop-k-preserved
loop-k-preserved c =
    let P = problem_of c.args.graph.now in
    let ls = c.args.labels.now in
    numbers_more (λ g. not (is_pair P c.args.f g) || (not (place_in ls c.args.f == place_in ls g) || P.fusible c.args.f g)) c.loop-k.k c.loop-k.invariant (sym c.may_share.ensures ∙ c.if-not-may_share.false)

pub returns : goal.returns
returns c =
    let P = problem_of c.args.graph.now in
    let ls = c.args.labels.now in
    let all : c.loop-k.k ≡ length c.args.graph.now = omega (arith, c.loop-k-test.false, c.loop-k.auto.k-end, c.len-k-end.ensures.value) in
    sym (subst (λ n. list_all (λ g. not (is_pair P c.args.f g) || (not (place_in ls c.args.f == place_in ls g) || P.fusible c.args.f g)) (range_with_len 1 n) ≡ true) all c.loop-k.invariant)
