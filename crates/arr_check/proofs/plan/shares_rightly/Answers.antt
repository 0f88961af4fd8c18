use Rattle.std.proofs.Common.{◌∙◌, ◌<◌, ◌≤◌, sym, subst}
use Rattle.std.specs.Prelude.{◌||◌, ◌==◌, not}
use Rattle.arr_law.specs.Plans.{place_in}
use Rattle.arr_law.specs.Problem.{is_pair}
use Rattle.arr_law.specs.ProblemOf.{problem_of}
use Rattle.arr_check.proofs.Loops.{numbers_done, numbers_fail, numbers_more}
use Rattle.arr_check.proofs.plan.shares_rightly.Goals as goal

pub returns-then-not-may_share : goal.returns-then-not-may_share
returns-then-not-may_share c =
    let P = problem_of c.args.tables.now in
    let ps = c.args.places.now in
    sym (numbers_fail (λ g. not (is_pair P c.args.f g) || (not (place_in ps c.args.f == place_in ps g) || P.fusible c.args.f g)) P.count c.loop-k.k (subst (λ n. c.loop-k.k < n) c.count-k-end.ensures.value c.loop-k-test.true) (sym c.may_share.ensures ∙ c.if-not-may_share.true))

pub loop-k-preserved : goal.loop-k-preserved
loop-k-preserved c =
    let P = problem_of c.args.tables.now in
    let ps = c.args.places.now in
    numbers_more (λ g. not (is_pair P c.args.f g) || (not (place_in ps c.args.f == place_in ps g) || P.fusible c.args.f g)) c.loop-k.k c.loop-k.invariant (sym c.may_share.ensures ∙ c.if-not-may_share.false)

pub returns : goal.returns
returns c =
    let P = problem_of c.args.tables.now in
    let ps = c.args.places.now in
    sym (numbers_done (λ g. not (is_pair P c.args.f g) || (not (place_in ps c.args.f == place_in ps g) || P.fusible c.args.f g)) P.count c.loop-k.k (subst (λ n. n ≤ c.loop-k.k) c.count-k-end.ensures.value c.loop-k-test.false) c.loop-k.invariant)
