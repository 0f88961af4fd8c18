use Rattle.std.proofs.Common.{◌∙◌, ◌<◌, ◌≤◌, sym, subst}
use Rattle.std.specs.Prelude.{◌||◌, not, nat_le}
use Rattle.std.specs.List.{list_all}
use Rattle.arr_law.specs.Plans.{place_in}
use Rattle.arr_law.specs.Problem.{is_pair, operations}
use Rattle.arr_law.specs.ProblemOf.{problem_of}
use Rattle.arr_check.proofs.Loops.{numbers_done, numbers_fail, numbers_more}
use Rattle.arr_check.proofs.plan.is_forward.Goals as goal

pub returns-then-not-stands_rightly : goal.returns-then-not-stands_rightly
returns-then-not-stands_rightly c =
    let P = problem_of c.args.tables.now in
    let ps = c.args.places.now in
    sym (numbers_fail (λ f. list_all (λ g. not (is_pair P f g) || (not (P.dep f g) || nat_le (place_in ps f) (place_in ps g))) (operations P)) P.count c.loop-k.k (subst (λ n. c.loop-k.k < n) c.count-k-end.ensures.value c.loop-k-test.true) (sym c.stands_rightly.ensures ∙ c.if-not-stands_rightly.true))

pub loop-k-preserved : goal.loop-k-preserved
loop-k-preserved c =
    let P = problem_of c.args.tables.now in
    let ps = c.args.places.now in
    numbers_more (λ f. list_all (λ g. not (is_pair P f g) || (not (P.dep f g) || nat_le (place_in ps f) (place_in ps g))) (operations P)) c.loop-k.k c.loop-k.invariant (sym c.stands_rightly.ensures ∙ c.if-not-stands_rightly.false)

pub returns : goal.returns
returns c =
    let P = problem_of c.args.tables.now in
    let ps = c.args.places.now in
    sym (numbers_done (λ f. list_all (λ g. not (is_pair P f g) || (not (P.dep f g) || nat_le (place_in ps f) (place_in ps g))) (operations P)) P.count c.loop-k.k (subst (λ n. n ≤ c.loop-k.k) c.count-k-end.ensures.value c.loop-k-test.false) c.loop-k.invariant)
