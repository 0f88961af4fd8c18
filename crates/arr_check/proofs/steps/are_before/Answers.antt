use Rattle.std.proofs.Common.{◌∙◌, ◌<◌, ◌≤◌, sym, subst}
use Rattle.std.specs.Prelude.{◌&&◌, ◌||◌, ◌==◌, not}
use Rattle.arr_law.specs.declared.fact.Fact.TheVariants.{Before}
use Rattle.arr_law.specs.Problem.{ends_base_of}
use Rattle.arr_law.specs.ProblemOf.{problem_of}
use Rattle.arr_check.specs.Known.{known_of}
use Rattle.arr_check.proofs.Loops.{numbers_done, numbers_fail, numbers_more}
use Rattle.arr_check.proofs.Joins.{users_served}
use Rattle.arr_check.proofs.steps.are_before.Goals as goal

pub returns-then-not-is_served : goal.returns-then-not-is_served
returns-then-not-is_served c =
    let P = problem_of c.args.tables.now in
    let K = known_of P c.args.known.now in
    sym (numbers_fail (λ u. not (ends_base_of P u c.args.g && (not (u == c.args.f) && not (u == c.args.g))) || K (Before u c.args.f)) P.count c.loop-k.k (subst (λ n. c.loop-k.k < n) c.count-k-end.ensures.value c.loop-k-test.true) (sym c.is_served.ensures ∙ c.if-not-is_served.true))
    ∙ users_served P K c.args.f c.args.g

pub loop-k-preserved : goal.loop-k-preserved
loop-k-preserved c =
    let P = problem_of c.args.tables.now in
    let K = known_of P c.args.known.now in
    numbers_more (λ u. not (ends_base_of P u c.args.g && (not (u == c.args.f) && not (u == c.args.g))) || K (Before u c.args.f)) c.loop-k.k c.loop-k.invariant (sym c.is_served.ensures ∙ c.if-not-is_served.false)

pub returns : goal.returns
returns c =
    let P = problem_of c.args.tables.now in
    let K = known_of P c.args.known.now in
    sym (numbers_done (λ u. not (ends_base_of P u c.args.g && (not (u == c.args.f) && not (u == c.args.g))) || K (Before u c.args.f)) P.count c.loop-k.k (subst (λ n. n ≤ c.loop-k.k) c.count-k-end.ensures.value c.loop-k-test.false) c.loop-k.invariant)
    ∙ users_served P K c.args.f c.args.g
