use Rattle.std.proofs.Common.{◌∙◌, ◌<◌, ◌≤◌, sym, subst}
use Rattle.std.specs.Prelude.{◌==◌, ◌&&◌}
use Rattle.arr_law.specs.ProblemOf.{problem_of}
use Rattle.arr_check.specs.Places.{spot}
use Rattle.arr_check.proofs.Loops.{none_done, none_more, numbers_found}
use Rattle.arr_check.proofs.plan.writes_there.Goals as goal

pub returns-then-writes_at : goal.returns-then-writes_at
returns-then-writes_at c =
    let P = problem_of c.args.tables.now in
    sym (numbers_found (λ f. (spot c.args.places.now f == c.args.block) && P.writes f c.args.c) P.count c.loop-k.k (subst (λ n. c.loop-k.k < n) c.count-k-end.ensures.value c.loop-k-test.true) (sym c.writes_at.ensures ∙ c.if-writes_at.true))

pub loop-k-preserved : goal.loop-k-preserved
loop-k-preserved c =
    let P = problem_of c.args.tables.now in
    none_more (λ f. (spot c.args.places.now f == c.args.block) && P.writes f c.args.c) c.loop-k.k c.loop-k.invariant (sym c.writes_at.ensures ∙ c.if-writes_at.false)

pub returns : goal.returns
returns c =
    let P = problem_of c.args.tables.now in
    sym (none_done (λ f. (spot c.args.places.now f == c.args.block) && P.writes f c.args.c) P.count c.loop-k.k (subst (λ n. n ≤ c.loop-k.k) c.count-k-end.ensures.value c.loop-k-test.false) c.loop-k.invariant)
