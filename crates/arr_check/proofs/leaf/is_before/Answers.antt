use Rattle.std.proofs.Common.{◌∙◌, ◌<◌, ◌≤◌, sym, ap, ap₂, subst, arith}
use Rattle.std.specs.Prelude.{◌&&◌, nat_lt}
use Rattle.arr_law.specs.declared.fact.Fact.TheVariants.{Apart}
use Rattle.arr_law.specs.ProblemOf.{problem_of}
use Rattle.arr_check.specs.Known.{known_of}
use Rattle.arr_check.proofs.Loops.{rest_done, rest_fails, rest_more}
use Rattle.std.proofs.lemmas.Bool.{le-ltb, lt-ltb}
use Rattle.arr_check.proofs.leaf.is_before.Goals as goal

pub returns-then-f-g : goal.returns-then-f-g
returns-then-f-g c =
    let K = known_of (problem_of c.args.tables.now) c.args.known.now in
    rest_fails (λ g. nat_lt c.args.f g && K (Apart c.args.f g)) c.args.ops.now c.loop-at.at c.at-g.result.now _ c.at-g.ensures c.loop-at.invariant
    (ap (λ b. b && K (Apart c.args.f c.at-g.result.now)) (le-ltb c.args.f c.at-g.result.now c.if-f-g.true))

pub returns-then-not-has : goal.returns-then-not-has
returns-then-not-has c =
    let K = known_of (problem_of c.args.tables.now) c.args.known.now in
    rest_fails (λ g. nat_lt c.args.f g && K (Apart c.args.f g)) c.args.ops.now c.loop-at.at c.at-g.result.now _ c.at-g.ensures c.loop-at.invariant
    (ap₂ (λ a b. a && b) (lt-ltb c.args.f c.at-g.result.now (let l : c.args.f < c.at-g.result.now = omega (arith, c.if-f-g.false) in l)) (sym c.has.ensures ∙ c.if-not-has.true))

pub loop-at-preserved : goal.loop-at-preserved
loop-at-preserved c =
    let K = known_of (problem_of c.args.tables.now) c.args.known.now in
    rest_more (λ g. nat_lt c.args.f g && K (Apart c.args.f g)) c.args.ops.now c.loop-at.at c.at-g.result.now _ c.at-g.ensures c.loop-at.invariant
    (ap₂ (λ a b. a && b) (lt-ltb c.args.f c.at-g.result.now (let l : c.args.f < c.at-g.result.now = omega (arith, c.if-f-g.false) in l)) (sym c.has.ensures ∙ c.if-not-has.false))

pub returns : goal.returns
returns c =
    let K = known_of (problem_of c.args.tables.now) c.args.known.now in
    rest_done (λ g. nat_lt c.args.f g && K (Apart c.args.f g)) c.args.ops.now c.loop-at.at _ (subst (λ n. n ≤ c.loop-at.at) c.len-at-end.ensures c.loop-at-test.false) c.loop-at.invariant
