use Rattle.std.proofs.Common.{◌∙◌, sym}
use Rattle.std.specs.Prelude.{◌&&◌, nat_lt}
use Rattle.arr_law.specs.declared.fact.Fact.TheVariants.{Apart}
use Rattle.arr_law.specs.ProblemOf.{problem_of}
use Rattle.arr_check.specs.Known.{known_of}
use Rattle.arr_check.proofs.Loops.{pairs_fail, pairs_more}
use Rattle.arr_check.proofs.leaf.stand_apart.Goals as goal

pub returns-then-not-is_before : goal.returns-then-not-is_before
returns-then-not-is_before c =
    pairs_fail (λ f g. nat_lt f g && known_of (problem_of c.args.tables.now) c.args.known.now (Apart f g)) c.args.ops.now c.loop-at.at c.at.result.now _ c.at.ensures c.loop-at.invariant (sym c.is_before.ensures ∙ c.if-not-is_before.true)

pub loop-at-preserved : goal.loop-at-preserved
loop-at-preserved c =
    pairs_more (λ f g. nat_lt f g && known_of (problem_of c.args.tables.now) c.args.known.now (Apart f g)) c.args.ops.now c.loop-at.at c.at.result.now _ c.at.ensures c.loop-at.invariant (sym c.is_before.ensures ∙ c.if-not-is_before.false)
