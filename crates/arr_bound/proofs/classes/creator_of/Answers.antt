use Rattle.std.proofs.Common.{◌∙◌, sym}
use Rattle.arr_ops.specs.Ops.{makes_base}
use Rattle.arr_bound.proofs.Tables.{before_more, found_first, found_none}
use Rattle.arr_bound.proofs.classes.creator_of.Goals as goal

pub loop-place-preserved : goal.loop-place-preserved
loop-place-preserved c =
    before_more (λ op. makes_base op c.args.base) c.args.ops.now c.loop-place.place c.index-ops-place.result c.loop-place-test.true c.index-ops-place.is (sym c.makes_base.ensures ∙ c.if-makes_base.false) c.loop-place.invariant

pub returns-then-makes_base : goal.returns-then-makes_base
returns-then-makes_base c =
    found_first (λ op. makes_base op c.args.base) c.args.ops.now c.loop-place.place c.index-ops-place.result c.loop-place-test.true c.index-ops-place.is (sym c.makes_base.ensures ∙ c.if-makes_base.true) c.loop-place.invariant

pub returns : goal.returns
returns c = found_none (λ op. makes_base op c.args.base) c.args.ops.now c.loop-place.place c.loop-place-test.false c.loop-place.invariant
