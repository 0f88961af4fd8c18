use Rattle.std.proofs.Common.{◌∙◌, sym}
use Rattle.arr_view.specs.Views.{has}
use Rattle.arr_ops.specs.Ops.{freed}
use Rattle.arr_bound.proofs.Tables.{before_more, found_first, found_none}
use Rattle.arr_bound.proofs.classes.freer_of.Goals as goal

pub loop-place-preserved : goal.loop-place-preserved
loop-place-preserved c =
    before_more (λ op. has (freed op) c.args.base) c.args.ops.now c.loop-place.place c.index-ops-place.result c.loop-place-test.true c.index-ops-place.is (sym c.frees_base.ensures ∙ c.if-frees_base.false) c.loop-place.invariant

pub returns-then-frees_base : goal.returns-then-frees_base
returns-then-frees_base c =
    found_first (λ op. has (freed op) c.args.base) c.args.ops.now c.loop-place.place c.index-ops-place.result c.loop-place-test.true c.index-ops-place.is (sym c.frees_base.ensures ∙ c.if-frees_base.true) c.loop-place.invariant

pub returns : goal.returns
returns c = found_none (λ op. has (freed op) c.args.base) c.args.ops.now c.loop-place.place c.loop-place-test.false c.loop-place.invariant
