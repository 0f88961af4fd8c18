use Rattle.std.proofs.Common.{◌∙◌, sym, arith}
use Rattle.arr_view.specs.Views.{identical}
use Rattle.arr_cost.proofs.Places.{fails_here, none_left, passes_here}
use Rattle.arr_cost.proofs.touches.class_of.Goals as goal

pub returns-then-identical : goal.returns-then-identical
returns-then-identical c =
    let here = passes_here (identical c.args.view.now) c.args.all.now c.loop-place.place c.index-all-place.result c.loop-place-test.true c.index-all-place.is (sym c.identical.ensures.value ∙ c.if-identical.true) in
    let so_far = c.loop-place.invariant in
    record { value = omega arith; few = omega arith }

pub loop-place-preserved : goal.loop-place-preserved
loop-place-preserved c =
    let here = fails_here (identical c.args.view.now) c.args.all.now c.loop-place.place c.index-all-place.result c.loop-place-test.true c.index-all-place.is (sym c.identical.ensures.value ∙ c.if-identical.false) in
    let so_far = c.loop-place.invariant in
    omega arith

pub returns : goal.returns
returns c =
    let here = none_left (identical c.args.view.now) c.args.all.now c.loop-place.place c.loop-place-test.false in
    let so_far = c.loop-place.invariant in
    record { value = omega arith; few = omega arith }
