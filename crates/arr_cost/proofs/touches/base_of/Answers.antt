use Rattle.std.proofs.Common.{arith, eq-eqb}
use Rattle.std.specs.Prelude.{◌==◌}
use Rattle.std.proofs.lemmas.Bool.{ne_eqb}
use Rattle.arr_view.specs.Strided.{Strided}
use Rattle.arr_cost.proofs.Places.{fails_here, none_left, passes_here}
use Rattle.arr_cost.proofs.touches.base_of.Goals as goal

pub returns-then-base : goal.returns-then-base
returns-then-base c =
    let here = passes_here (λ (u : Strided). u.base == c.args.base) c.args.all.now c.loop-place.place c.index-all-place.result c.loop-place-test.true c.index-all-place.is (eq-eqb c.index-all-place.result.base c.args.base (omega arith)) in
    let so_far = c.loop-place.invariant in
    record { value = omega arith; few = omega arith }

pub loop-place-preserved : goal.loop-place-preserved
loop-place-preserved c =
    let here = fails_here (λ (u : Strided). u.base == c.args.base) c.args.all.now c.loop-place.place c.index-all-place.result c.loop-place-test.true c.index-all-place.is (ne_eqb c.index-all-place.result.base c.args.base (λ e. absurd (omega arith))) in
    let so_far = c.loop-place.invariant in
    omega arith

pub returns : goal.returns
returns c =
    let here = none_left (λ (u : Strided). u.base == c.args.base) c.args.all.now c.loop-place.place c.loop-place-test.false in
    let so_far = c.loop-place.invariant in
    record { value = omega arith; few = omega arith }
