use Rattle.std.proofs.Common.{FitsSigned, ap, arith, get_or, pos, refl}
use Rattle.std.specs.Int.{w32}
use Rattle.std.proofs.lemmas.Int.{to_z-of_z}
use Rattle.arr_io.proofs.Buffered.{◌▹◌, front_ends, front_put, front_turns, put_as}
use Rattle.arr_listing.specs.Texts.{dimension_text}
use Rattle.arr_listing.proofs.Turns.{dimensions_begin, dimensions_end, dimensions_turn}
use Rattle.arr_listing.proofs.operations.put_dimensions.Goals as goal

pub loop-axis-init : goal.loop-axis-init
loop-axis-init g c =
    let stride = get_or c.args.strides.now 0 (pos 0) in
    let fits : FitsSigned w32 (get_or c.args.strides.now 0 (pos 0)) = omega arith in
    front_put (put_as c.put_dimension.ensures (ap (dimension_text (get_or c.args.lengths.now 0 0)) (to_z-of_z w32 stride fits)))
    (dimensions_begin c.args.lengths.now c.args.strides.now c.requires.some c.requires.same_rank)

pub loop-axis-preserved : goal.loop-axis-preserved
loop-axis-preserved g c =
    let axis = c.loop-axis.axis in
    let fits : FitsSigned w32 (get_or c.args.strides.now c.loop-axis.axis (pos 0)) = omega arith in
    front_turns c.loop-axis.invariant
    (c.put.ensures ▹ put_as c.put_dimension-in-loop-axis.ensures (ap (dimension_text (get_or c.args.lengths.now axis 0)) (to_z-of_z w32 (get_or c.args.strides.now axis (pos 0)) fits)))
    (dimensions_turn c.args.lengths.now c.args.strides.now axis _ _ c.loop-axis-test.true c.requires.same_rank refl refl)

pub returns : goal.returns
returns g c = front_ends c.loop-axis.invariant (dimensions_end c.args.lengths.now c.args.strides.now c.loop-axis.axis c.loop-axis-test.false)
