use Rattle.arr_rewrite.proofs.Joining.{well_in}
use Rattle.arr_rewrite.proofs.replaced.replacement.Goals as goal

pub constant_folded-requires : goal.constant_folded-requires
constant_folded-requires c = well_in c.args.front.now c.args.back.now c.args.op.now c.requires

pub subtraction_turned-requires : goal.subtraction_turned-requires
subtraction_turned-requires c = well_in c.args.front.now c.args.back.now c.args.op.now c.requires
