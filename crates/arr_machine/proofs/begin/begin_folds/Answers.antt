use Rattle.arr_num.specs.declared.elem.Elem.TheVariants.{I64}
use Rattle.arr_machine.proofs.Begins.{zeros_typed}
use Rattle.arr_machine.proofs.begin.begin_folds.Goals as goal

pub start_folds-requires-clause-kept : goal.start_folds-requires-clause-kept
start_folds-requires-clause-kept c = zeros_typed I64 c.args.ops.now c.args.numbers.now c.clear.new.numbers c.requires.long c.clear.ensures
