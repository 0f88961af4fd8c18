use Rattle.std.proofs.Common.{arith}
use Rattle.arr_heur.proofs.OrderedBlocks.{least_at}
use Rattle.arr_heur.proofs.order.least_of.Goals as goal

pub returns-in-len1-up : goal.returns-in-len1-up
returns-in-len1-up c = least_at c.args.block.now c.requires (omega arith)
