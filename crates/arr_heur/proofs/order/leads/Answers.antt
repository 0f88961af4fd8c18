use Rattle.std.proofs.Common.{◌∙◌}
use Rattle.arr_heur.proofs.OrderedBlocks.{leads_is}
use Rattle.arr_heur.proofs.order.leads.Goals as goal

pub returns : goal.returns
returns c = c.leads_any.ensures ∙ leads_is c.args.graph.now c.args.block.now c.args.other.now c.requires.block c.requires.other
