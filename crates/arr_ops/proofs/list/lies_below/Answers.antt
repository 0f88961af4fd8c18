use Rattle.arr_view.specs.Views.{elements}
use Rattle.arr_ops.proofs.Decided.{greatest_decides}
use Rattle.arr_ops.proofs.list.lies_below.Goals as goal

pub returns : goal.returns
returns c = greatest_decides c.ends-least.result.0 c.ends-least.result.1 c.args.end (elements c.args.view.now) c.ends-least.ensures.all c.ends-least.ensures.greatest
