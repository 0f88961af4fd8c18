use Rattle.arr_view.specs.Views.{elements}
use Rattle.arr_view.proofs.Ends.{all_below}
use Rattle.arr_shape.proofs.strided_view.lies_below.Goals as goal

pub returns : goal.returns
returns c = all_below (elements c.args.view.now) c.ends-greatest.result.0 c.ends-greatest.result.1 c.args.count c.ends-greatest.ensures.all c.ends-greatest.ensures.greatest
