use Rattle.std.proofs.Common.{◌∙◌, ap₂}
use lib.Pointwise.{pointwise}
use lib.Dec.{eqb}
use Rattle.arr_check.proofs.ClassTests.{same_lists_is}
use Rattle.arr_check.proofs.pairs.same_shape.Goals as goal

pub returns : goal.returns
returns c = c.eq.ensures ∙ ap₂ (pointwise eqb) c.shape.ensures.value c.shape-2.ensures.value ∙ same_lists_is c.args.left.now.lengths c.args.right.now.lengths
