use Rattle.std.proofs.Common.{◌∙◌, arith, ap, ◌*ℤ◌, FitsSigned}
use Rattle.std.specs.Int.{w128}
use Rattle.std.proofs.lemmas.Int.{wrapping_mul_is}
use Rattle.arr_num.specs.Numbers.{wrap}
use Rattle.arr_num.proofs.elem.Elem.product.Goals as goal
use Rattle.arr_num.proofs.Reading.{read}
use Rattle.arr_num.proofs.Words.{wrap_word}

pub returns : goal.returns
returns c =
    let fits : FitsSigned w128 c.wrap.result = omega arith in
    read c.wrap.result fits ∙ c.wrap.ensures
    ∙ ap (wrap c.args.self) (wrapping_mul_is w128 c.args.left c.args.right c.ranges.left c.ranges.right)
    ∙ wrap_word c.args.self (c.args.left *ℤ c.args.right)
