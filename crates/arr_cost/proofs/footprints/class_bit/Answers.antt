use Rattle.std.proofs.Common.{◌∙◌, ◌+◌, ◌-◌, ap, sym, arith}
use Rattle.arr_cost.specs.Footprints.{is_class}
use Rattle.arr_cost.proofs.Digits.{one_bit}
use Rattle.arr_cost.proofs.Prints.{on_class}
use Rattle.arr_cost.proofs.footprints.class_bit.Goals as goal

pub returns : goal.returns
returns c = λ i l.
    let t = c.in-Some.touch in
    one_bit (t.class - c.args.first) i (omega arith) l
    ∙ sym (ap (is_class (c.args.first + i)) c.in-Some.is ∙ on_class c.args.first t i (omega arith))
