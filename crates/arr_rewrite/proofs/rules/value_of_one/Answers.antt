use Rattle.std.proofs.Common.{◌≡◌, true, subst, sym}
use Rattle.arr_num.specs.Numbers.{may_stand_alone}
use Rattle.arr_num.proofs.Reading.{read}
use Rattle.arr_rewrite.proofs.Folding.{unary_code, alone}
use Rattle.arr_rewrite.proofs.rules.value_of_one.Goals as goal

pub unary-requires-clause-code : goal.unary-requires-clause-code
unary-requires-clause-code c = unary_code c.args.op.now c.requires.formed c.requires.right c.requires.scalar

pub unary-requires-clause-number : goal.unary-requires-clause-number
unary-requires-clause-number c =
    subst (λ z. may_stand_alone c.args.op.now.code c.args.op.now.to z ≡ true) (sym (read c.args.number c.ranges.number))
    (alone c.args.op.now c.args.number c.requires.formed (unary_code c.args.op.now c.requires.formed c.requires.right c.requires.scalar) c.requires.other c.requires.left)
