use Rattle.std.proofs.Common.{◌≡◌, true, ap₂, subst, sym, ◌∙◌, arith, FitsSigned}
use Rattle.std.specs.Int.{w128}
use Rattle.arr_num.specs.Kinds.{is_binary}
use Rattle.arr_num.specs.Numbers.{in_type, may_stand_right, value}
use Rattle.arr_num.proofs.Reading.{read}
use Rattle.arr_rewrite.proofs.Folding.{binary_code, first_number_in, second_number_in, one_value}
use Rattle.arr_rewrite.proofs.rules.value_of_two.Goals as goal

pub binary-requires-clause-left : goal.binary-requires-clause-left
binary-requires-clause-left c =
    subst (λ z. in_type c.args.op.now.from z ≡ true) (sym (read c.args.left c.ranges.left)) (first_number_in c.args.op.now c.args.left c.requires.formed c.requires.left)

pub binary-requires-clause-right : goal.binary-requires-clause-right
binary-requires-clause-right c =
    subst (λ z. may_stand_right c.args.op.now.code c.args.op.now.from z ≡ true) (sym (read c.args.right c.ranges.right)) (second_number_in c.args.op.now c.args.right c.requires.formed c.requires.right)

pub returns : goal.returns
returns c =
    let fits : FitsSigned w128 c.binary.result = omega arith in
    let two : is_binary c.args.op.now.code ≡ true = binary_code c.args.op.now _ c.requires.formed c.requires.right c.requires.scalar in
    read c.binary.result fits ∙ c.binary.ensures
    ∙ ap₂ (value c.args.op.now.code c.args.op.now.from) (read c.args.left c.ranges.left) (read c.args.right c.ranges.right)
    ∙ one_value c.args.op.now c.args.left c.args.right c.requires.formed two
