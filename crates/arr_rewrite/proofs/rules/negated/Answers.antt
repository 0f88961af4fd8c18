use Rattle.std.proofs.Common.{ℤ, Some, ◌≡◌, true, pos, ◌-ℤ◌, ap, subst, ◌∙◌, arith, FitsSigned, to_z, of_z}
use Rattle.std.specs.Int.{w128}
use Rattle.std.proofs.lemmas.Int.{ints}
use Rattle.arr_num.specs.Numbers.{in_type, may_stand_right, wrap}
use Rattle.arr_num.proofs.Reading.{read}
use Rattle.arr_num.proofs.Wrapping.{low_of_type, high_of_type}
use Rattle.arr_num.specs.declared.code.Code.{Code}
use Rattle.arr_num.specs.declared.code.Code.TheVariants.{Subtract}
use Rattle.arr_ops.specs.Formed.{well_formed}
use Rattle.arr_ops.specs.declared.op.Op.{Op}
use Rattle.arr_ops.specs.declared.op.Operand.TheVariants.{Number}
use Rattle.arr_rewrite.proofs.Folding.{second_number_in}
use Rattle.arr_rewrite.proofs.rules.negated.Goals as goal

right : (op : Op) (z : ℤ) → well_formed op ≡ true → op.code ≡ Subtract → op.second ≡ Some (Number z) → in_type op.from z ≡ true
right op z h e s = subst (λ (k : Code). may_stand_right k op.from z ≡ true) e (second_number_in op z h s)

pub overflow_sub-constant : goal.overflow_sub-constant
overflow_sub-constant c =
    let h : in_type c.args.op.now.from c.args.constant ≡ true = right c.args.op.now c.args.constant c.requires.formed c.requires.code c.requires.constant in
    omega (arith, ints, low_of_type c.args.op.now.from c.args.constant h, high_of_type c.args.op.now.from c.args.constant h)

pub returns : goal.returns
returns c =
    let h : in_type c.args.op.now.from c.args.constant ≡ true = right c.args.op.now c.args.constant c.requires.formed c.requires.code c.requires.constant in
    let fits : FitsSigned w128 c.wrap.result = omega arith in
    let less : to_z w128 (of_z w128 (pos 0 -ℤ to_z w128 (of_z w128 c.args.constant))) ≡ pos 0 -ℤ c.args.constant = omega (arith, ints, low_of_type c.args.op.now.from c.args.constant h, high_of_type c.args.op.now.from c.args.constant h) in
    read c.wrap.result fits ∙ c.wrap.ensures ∙ ap (wrap c.args.op.now.to) less
