use Rattle.std.proofs.Common.{◌≡◌, true, ap₂, subst, sym, ◌∙◌, arith, FitsSigned}
use Rattle.std.specs.Int.{w128}
use Rattle.arr_num.specs.Numbers.{in_type, may_stand_right, value}
use Rattle.arr_num.proofs.Reading.{read}
use Rattle.arr_rewrite.proofs.Joining.{joinable}
use Rattle.arr_rewrite.proofs.joined.joined_number.Goals as goal

pub binary-requires : goal.binary-requires
binary-requires c = record {
  code = (joinable c.args.op.now.code c.requires.code).two;
  left = subst (λ z. in_type c.args.op.now.to z ≡ true) (sym (read c.args.left c.ranges.left)) c.requires.left;
  right = subst (λ z. may_stand_right c.args.op.now.code c.args.op.now.to z ≡ true) (sym (read c.args.right c.ranges.right))
      ((joinable c.args.op.now.code c.requires.code).right c.args.op.now.to c.args.right c.requires.right);
}

pub returns : goal.returns
returns c =
    let fits : FitsSigned w128 c.binary.result = omega arith in
    read c.binary.result fits ∙ c.binary.ensures ∙ ap₂ (value c.args.op.now.code c.args.op.now.to) (read c.args.left c.ranges.left) (read c.args.right c.ranges.right)
