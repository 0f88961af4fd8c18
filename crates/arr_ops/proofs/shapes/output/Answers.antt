use Rattle.std.proofs.Common.{refl, ◌≡◌, ap, sym, ◌∙◌, true, false, not, Bool}
use Rattle.std.specs.Prelude.{is_some}
use Rattle.arr_num.specs.Kinds.{kind}
use Rattle.arr_ops.specs.Ops.{keeps_bases}
use Rattle.arr_ops.specs.Formed.{with_slot}
use Rattle.arr_ops.proofs.Spots.{operands_of}
use Rattle.arr_ops.proofs.Parts.{out_there}
use Rattle.arr_ops.proofs.shapes.output.Goals as goal

turned : (b : Bool) → not b ≡ false → b ≡ true
turned true e = refl
turned false e = sym e

pub returns-clause-none : goal.returns-clause-none
returns-clause-none c =
    let there : is_some c.copied.result ≡ not (keeps_bases (kind c.args.op.now.code)) =
    ap is_some (c.copied.ensures ∙ c.out_view.ensures) ∙ out_there (kind c.args.op.now.code) (with_slot c.args.op.now) (operands_of (with_slot c.args.op.now) c.requires) in
    ((λ h. turned (keeps_bases (kind c.args.op.now.code)) (sym there ∙ h)), (λ h. there ∙ ap not h))
