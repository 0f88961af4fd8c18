use Rattle.std.proofs.Common.{◌≡◌, ap, sym, refl}
use Rattle.arr_num.specs.Kinds.{kind, Ending}
use Rattle.arr_ops.specs.Ops.{ends}
use Rattle.arr_ops.specs.Formed.{with_slot}
use Rattle.arr_ops.proofs.Spots.{operands_of}
use Rattle.arr_ops.proofs.Parts.{only_ends, walks_none}
use Rattle.arr_ops.proofs.shapes.walked_shape.Goals as goal

pub returns-in-None : goal.returns-in-None
returns-in-None c =
    let op = c.args.op.now in
    let none = c.in-None.is in
    let end : kind c.args.op.now.code ≡ Ending = only_ends (with_slot c.args.op.now) (operands_of (with_slot c.args.op.now) c.requires) none c.in_default.not-Sync in
    record { shape = sym (walks_none c.args.op.now end none); none = ((λ h. ap ends end), (λ h. refl)) }
