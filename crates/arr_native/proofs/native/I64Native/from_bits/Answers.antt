use Rattle.std.proofs.Common.{◌∙◌, pos, ap, arith, sym, of_z}
use Rattle.std.proofs.Math.Nat.{mod-eq_of_lt}
use Rattle.std.specs.Int.{w64}
use Rattle.arr_num.specs.declared.elem.Elem.TheVariants.{I64}
use Rattle.arr_kernel.proofs.Signed.{i64}
use Rattle.arr_native.proofs.Casts.{signed_bits}
use Rattle.arr_native.proofs.native.I64Native.from_bits.Goals as goal

pub returns : goal.returns
returns c =
    signed_bits I64 (pos c.args.bits) (of_z w64 c.cast_signed.result)
    (ap (of_z w64) c.cast_signed.ensures ∙ i64.back c.args.bits (omega arith) ∙ sym (mod-eq_of_lt (omega arith)))
