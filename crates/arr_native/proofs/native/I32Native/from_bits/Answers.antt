use Rattle.std.proofs.Common.{◌∙◌, pos, refl, ap, ◌%◌, ◌^◌, of_z}
use Rattle.std.proofs.lemmas.Bool.{leb-true}
use Rattle.std.proofs.Math.Nat.{mod-lt}
use Rattle.std.specs.Int.{w32}
use Rattle.arr_num.specs.declared.elem.Elem.TheVariants.{I32}
use Rattle.arr_kernel.proofs.Signed.{i32}
use Rattle.arr_native.proofs.Casts.{signed_bits}
use Rattle.arr_native.proofs.native.I32Native.from_bits.Goals as goal

pub returns : goal.returns
returns c =
    signed_bits I32 (pos c.args.bits) (of_z w32 c.cast_signed.result)
    (ap (of_z w32) c.cast_signed.ensures ∙ i32.back (c.args.bits % 2 ^ 32) (mod-lt c.args.bits (leb-true _ _ refl)))
