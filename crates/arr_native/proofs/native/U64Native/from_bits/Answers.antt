use Rattle.std.proofs.Common.{pos, refl, arith, sym}
use Rattle.std.proofs.Math.Nat.{mod-eq_of_lt}
use Rattle.arr_num.specs.declared.elem.Elem.TheVariants.{U64}
use Rattle.arr_native.proofs.Casts.{natural_bits}
use Rattle.arr_native.proofs.native.U64Native.from_bits.Goals as goal

pub returns : goal.returns
returns c = natural_bits U64 (pos c.args.bits) c.args.bits refl (sym (mod-eq_of_lt (omega arith)))
