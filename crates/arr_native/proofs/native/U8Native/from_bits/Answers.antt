use Rattle.std.proofs.Common.{pos, refl, ◌%◌}
use Rattle.arr_num.specs.declared.elem.Elem.TheVariants.{U8}
use Rattle.arr_native.proofs.Casts.{natural_bits}
use Rattle.arr_native.proofs.native.U8Native.from_bits.Goals as goal

pub returns : goal.returns
returns c = natural_bits U8 (pos c.args.bits) (c.args.bits % 256) refl refl
