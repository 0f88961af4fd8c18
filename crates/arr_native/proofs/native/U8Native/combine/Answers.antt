use Rattle.std.proofs.Common.{pos}
use Rattle.arr_num.specs.Numbers.{value}
use Rattle.arr_num.specs.declared.elem.Elem.TheVariants.{U8}
use Rattle.arr_native.proofs.Casts.{typed, cast_byte, back_byte}
use Rattle.arr_native.proofs.native.U8Native.combine.Goals as goal

pub overflow_cast-result : goal.overflow_cast-result
overflow_cast-result c = cast_byte c.step_u8.result (value c.args.code U8 (pos c.args.sum) (pos c.args.x)) c.step_u8.ensures (typed c.args.code U8 (pos c.args.sum) (pos c.args.x))

pub returns : goal.returns
returns c = back_byte c.step_u8.result (value c.args.code U8 (pos c.args.sum) (pos c.args.x)) c.step_u8.ensures (typed c.args.code U8 (pos c.args.sum) (pos c.args.x))
