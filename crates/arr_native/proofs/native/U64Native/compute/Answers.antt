use Rattle.std.proofs.Common.{pos}
use Rattle.arr_num.specs.Numbers.{value}
use Rattle.arr_num.specs.declared.elem.Elem.TheVariants.{U64}
use Rattle.arr_native.proofs.Casts.{typed, cast_natural, back_natural}
use Rattle.arr_native.proofs.native.U64Native.compute.Goals as goal

pub overflow_cast-result : goal.overflow_cast-result
overflow_cast-result c = cast_natural c.value_u64.result (value c.args.code U64 (pos c.args.x) (pos c.args.y)) c.value_u64.ensures (typed c.args.code U64 (pos c.args.x) (pos c.args.y))

pub returns : goal.returns
returns c = back_natural c.value_u64.result (value c.args.code U64 (pos c.args.x) (pos c.args.y)) c.value_u64.ensures (typed c.args.code U64 (pos c.args.x) (pos c.args.y))
