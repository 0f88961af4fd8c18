use Rattle.std.proofs.Common.{pos}
use Rattle.arr_num.specs.Numbers.{value}
use Rattle.arr_num.specs.declared.elem.Elem.TheVariants.{U64}
use Rattle.arr_native.proofs.Casts.{typed, cast_natural, back_natural}
use Rattle.arr_native.proofs.native.U64Native.combine.Goals as goal

pub overflow_cast-result : goal.overflow_cast-result
overflow_cast-result c = cast_natural c.step_u64.result (value c.args.code U64 (pos c.args.sum) (pos c.args.x)) c.step_u64.ensures (typed c.args.code U64 (pos c.args.sum) (pos c.args.x))

pub returns : goal.returns
returns c = back_natural c.step_u64.result (value c.args.code U64 (pos c.args.sum) (pos c.args.x)) c.step_u64.ensures (typed c.args.code U64 (pos c.args.sum) (pos c.args.x))
