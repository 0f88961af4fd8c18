use Rattle.std.proofs.Common.{pos, ◌∙◌}
use Rattle.arr_num.specs.Numbers.{value}
use Rattle.arr_num.specs.declared.elem.Elem.TheVariants.{U8, U64}
use Rattle.arr_kernel.proofs.Settled.{settled}
use Rattle.arr_native.proofs.Casts.{typed, cast_byte, back_byte}
use Rattle.arr_native.proofs.native.U64Native.compare.Goals as goal

pub overflow_cast-result : goal.overflow_cast-result
overflow_cast-result c = cast_byte c.value_u64.result (value c.args.code U8 (pos c.args.x) (pos c.args.y)) (c.value_u64.ensures ∙ settled c.args.code U8 U64 (pos c.args.x) (pos c.args.y) c.requires.comparison c.requires.table) (typed c.args.code U8 (pos c.args.x) (pos c.args.y))

pub returns : goal.returns
returns c = back_byte c.value_u64.result (value c.args.code U8 (pos c.args.x) (pos c.args.y)) (c.value_u64.ensures ∙ settled c.args.code U8 U64 (pos c.args.x) (pos c.args.y) c.requires.comparison c.requires.table) (typed c.args.code U8 (pos c.args.x) (pos c.args.y))
