use Rattle.std.proofs.Common.{ap₂, ◌∙◌}
use Rattle.std.proofs.lemmas.Int.{to_z-of_z}
use Rattle.std.specs.Int.{w32}
use Rattle.arr_num.specs.Numbers.{value}
use Rattle.arr_num.specs.declared.elem.Elem.TheVariants.{I32}
use Rattle.arr_native.proofs.Casts.{typed, cast32, back32}
use Rattle.arr_native.proofs.native.I32Native.compute.Goals as goal

pub overflow_cast-result : goal.overflow_cast-result
overflow_cast-result c = cast32 c.value_i32.result (value c.args.code I32 c.args.x c.args.y) (c.value_i32.ensures ∙ ap₂ (value c.args.code I32) (to_z-of_z w32 c.args.x c.ranges.x) (to_z-of_z w32 c.args.y c.ranges.y)) (typed c.args.code I32 c.args.x c.args.y)

pub returns : goal.returns
returns c = back32 c.value_i32.result (value c.args.code I32 c.args.x c.args.y) (c.value_i32.ensures ∙ ap₂ (value c.args.code I32) (to_z-of_z w32 c.args.x c.ranges.x) (to_z-of_z w32 c.args.y c.ranges.y)) (typed c.args.code I32 c.args.x c.args.y)
