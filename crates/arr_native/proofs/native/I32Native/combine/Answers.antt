use Rattle.std.proofs.Common.{ap₂, ◌∙◌}
use Rattle.std.proofs.lemmas.Int.{to_z-of_z}
use Rattle.std.specs.Int.{w32}
use Rattle.arr_num.specs.Numbers.{value}
use Rattle.arr_num.specs.declared.elem.Elem.TheVariants.{I32}
use Rattle.arr_native.proofs.Casts.{typed, cast32, back32}
use Rattle.arr_native.proofs.native.I32Native.combine.Goals as goal

pub overflow_cast-result : goal.overflow_cast-result
overflow_cast-result c = cast32 c.step_i32.result (value c.args.code I32 c.args.sum c.args.x) (c.step_i32.ensures ∙ ap₂ (value c.args.code I32) (to_z-of_z w32 c.args.sum c.ranges.sum) (to_z-of_z w32 c.args.x c.ranges.x)) (typed c.args.code I32 c.args.sum c.args.x)

pub returns : goal.returns
returns c = back32 c.step_i32.result (value c.args.code I32 c.args.sum c.args.x) (c.step_i32.ensures ∙ ap₂ (value c.args.code I32) (to_z-of_z w32 c.args.sum c.ranges.sum) (to_z-of_z w32 c.args.x c.ranges.x)) (typed c.args.code I32 c.args.sum c.args.x)
