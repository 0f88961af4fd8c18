use Rattle.std.proofs.Common.{ap₂, ◌∙◌}
use Rattle.std.proofs.lemmas.Int.{to_z-of_z}
use Rattle.std.specs.Int.{w64}
use Rattle.arr_num.specs.Numbers.{value}
use Rattle.arr_num.specs.declared.elem.Elem.TheVariants.{I64}
use Rattle.arr_native.proofs.Casts.{typed, cast64, back64}
use Rattle.arr_native.proofs.native.I64Native.combine.Goals as goal

pub overflow_cast-result : goal.overflow_cast-result
overflow_cast-result c = cast64 c.step_i64.result (value c.args.code I64 c.args.sum c.args.x) (c.step_i64.ensures ∙ ap₂ (value c.args.code I64) (to_z-of_z w64 c.args.sum c.ranges.sum) (to_z-of_z w64 c.args.x c.ranges.x)) (typed c.args.code I64 c.args.sum c.args.x)

pub returns : goal.returns
returns c = back64 c.step_i64.result (value c.args.code I64 c.args.sum c.args.x) (c.step_i64.ensures ∙ ap₂ (value c.args.code I64) (to_z-of_z w64 c.args.sum c.ranges.sum) (to_z-of_z w64 c.args.x c.ranges.x)) (typed c.args.code I64 c.args.sum c.args.x)
