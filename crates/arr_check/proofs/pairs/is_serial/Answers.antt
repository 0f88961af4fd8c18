use Rattle.std.proofs.Common.{◌∙◌, ◌||◌, ap, ap₂}
use Rattle.arr_ops.specs.Ops.{serial}
use Rattle.arr_check.specs.Classed.{cross}
use Rattle.arr_check.proofs.ClassTests.{serial_is, first_decides, second_decides}
use Rattle.arr_check.proofs.pairs.is_serial.Goals as goal

pub returns-then-cross : goal.returns-then-cross
returns-then-cross c =
    let cs = c.args.classes.now in
    let a = c.args.op_classes.now in
    first_decides c.cross.result (cross cs c.is_reduction-never.result a.out a.second) (serial c.args.op.now) c.if-cross.true
    (ap (λ b. b || cross cs c.is_reduction-never.result a.out a.second) c.cross.ensures
    ∙ ap (λ n. cross cs n a.out a.first || cross cs n a.out a.second) c.is_reduction-never.ensures ∙ serial_is cs c.args.op.now a c.requires)

pub returns-else-cross : goal.returns-else-cross
returns-else-cross c =
    let cs = c.args.classes.now in
    let a = c.args.op_classes.now in
    second_decides c.cross.result c.cross-else-cross.result (serial c.args.op.now) c.if-cross.false
    (ap₂ (λ m n. m || n) c.cross.ensures c.cross-else-cross.ensures
    ∙ ap (λ n. cross cs n a.out a.first || cross cs n a.out a.second) c.is_reduction-never.ensures ∙ serial_is cs c.args.op.now a c.requires)
