use Rattle.std.proofs.Common.{◌<◌, ◌≤◌, length, subst, sym, arith}
use Rattle.arr_ops.specs.Memory.{lengths_of, or_zero}
use Rattle.arr_machine.proofs.Axes.{axis_inside_it}
use Rattle.arr_contract.proofs.Makings.{number_most}
use Rattle.arr_contract.proofs.tasks.along_of.Goals as goal

pub overflow_cast-result : goal.overflow_cast-result
overflow_cast-result c =
    let most : c.number_in.result ≤ length c.args.views.now = subst (λ n. n ≤ length c.args.views.now) (sym c.number_in.ensures) (number_most c.args.views.now c.array_view-view.result.now) in
    omega (arith, c.requires.few)

pub axis_at-requires : goal.axis_at-requires
axis_at-requires c =
    let inside : or_zero c.args.op.now.axis < length (lengths_of c.args.op.now.first) = axis_inside_it c.args.op.now c.array_view-view.result.now c.requires.well c.requires.code c.array_view-view.ensures in
    subst (λ n. n < length c.array_view-view.result.now.lengths) (sym c.axis_of.ensures) (subst (λ o. or_zero c.args.op.now.axis < length (lengths_of o)) c.array_view-view.ensures inside)
