use Rattle.std.proofs.Common.{◌≡◌, ◌+◌, ◌/◌, cond, length}
use Rattle.std.specs.List.{list_any}
use Rattle.arr_view.specs.Views.{identical}
use Rattle.arr_ops.specs.Ops.{inputs, outputs}
use Rattle.arr_law.specs.ProblemOf.{op_at}
use Rattle.arr_bound.proofs.Tables.{RowBelow}
use Rattle.arr_bound.proofs.classes.row_of.Given as goal

abbrev pub invariant-loop-place : goal.invariant-loop-place
invariant-loop-place l = record {
  long : length l.row.items ≡ length l.ops / 64 + 1;
  below : RowBelow (λ g. cond l.written (list_any (identical l.view) (outputs (op_at l.ops g))) (list_any (identical l.view) (inputs (op_at l.ops g)))) l.place l.row.items;
}
