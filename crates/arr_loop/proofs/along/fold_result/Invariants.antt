use Rattle.std.proofs.Common.{◌≡◌, ◌+◌, ◌*◌, ◌/◌, ◌%◌, true}
use Rattle.arr_num.specs.Numbers.{fold_start, in_type, value}
use Rattle.arr_store.specs.Cells.{width_at}
use Rattle.arr_store.specs.Stored.{cells}
use Rattle.arr_strips.specs.Columns.{fold_upto}
use Rattle.arr_loop.specs.Numbers.{row_at}
use Rattle.arr_loop.proofs.along.fold_result.Given as goal

abbrev pub invariant-loop-row : goal.invariant-loop-row
invariant-loop-row l = record {
  sum : l.sum ≡ fold_upto (value l.op.code l.op.to) (fold_start l.op.code l.op.to) (λ j. row_at (cells l.fn.store) ((l.line / l.rows.inner * l.rows.count + j) * l.rows.inner + l.line % l.rows.inner) l.input) l.row;
  typed : in_type l.op.to l.sum ≡ true;
  bases : l.store.bases ≡ l.fn.store.bases;
  loads : l.store.loads ≡ l.fn.store.loads + l.row * width_at (cells l.fn.store l.input.base);
  stores : l.store.stores ≡ l.fn.store.stores;
  made : l.store.made ≡ l.fn.store.made;
}
