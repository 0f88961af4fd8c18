use Rattle.std.proofs.Common.{◌≡◌, ◌+◌, ◌*◌, ◌≤◌, length}
use Rattle.arr_view.specs.Views.{positions}
use Rattle.arr_store.specs.Buffers.{cell_of}
use Rattle.arr_store.specs.Cells.{size_at, width_at}
use Rattle.arr_store.specs.Runs.{IsOf}
use Rattle.arr_store.specs.Stored.{cells}
use Rattle.arr_shift.proofs.Shifting.{Shifting}
use Rattle.arr_shift.proofs.shifts.shift.Given as goal

abbrev pub invariant-loop-left : goal.invariant-loop-left
invariant-loop-left l =
    record {
      inside : l.left.first + l.left.count ≤ positions l.out.lengths;
      elem : (cell_of l.lane).elem ≡ (cell_of l.fn.lane).elem;
      long : length (cell_of l.lane).numbers ≡ length (cell_of l.fn.lane).numbers;
      stands : Shifting l.out l.input (cells l.fn.store) (cells l.store) l.left.first l.left.count;
      base : IsOf (cell_of l.fn.lane).elem (cells l.store l.out.base);
      size : size_at (cells l.store l.out.base) ≡ size_at (cells l.fn.store l.out.base);
      wide : width_at (cells l.store l.out.base) ≡ width_at (cells l.fn.store l.out.base);
      loads : l.store.loads + l.left.count * width_at (cells l.fn.store l.out.base) ≡ l.fn.store.loads + positions l.out.lengths * width_at (cells l.fn.store l.out.base);
      stores : l.store.stores + l.left.count * width_at (cells l.fn.store l.out.base) ≡ l.fn.store.stores + positions l.out.lengths * width_at (cells l.fn.store l.out.base);
      made : l.store.made ≡ l.fn.store.made;
    }

abbrev pub decreases-loop-left : goal.decreases-loop-left
decreases-loop-left l = l.left.count
