use Rattle.std.proofs.Common.{◌≡◌, ℕ, ◌+◌, ◌-◌, ◌*◌, ◌<◌, ◌≤◌, get_or, length, pos}
use Rattle.arr_store.specs.Buffers.{cell_of}
use Rattle.arr_store.specs.Cells.{number_at, width_at}
use Rattle.arr_store.specs.Stored.{cells}
use Rattle.arr_strips.specs.Columns.{place_at}
use Rattle.arr_rows.specs.Courses.{IsAt}
use Rattle.arr_rows.proofs.rows.Rows.load.Given as goal

-- the first `done` numbers stand in the lane
abbrev pub invariant-loop-done : goal.invariant-loop-done
invariant-loop-done l =
    record {
      at : IsAt l.self l.course;
      position : l.course.position ≡ l.position + l.done;
      done : l.done ≤ l.count;
      elem : (cell_of l.lane).elem ≡ (cell_of l.fn.lane).elem;
      long : length (cell_of l.lane).numbers ≡ length (cell_of l.fn.lane).numbers;
      each : (i : ℕ) → i < l.done → get_or (cell_of l.lane).numbers i (pos 0) ≡ number_at (cells l.fn.store l.self.base) (place_at l.self (l.position + i));
      behind : (k : ℕ) → l.done ≤ k → get_or (cell_of l.lane).numbers k (pos 0) ≡ get_or (cell_of l.fn.lane).numbers k (pos 0);
      bases : l.store.bases ≡ l.fn.store.bases;
      loads : l.store.loads ≡ l.fn.store.loads + l.done * width_at (cells l.fn.store l.self.base);
      stores : l.store.stores ≡ l.fn.store.stores;
      made : l.store.made ≡ l.fn.store.made;
    }

abbrev pub decreases-loop-done : goal.decreases-loop-done
decreases-loop-done l = l.count - l.done
