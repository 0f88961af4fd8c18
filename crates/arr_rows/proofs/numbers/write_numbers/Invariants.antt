use Rattle.std.proofs.Common.{◌≡◌, ◌+◌, ◌-◌, ◌*◌, ◌≤◌, drop, take}
use Rattle.arr_store.specs.Cells.{width_at}
use Rattle.arr_store.specs.Stored.{cells}
use Rattle.arr_strips.specs.Strips.{part, put_at}
use Rattle.arr_rows.specs.Courses.{IsAt}
use Rattle.arr_rows.proofs.numbers.write_numbers.Given as goal

-- the first `done` numbers are stored
abbrev pub invariant-loop-done : goal.invariant-loop-done
invariant-loop-done l =
    record {
      at : IsAt l.out l.course;
      position : l.course.position ≡ l.done;
      done : l.done ≤ l.count;
      bases : cells l.store ≡ put_at l.out.base (part l.out 0 l.done) (take l.done (drop l.from l.numbers)) (cells l.fn.store);
      loads : l.store.loads ≡ l.fn.store.loads;
      stores : l.store.stores ≡ l.fn.store.stores + l.done * width_at (cells l.fn.store l.out.base);
      made : l.store.made ≡ l.fn.store.made;
    }

abbrev pub decreases-loop-done : goal.decreases-loop-done
decreases-loop-done l = l.count - l.done
