use Rattle.std.proofs.Common.{◌≡◌, drop, pos, take}
use Rattle.arr_store.specs.Buffers.{cell_of}
use Rattle.arr_store.specs.Runs.{moved, run_places, with_places}
use Rattle.arr_store.proofs.buffer.Buffer.put_numbers.Given as goal

abbrev pub invariant-loop-i : goal.invariant-loop-i
invariant-loop-i l =
    record {
      here : l.place ≡ moved (pos l.run.start) l.run.stride l.i;
      done : cell_of l.self ≡ with_places (cell_of l.fn.self) (run_places l.run.start l.run.stride l.i) (take l.i (drop l.at l.numbers));
    }
