use Rattle.std.proofs.Common.{◌≡◌, ◌-◌, ◌*◌, drop}
use Rattle.arr_store.specs.Slots.{slots_of}
use Rattle.arr_listing.specs.Texts.{rows}
use Rattle.arr_listing.specs.Shown.{numbers_of}
use Rattle.arr_io.specs.Buffered.{outgoing}
use Rattle.arr_io.proofs.Buffered.{PutsFront}
use Rattle.arr_listing.proofs.arrays.put_rows.Given as goal

abbrev pub invariant-loop-row : goal.invariant-loop-row
invariant-loop-row g l =
    let numbers = numbers_of (slots_of l.slots l.slot) in
    record {
      start : l.start ≡ l.row * l.width;
      puts : PutsFront (outgoing g.K.Sink l.initial.out l.initial.sink) (outgoing g.K.Sink l.out l.sink) (rows (l.count - l.row) l.width (drop l.start numbers)) (rows l.count l.width numbers);
    }
