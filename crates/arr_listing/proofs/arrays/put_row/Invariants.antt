use Rattle.std.proofs.Common.{◌+◌, drop, take}
use Rattle.std.specs.List.{flat_map}
use Rattle.arr_store.specs.Slots.{slots_of}
use Rattle.arr_listing.specs.Texts.{spaced}
use Rattle.arr_listing.specs.Shown.{numbers_of}
use Rattle.arr_listing.proofs.Rows.{piece}
use Rattle.arr_io.specs.Buffered.{outgoing}
use Rattle.arr_io.proofs.Buffered.{PutsFront}
use Rattle.arr_listing.proofs.arrays.put_row.Given as goal

abbrev pub invariant-loop-position : goal.invariant-loop-position
invariant-loop-position g l =
    let numbers = numbers_of (slots_of l.slots l.slot) in
    PutsFront (outgoing g.K.Sink l.fn.out l.fn.sink) (outgoing g.K.Sink l.out l.sink) (flat_map piece (drop l.position (take (l.start + l.width) numbers))) (spaced (take l.width (drop l.start numbers)))
