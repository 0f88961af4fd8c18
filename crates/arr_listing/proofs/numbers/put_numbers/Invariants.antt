use Rattle.std.proofs.Common.{drop}
use Rattle.arr_listing.specs.Texts.{numbers_text}
use Rattle.arr_io.specs.Buffered.{outgoing}
use Rattle.arr_io.proofs.Buffered.{PutsFront}
use Rattle.arr_listing.proofs.numbers.put_numbers.Given as goal

abbrev pub invariant-loop-number : goal.invariant-loop-number
invariant-loop-number g l =
    PutsFront (outgoing g.K.Sink l.initial.out l.initial.sink) (outgoing g.K.Sink l.out l.sink) (numbers_text (drop l.number-index l.numbers)) (numbers_text l.numbers)
