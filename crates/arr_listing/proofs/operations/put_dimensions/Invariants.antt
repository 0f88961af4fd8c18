use Rattle.std.proofs.Common.{drop}
use Rattle.arr_listing.specs.Texts.{dimensions_text, more_dimensions_text}
use Rattle.arr_io.specs.Buffered.{outgoing}
use Rattle.arr_io.proofs.Buffered.{PutsFront}
use Rattle.arr_listing.proofs.operations.put_dimensions.Given as goal

abbrev pub invariant-loop-axis : goal.invariant-loop-axis
invariant-loop-axis g l =
    PutsFront (outgoing g.K.Sink l.fn.out l.fn.sink) (outgoing g.K.Sink l.out l.sink) (more_dimensions_text (drop l.axis l.lengths) (drop l.axis l.strides)) (dimensions_text l.lengths l.strides)
