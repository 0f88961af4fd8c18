use Rattle.std.proofs.Common.{drop, ◌+◌}
use Rattle.arr_listing.specs.Plans.{ops_text}
use Rattle.arr_io.specs.Buffered.{outgoing}
use Rattle.arr_io.proofs.Buffered.{PutsFront}
use Rattle.arr_listing.proofs.plans.put_ops.Given as goal

abbrev pub invariant-loop-index : goal.invariant-loop-index
invariant-loop-index g l =
    PutsFront (outgoing g.K.Sink l.initial.out l.initial.sink) (outgoing g.K.Sink l.out l.sink) (ops_text (l.index + 1) (drop l.index l.ops)) (ops_text 1 l.ops)
