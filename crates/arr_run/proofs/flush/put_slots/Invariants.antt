use Rattle.std.proofs.Common.{drop}
use Rattle.arr_io.specs.Buffered.{outgoing}
use Rattle.arr_io.proofs.Buffered.{PutsFront}
use Rattle.arr_store.specs.Slots.{slots_of}
use Rattle.arr_run.specs.Shown.{slots_text}
use Rattle.arr_run.proofs.flush.put_slots.Given as goal

abbrev pub invariant-loop-op : goal.invariant-loop-op
invariant-loop-op g l =
    PutsFront (outgoing g.K.Sink l.initial.out l.initial.sink) (outgoing g.K.Sink l.out l.sink) (slots_text (slots_of l.slots) (drop l.op-index l.ops)) (slots_text (slots_of l.slots) l.ops)
