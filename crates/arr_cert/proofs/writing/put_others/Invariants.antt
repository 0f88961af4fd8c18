use Rattle.std.proofs.Common.{take, drop}
use Rattle.arr_cert.specs.Texts.{behind}
use Rattle.arr_cert.specs.Wrote.{WroteMore}
use Rattle.arr_cert.proofs.writing.put_others.Given as goal

abbrev pub invariant-loop-index : goal.invariant-loop-index
invariant-loop-index g l = WroteMore (g.K.Sink.written l.fn.sink) (g.K.Sink.written l.sink) (g.K.Sink.faults l.fn.sink) (g.K.Sink.faults l.sink) l.fn.so_far l.going (behind 44 (drop 1 (take l.index l.ops)))
