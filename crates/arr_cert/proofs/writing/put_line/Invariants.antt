use Rattle.std.proofs.Common.{◌++◌, take}
use Rattle.arr_cert.specs.Texts.{spaced}
use Rattle.arr_cert.specs.Wrote.{WroteMore}
use Rattle.arr_cert.proofs.writing.put_line.Given as goal

abbrev pub invariant-loop-number : goal.invariant-loop-number
invariant-loop-number g l = WroteMore (g.K.Sink.written l.fn.sink) (g.K.Sink.written l.sink) (g.K.Sink.faults l.fn.sink) (g.K.Sink.faults l.sink) l.fn.so_far l.going (l.word ++ spaced (take l.number-index l.numbers))
