use Rattle.std.proofs.Common.{◌++◌, ◌∷◌, [], take}
use Rattle.arr_cert.specs.Texts.{spaced}
use Rattle.arr_cert.specs.Wrote.{WroteMore}
use Rattle.arr_cert.proofs.writing.put_plan.Given as goal

abbrev pub invariant-loop-index : goal.invariant-loop-index
invariant-loop-index g l = WroteMore (g.K.Sink.written l.fn.sink) (g.K.Sink.written l.sink) (g.K.Sink.faults l.fn.sink) (g.K.Sink.faults l.sink) l.fn.so_far l.going ((33 ∷ 112 ∷ 108 ∷ 97 ∷ 110 ∷ []) ++ spaced (take l.index l.places))
