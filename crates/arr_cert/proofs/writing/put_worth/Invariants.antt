use Rattle.std.proofs.Common.{◌++◌, ◌∷◌, [], take}
use Rattle.std.specs.List.{flat_map}
use Rattle.arr_cert.specs.Texts.{group_text}
use Rattle.arr_cert.specs.Wrote.{WroteMore}
use Rattle.arr_cert.proofs.writing.put_worth.Given as goal

abbrev pub invariant-loop-index : goal.invariant-loop-index
invariant-loop-index g l = WroteMore (g.K.Sink.written l.fn.sink) (g.K.Sink.written l.sink) (g.K.Sink.faults l.fn.sink) (g.K.Sink.faults l.sink) l.fn.so_far l.going ((33 ∷ 119 ∷ 111 ∷ 114 ∷ 116 ∷ 104 ∷ []) ++ flat_map group_text (take l.index l.charges))
