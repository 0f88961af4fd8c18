use Rattle.std.proofs.Common.{take}
use Rattle.std.specs.List.{flat_map}
use Rattle.arr_cert.specs.Texts.{line_text}
use Rattle.arr_cert.specs.Wrote.{WroteMore}
use Rattle.arr_cert.proofs.writing.put_tree.Given as goal

abbrev pub invariant-loop-index : goal.invariant-loop-index
invariant-loop-index g l = WroteMore (g.K.Sink.written l.fn.sink) (g.K.Sink.written l.sink) (g.K.Sink.faults l.fn.sink) (g.K.Sink.faults l.sink) l.fn.so_far l.going (flat_map line_text (take l.index l.tree))
