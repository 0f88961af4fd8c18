use Rattle.std.proofs.Common.{◌≤◌, ◌-◌}
use Rattle.arr_cert.specs.Unread.{coming}
use Rattle.arr_cert.specs.Proofs.{HasMetEnd, IsSame}
use Rattle.arr_cert.proofs.Looking.{Looking}
use Rattle.arr_cert.proofs.reader.Reader.find_line.Given as goal

abbrev pub invariant-loop-more : goal.invariant-loop-more
invariant-loop-more g l = record {
  so_far : Looking (coming g.S.Source l.fn.self.pieces l.fn.source) (coming g.S.Source l.self.pieces l.source) l.self.text.items l.size l.self.room;
  same : IsSame l.fn.self l.self;
  met : HasMetEnd g.S.Source l.self l.source;
  later : g.S.Source.faults l.fn.source ≤ g.S.Source.faults l.source;
}

abbrev pub decreases-loop-more : goal.decreases-loop-more
decreases-loop-more g l = l.self.room - l.size
