use Rattle.std.proofs.Common.{◌≡◌, ◌≤◌}
use Rattle.arr_cert.specs.Reading.{Told}
use Rattle.arr_cert.specs.Proofs.{HasMetEnd, unread}
use Rattle.arr_cert.proofs.reader.Reader.next.Given as goal

abbrev pub invariant-loop-item : goal.invariant-loop-item
invariant-loop-item g l = record {
  same : Told (unread g.S.Source l.fn.self l.fn.source) (unread g.S.Source l.self l.source) (λ a b. a ≡ b);
  met : HasMetEnd g.S.Source l.self l.source;
  over : l.self.over ≡ l.fn.self.over;
  on : l.fn.self.next_line ≤ l.self.next_line;
  later : g.S.Source.faults l.fn.source ≤ g.S.Source.faults l.source;
}

abbrev pub decreases-loop-item : goal.decreases-loop-item
decreases-loop-item g l = l.self.room
