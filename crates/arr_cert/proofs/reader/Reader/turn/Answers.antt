use Rattle.std.proofs.Common.{sym, ap, ◌∙◌}
use Rattle.arr_cert.specs.Reading.{is_marked}
use Rattle.arr_cert.specs.Proofs.{last_line, unread}
use Rattle.arr_cert.proofs.Passing.{answers, behind_item, passes, too_long}
use Rattle.arr_cert.proofs.reader.Reader.turn.Goals as goal

pub returns-then-not-marked-clause-item : goal.returns-then-not-marked-clause-item
returns-then-not-marked-clause-item g c =
    let l = rw c.in-Line.is at c.in-Ok.ensures.found in
    passes (unread g.S.Source c.args.self.now c.args.source.now) (unread g.S.Source c.find_line.new.self c.find_line.new.source) c.find_line.new.self.text.items l.0 l.1 l.2
    (ap is_marked (sym c.deref.ensures.value) ∙ (sym c.is_record-marked.ensures ∙ c.if-not-marked.true))

pub returns-in-Beyond-clause-item : goal.returns-in-Beyond-clause-item
returns-in-Beyond-clause-item g c =
    let b = rw c.in-Beyond.is at c.in-Ok.ensures.found in
    too_long (unread g.S.Source c.args.self.now c.args.source.now) (unread g.S.Source c.find_line.new.self c.find_line.new.source) b.0 b.1 (last_line c.find_line.new.self) c.in-Ok.ensures.line b.2

pub returns-in-Ok-spelled-clause-item : goal.returns-in-Ok-spelled-clause-item
returns-in-Ok-spelled-clause-item g c =
    let l = rw c.in-Line.is at c.in-Ok.ensures.found in
    answers (unread g.S.Source c.args.self.now c.args.source.now) (unread g.S.Source c.find_line.new.self c.find_line.new.source) c.find_line.new.self.text.items l.0 l.1 c.in-Ok-spelled.item (last_line c.find_line.new.self)
    c.in-Ok.ensures.line l.2 (ap is_marked (sym c.deref.ensures.value) ∙ (sym c.is_record-marked.ensures ∙ c.if-not-marked.false)) c.in-Ok-spelled.ensures.item

pub returns-in-Ok-spelled-clause-behind : goal.returns-in-Ok-spelled-clause-behind
returns-in-Ok-spelled-clause-behind g c =
    let l = rw c.in-Line.is at c.in-Ok.ensures.found in
    let line = l.2 in
    behind_item c.in-Ok-spelled.item c.find_line.new.self.line c.find_line.new.self.next_line c.args.self.now.next_line c.in-Ok.ensures.line line.next
