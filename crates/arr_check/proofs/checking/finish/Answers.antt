use Rattle.std.proofs.Common.{ℕ, Ok, Some, ap, subst, sym}
use Rattle.arr_cert.specs.Proofs.{last_line, unread}
use Rattle.arr_cert.specs.Unread.{waiting}
use Rattle.arr_check.specs.Judged.{Left}
use Rattle.arr_check.proofs.Readings.{ends_input, left_nothing, left_some}
use Rattle.arr_check.proofs.checking.finish.Goals as goal

pub returns-in-Some-clause-left : goal.returns-in-Some-clause-left
returns-in-Some-clause-left g c =
    subst (λ (n : ℕ). Left (unread g.S.Source c.args.reader.now c.args.source.now) (Some (n, c.in-Some.kind))) (sym c.line.ensures)
    (left_some (unread g.S.Source c.args.reader.now c.args.source.now) (unread g.S.Source c.next.new.self c.next.new.source) (last_line c.next.new.self) c.in-Ok.item c.in-Some.kind (c.in-Ok.ensures.item c.requires.open) c.in-Some.ensures)

pub returns-clause-left : goal.returns-clause-left
returns-clause-left g c =
    left_nothing (unread g.S.Source c.args.reader.now c.args.source.now) (unread g.S.Source c.next.new.self c.next.new.source) (last_line c.next.new.self) c.in-Ok.item (c.in-Ok.ensures.item c.requires.open) c.in-None.ensures

pub returns-clause-ended : goal.returns-clause-ended
returns-clause-ended g c = λ done. ends_input c.in-Ok.item (waiting c.next.new.self.pieces) (g.S.Source.left c.next.new.source) c.in-None.ensures (λ e. c.in-Ok.ensures.out c.requires.open (ap Ok e))
