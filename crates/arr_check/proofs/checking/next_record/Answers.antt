use Rattle.arr_cert.specs.Proofs.{last_line, unread}
use Rattle.arr_check.proofs.Readings.{fails_if_end, fails_if_long, fails_if_malformed}
use Rattle.arr_check.proofs.checking.next_record.Goals as goal

pub returns-in-Ok-End-clause-found : goal.returns-in-Ok-End-clause-found
returns-in-Ok-End-clause-found g c =
    fails_if_end (unread g.S.Source c.args.reader.now c.args.source.now) (unread g.S.Source c.next.new.self c.next.new.source) (last_line c.next.new.self) c.in-Ok-End.field-0 c.in-Ok-End.field-0-is (c.in-Ok-End.ensures.item c.requires.open)

pub returns-in-Ok-Malformed-clause-found : goal.returns-in-Ok-Malformed-clause-found
returns-in-Ok-Malformed-clause-found g c =
    fails_if_malformed (unread g.S.Source c.args.reader.now c.args.source.now) (unread g.S.Source c.next.new.self c.next.new.source) (last_line c.next.new.self) c.in-Ok-Malformed.field-0 c.in-Ok-Malformed.field-0-is (c.in-Ok-Malformed.ensures.item c.requires.open)

pub returns-in-Ok-TooLong-clause-found : goal.returns-in-Ok-TooLong-clause-found
returns-in-Ok-TooLong-clause-found g c =
    fails_if_long (unread g.S.Source c.args.reader.now c.args.source.now) (unread g.S.Source c.next.new.self c.next.new.source) (last_line c.next.new.self) c.in-Ok-TooLong.field-0 c.in-Ok-TooLong.field-0-is (c.in-Ok-TooLong.ensures.item c.requires.open)
