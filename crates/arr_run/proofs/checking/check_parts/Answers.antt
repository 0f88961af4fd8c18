use Rattle.arr_cert.specs.Proofs.{unread}
use Rattle.arr_run.proofs.Judging.{failing_first, failing_memory, failing_read, fresh}
use Rattle.arr_run.proofs.checking.check_parts.Goals as goal

pub returns-in_default-clause-checks : goal.returns-in_default-clause-checks
returns-in_default-clause-checks g c = failing_first c.args.parts.now (g.C.Source.left c.args.proof.now) (g.K.Sink.written c.args.sink.now)

pub returns-in-Err-ReadFault-clause-checks : goal.returns-in-Err-ReadFault-clause-checks
returns-in-Err-ReadFault-clause-checks g c =
    let u = unread g.C.Source c.in-Ok.reader c.args.proof.now in
    let v = unread g.C.Source c.check_flushes.new.reader c.check_flushes.new.proof in
    failing_read c.args.parts.now c.in_ok-next.next u v (g.C.Source.left c.args.proof.now) (g.K.Sink.written c.args.sink.now) (g.K.Sink.written c.check_flushes.new.sink)
    (fresh g.C.Source c.in-Ok.reader c.args.proof.now c.in-Ok.ensures) c.in_ok-next.ensures.checks

pub returns-clause-checks : goal.returns-clause-checks
returns-clause-checks g c =
    let u = unread g.C.Source c.in-Ok.reader c.args.proof.now in
    let v = unread g.C.Source c.check_flushes.new.reader c.check_flushes.new.proof in
    failing_memory c.args.parts.now c.in_ok-next.next u v (g.C.Source.left c.args.proof.now) (g.K.Sink.written c.args.sink.now) (g.K.Sink.written c.check_flushes.new.sink)
    (fresh g.C.Source c.in-Ok.reader c.args.proof.now c.in-Ok.ensures) c.in_ok-next.ensures.checks
