use Rattle.std.proofs.Common.{inl, inr, ⊎_elim, refl, subst, arith}
use Rattle.arr_run.specs.Checked.{accepted_line, rejected_line}
use Rattle.arr_run.specs.Checking.{Failing}
use Rattle.arr_run.proofs.Judging.{blamed, judged_accepted, judged_memory, judged_rejected}
use Rattle.arr_run.proofs.program.judge.Goals as goal

pub returns-in-Ok-clause-judges : goal.returns-in-Ok-clause-judges
returns-in-Ok-clause-judges g c =
    judged_accepted c.args.parts.now (g.C.Source.left c.args.proof.now) (g.K.Sink.written c.args.sink.now) (g.K.Sink.written c.check_parts.new.sink) (g.K.Sink.written c.end_with.new.sink) c.in-Ok.count c.end_with.result
    c.in-Ok.ensures.checks (c.end_with.ensures.ended (accepted_line c.in-Ok.count) c.accepted_line.ensures)

pub returns-in-Ok-clause-blames : goal.returns-in-Ok-clause-blames
returns-in-Ok-clause-blames g c = λ reads.
    let e = c.end_with.ensures.ended (accepted_line c.in-Ok.count) c.accepted_line.ensures in
    let t = c.check_parts.ensures.traced in
    blamed 0 c.end_with.result reads (g.C.Source.faults c.args.proof.now) (g.C.Source.faults c.check_parts.new.proof) (g.K.Sink.faults c.args.sink.now) (g.K.Sink.faults c.check_parts.new.sink) (g.K.Sink.faults c.end_with.new.sink)
    (inl (omega arith)) e.known t.reads_later t.writes_later c.end_with.ensures.later c.end_with.ensures.cause

pub returns-in-Err-Rejected-clause-judges : goal.returns-in-Err-Rejected-clause-judges
returns-in-Err-Rejected-clause-judges g c =
    judged_rejected c.args.parts.now (g.C.Source.left c.args.proof.now) (g.K.Sink.written c.args.sink.now) (g.K.Sink.written c.check_parts.new.sink) (g.K.Sink.written c.end_with-in-Err-Rejected.new.sink)
    c.in-Err-Rejected.flush c.in-Err-Rejected.line c.in-Err-Rejected.kind c.end_with-in-Err-Rejected.result (subst (Failing c.args.parts.now (g.C.Source.left c.args.proof.now) (g.K.Sink.written c.args.sink.now) (g.K.Sink.written c.check_parts.new.sink)) c.in-Err-Rejected.field-0-is c.in-Err-Rejected.ensures.checks)
    (c.end_with-in-Err-Rejected.ensures.ended (rejected_line c.in-Err-Rejected.flush c.in-Err-Rejected.line c.in-Err-Rejected.kind) c.rejected_line.ensures)

pub returns-in-Err-Rejected-clause-ended : goal.returns-in-Err-Rejected-clause-ended
returns-in-Err-Rejected-clause-ended g c = λ done.
    let e = c.end_with-in-Err-Rejected.ensures.ended (rejected_line c.in-Err-Rejected.flush c.in-Err-Rejected.line c.in-Err-Rejected.kind) c.rejected_line.ensures in
    absurd (⊎_elim (λ f. omega arith) (λ f. ⊎_elim (λ h. omega arith) (λ h. omega arith) f) e.known)

pub returns-in-Err-Rejected-clause-blames : goal.returns-in-Err-Rejected-clause-blames
returns-in-Err-Rejected-clause-blames g c = λ reads.
    let e = c.end_with-in-Err-Rejected.ensures.ended (rejected_line c.in-Err-Rejected.flush c.in-Err-Rejected.line c.in-Err-Rejected.kind) c.rejected_line.ensures in
    let t = c.check_parts.ensures.traced in
    blamed 6 c.end_with-in-Err-Rejected.result reads (g.C.Source.faults c.args.proof.now) (g.C.Source.faults c.check_parts.new.proof) (g.K.Sink.faults c.args.sink.now) (g.K.Sink.faults c.check_parts.new.sink)
    (g.K.Sink.faults c.end_with-in-Err-Rejected.new.sink) (inr refl) e.known t.reads_later t.writes_later c.end_with-in-Err-Rejected.ensures.later c.end_with-in-Err-Rejected.ensures.cause

pub returns-in-Err-NoMemory-clause-judges : goal.returns-in-Err-NoMemory-clause-judges
returns-in-Err-NoMemory-clause-judges g c =
    judged_memory c.args.parts.now (g.C.Source.left c.args.proof.now) (g.K.Sink.written c.args.sink.now) (g.K.Sink.written c.check_parts.new.sink) (subst (Failing c.args.parts.now (g.C.Source.left c.args.proof.now) (g.K.Sink.written c.args.sink.now) (g.K.Sink.written c.check_parts.new.sink)) c.in-Err-NoMemory.field-0-is c.in-Err-NoMemory.ensures.checks)
