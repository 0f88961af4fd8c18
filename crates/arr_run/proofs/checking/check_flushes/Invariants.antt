use Rattle.std.proofs.Common.{◌≡◌, ◌+◌, ◌≤◌, drop, false}
use Rattle.arr_cert.specs.Proofs.{HasMetEnd, is_over, unread}
use Rattle.arr_run.specs.Checking.{Checking}
use Rattle.arr_run.proofs.checking.check_flushes.Given as goal

abbrev pub invariant-loop-part : goal.invariant-loop-part
invariant-loop-part g l = record {
  checking : Checking l.parts (drop l.part-index l.parts) l.number (unread g.C.Source l.initial.reader l.initial.proof) (unread g.C.Source l.reader l.proof)
      (g.K.Sink.written l.initial.sink) (g.K.Sink.written l.sink);
  few : l.number ≤ l.part-index + 1;
  going : is_over l.reader ≡ false;
  met : HasMetEnd g.C.Source l.reader l.proof;
  proofs_later : g.C.Source.faults l.initial.proof ≤ g.C.Source.faults l.proof;
  later : g.K.Sink.faults l.initial.sink ≤ g.K.Sink.faults l.sink;
}
