use Rattle.std.proofs.Common.{◌≡◌, ◌+◌, [], Err, rules, subst, sym, drop, arith}
use Rattle.arr_cert.specs.Proofs.{unread}
use Rattle.arr_run.specs.Checking.{Checks}
use Rattle.arr_run.proofs.Judging.{beginning, here}
use Rattle.arr_run.proofs.checking.check_flushes.Goals as goal

pub loop-part-init : goal.loop-part-init
loop-part-init g c = record {
  checking = beginning c.args.parts.now (unread g.C.Source c.args.reader.now c.args.proof.now) (g.K.Sink.written c.args.sink.now);
  few = omega arith;
  going = c.requires.going;
  met = c.requires.met;
  proofs_later = omega arith;
  later = omega arith;
}

pub returns-in_err-number-clause-checks : goal.returns-in_err-number-clause-checks
returns-in_err-number-clause-checks g c =
    let parts = c.args.parts.now in
    let i = c.loop-part.part-index in
    let x = c.part-item.result in
    let e = c.in_err-number.field-0.0 in
    let u = unread g.C.Source c.args.reader.now c.args.proof.now in
    let v = unread g.C.Source c.loop-part.reader c.loop-part.proof in
    let w = unread g.C.Source c.check_part.new.reader c.check_part.new.proof in
    let old = g.K.Sink.written c.args.sink.now in
    let new = g.K.Sink.written c.check_part.new.sink in
    let returned : c.from_residual.result ≡ Err e = search rules in
    let now = here parts i c.loop-part.number x u v old (g.K.Sink.written c.loop-part.sink) c.loop-part-test.true c.part-item.is c.loop-part.invariant.checking in
    subst (λ r. Checks parts [] u w old new r) (sym returned) (c.in_err-number.ensures.checks parts (drop (i + 1) parts) u old now)
