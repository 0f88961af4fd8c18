use Rattle.std.proofs.Common.{◌≡◌, ◌∙◌, ap, sym, rules, Err}
use Rattle.arr_rewrite.specs.NormalForm.{normal_form}
use Rattle.arr_run.specs.declared.flush.RunFault.TheVariants.{WriteFault, NoMemory}
use Rattle.arr_run.specs.Flushes.{planned_in}
use Rattle.arr_run.proofs.Flushing.{moved_rises, same_err}
use Rattle.arr_run.proofs.parts.run_flush.Goals as goal

pub returns-clause-wrote : goal.returns-clause-wrote
returns-clause-wrote g c =
    let report = c.in_ok-flush_once.field-0 in
    record {
      planned = (planned_in report, c.in_ok-flush_once.ensures.report.planned);
      wrote = c.in_ok-flush_once.ensures.wrote;
      counts = moved_rises (normal_form c.args.ops.now) report.plan c.args.store.now c.flush_once.new.store c.in_ok-flush_once.ensures.report.moved;
    }

pub returns-in_err-flush_once-clause-cause : goal.returns-in_err-flush_once-clause-cause
returns-in_err-flush_once-clause-cause g c =
    let e = c.in_err-flush_once.field-0.0 in
    let returned : c.from_residual.result ≡ Err e = search rules in
    record { later = c.in_err-flush_once.ensures.cause.later; failed = λ is. c.in_err-flush_once.ensures.cause.failed (ap Err (same_err e WriteFault (sym returned ∙ is))) }

pub returns-in_err-flush_once-clause-stopped : goal.returns-in_err-flush_once-clause-stopped
returns-in_err-flush_once-clause-stopped g c = λ is.
    let e = c.in_err-flush_once.field-0.0 in
    let returned : c.from_residual.result ≡ Err e = search rules in
    c.in_err-flush_once.ensures.stopped (ap Err (same_err e WriteFault (sym returned ∙ is)))

pub returns-in_err-flush_once-clause-broke : goal.returns-in_err-flush_once-clause-broke
returns-in_err-flush_once-clause-broke g c = λ is.
    let e = c.in_err-flush_once.field-0.0 in
    let returned : c.from_residual.result ≡ Err e = search rules in
    c.in_err-flush_once.ensures.broke (ap Err (same_err e NoMemory (sym returned ∙ is)))
