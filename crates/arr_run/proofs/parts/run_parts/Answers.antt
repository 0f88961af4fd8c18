use Rattle.std.proofs.Common.{◌≡◌, ◌∙◌, sym, refl, arith, rules, Err}
use Rattle.arr_run.proofs.Turns.{broke, few_more, is_one, reached_next, risen, stopped, turn, wrote_more}
use Rattle.arr_run.proofs.parts.run_parts.Goals as goal

pub run_part-requires-clause-part : goal.run_part-requires-clause-part
run_part-requires-clause-part g c = is_one c.args.parts.now c.loop-part.part-index c.part-item.result c.loop-part-test.true c.part-item.is c.requires.each

pub run_part-requires-clause-fitting : goal.run_part-requires-clause-fitting
run_part-requires-clause-fitting g c = (turn c.loop-part.invariant.reached c.loop-part-test.true c.part-item.is).fits

pub returns-in_err-run_part-clause-stopped : goal.returns-in_err-run_part-clause-stopped
returns-in_err-run_part-clause-stopped g c = λ is.
    let t = turn c.loop-part.invariant.reached c.loop-part-test.true c.part-item.is in
    let returned : c.from_residual.result ≡ Err c.in_err-run_part.field-0.0 = search rules in
    stopped t refl c.loop-part.invariant.wrote (c.in_err-run_part.ensures.stopped (sym returned ∙ is))

pub returns-in_err-run_part-clause-broke : goal.returns-in_err-run_part-clause-broke
returns-in_err-run_part-clause-broke g c = λ is.
    let t = turn c.loop-part.invariant.reached c.loop-part-test.true c.part-item.is in
    let returned : c.from_residual.result ≡ Err c.in_err-run_part.field-0.0 = search rules in
    broke t c.loop-part.invariant.wrote (c.in_err-run_part.ensures.broke (sym returned ∙ is))

pub loop-part-preserved : goal.loop-part-preserved
loop-part-preserved g c =
    let t = turn c.loop-part.invariant.reached c.loop-part-test.true c.part-item.is in
    record {
      reached = reached_next t c.in_ok-run_part.ensures.memory c.number_behind-number.ensures;
      wrote = wrote_more t c.loop-part.invariant.wrote c.in_ok-run_part.ensures.wrote;
      few = few_more c.part-item.result c.loop-part.part-index c.number_behind-number.ensures c.loop-part.invariant.few;
      counts = risen c.loop-part.part-index 4294967296 c.loop-part.invariant.counts c.in_ok-run_part.ensures.counts;
      later = omega arith;
    }
