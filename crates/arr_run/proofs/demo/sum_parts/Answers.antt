use Rattle.std.proofs.Common.{◌≡◌, ◌∙◌, sym, arith, rules, Err}
use Rattle.arr_run.proofs.Sums.{adds_turn, broke_more, cut_more, summed_more}
use Rattle.arr_run.proofs.Turns.{few_more, is_one, reached_next, risen, turn}
use Rattle.arr_run.proofs.demo.sum_parts.Goals as goal

pub sum_part-requires-clause-part : goal.sum_part-requires-clause-part
sum_part-requires-clause-part g c = is_one c.args.parts.now c.loop-part.part-index c.part-item.result c.loop-part-test.true c.part-item.is c.requires.each

pub sum_part-requires-clause-fitting : goal.sum_part-requires-clause-fitting
sum_part-requires-clause-fitting g c = (turn c.loop-part.invariant.reached c.loop-part-test.true c.part-item.is).fits

pub returns-in_err-sum_part-clause-cut : goal.returns-in_err-sum_part-clause-cut
returns-in_err-sum_part-clause-cut g c = λ is.
    let t = turn c.loop-part.invariant.reached c.loop-part-test.true c.part-item.is in
    let returned : c.from_residual.result ≡ Err c.in_err-sum_part.field-0.0 = search rules in
    cut_more t c.loop-part.invariant.wrote (c.in_err-sum_part.ensures.cut (sym returned ∙ is))

pub returns-in_err-sum_part-clause-broke : goal.returns-in_err-sum_part-clause-broke
returns-in_err-sum_part-clause-broke g c = λ is.
    let t = turn c.loop-part.invariant.reached c.loop-part-test.true c.part-item.is in
    let returned : c.from_residual.result ≡ Err c.in_err-sum_part.field-0.0 = search rules in
    broke_more t c.loop-part.invariant.wrote (c.in_err-sum_part.ensures.broke (sym returned ∙ is))

pub loop-part-preserved : goal.loop-part-preserved
loop-part-preserved g c =
    let t = turn c.loop-part.invariant.reached c.loop-part-test.true c.part-item.is in
    record {
      reached = reached_next t c.in_ok-sum_part.ensures.memory c.number_behind-number.ensures;
      wrote = summed_more t c.loop-part.invariant.wrote c.in_ok-sum_part.ensures.wrote;
      few = few_more c.part-item.result c.loop-part.part-index c.number_behind-number.ensures c.loop-part.invariant.few;
      counts = risen c.loop-part.part-index 4294967296 c.loop-part.invariant.counts c.in_ok-sum_part.ensures.counts;
      adds = adds_turn t c.loop-part.invariant.adds c.in_ok-sum_part.ensures.adds;
      few_arrays = omega (arith, c.loop-part.invariant.few_arrays, c.in_ok-sum_part.ensures.few_arrays);
      later = omega arith;
    }
