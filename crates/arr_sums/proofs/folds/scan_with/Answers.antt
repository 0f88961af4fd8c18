use Rattle.std.proofs.Common.{◌∙◌, ◌+◌, ap₂, refl, sym, arith}
use Rattle.std.proofs.Math.ListN.{length-set}
use Rattle.arr_num.specs.Numbers.{value}
use Rattle.arr_native.specs.Entries.{entry}
use Rattle.arr_native.proofs.Entries.{entry_is}
use Rattle.arr_strips.specs.Columns.{fold_upto}
use Rattle.arr_sums.proofs.Turns.{upto_more, run_begins, run_more}
use Rattle.arr_sums.proofs.folds.scan_with.Goals as goal

pub loop-i-init : goal.loop-i-init
loop-i-init g c =
    record {
      long = refl;
      sum = refl;
      done = run_begins g.T.Native.number (λ j. fold_upto (value c.args._code g.T.Native.elem) (g.T.Native.number c.args.start) (λ k. entry g.T.Native.number c.args.source.now (c.args.from + k)) (j + 1))
          c.args.out.now c.args.from;
    }

pub loop-i-preserved : goal.loop-i-preserved
loop-i-preserved g c =
    let v = value c.args._code g.T.Native.elem in
    let x = c.index-source-from.result in
    let next = c.requires.values c.loop-i.sum x c.f-sum.result c.f-sum.ensures
    ∙ ap₂ v c.loop-i.invariant.sum (sym (entry_is g.T.Native.number c.args.source.now (c.args.from + c.loop-i.i) x (omega (arith, c.loop-i-test.true, c.requires.source)) c.index-source-from.is))
    ∙ sym (upto_more v (g.T.Native.number c.args.start) (λ k. entry g.T.Native.number c.args.source.now (c.args.from + k)) c.loop-i.i) in
    record {
      long = length-set c.loop-i.out (c.args.from + c.loop-i.i) c.f-sum.result ∙ c.loop-i.invariant.long;
      sum = next;
      done = run_more g.T.Native.number (λ j. fold_upto v (g.T.Native.number c.args.start) (λ k. entry g.T.Native.number c.args.source.now (c.args.from + k)) (j + 1)) c.args.out.now c.loop-i.out c.args.from
          c.loop-i.i c.f-sum.result (omega (arith, c.loop-i-test.true, c.requires.out, c.loop-i.invariant.long)) next c.loop-i.invariant.done;
    }
