use Rattle.std.proofs.Common.{◌∙◌, ◌+◌, arith}
use Rattle.std.proofs.Math.ListN.{length-set}
use Rattle.arr_sums.specs.Kept.{kept_at}
use Rattle.arr_sums.proofs.Kept.{passed}
use Rattle.arr_sums.proofs.Turns.{run_more}
use Rattle.arr_sums.proofs.folds.copy.Goals as goal

pub loop-i-preserved : goal.loop-i-preserved
loop-i-preserved g c =
    record {
      long = length-set c.loop-i.out (c.args.at + c.loop-i.i) c.narrow.result ∙ c.loop-i.invariant.long;
      done = run_more g.T.Native.number (kept_at c.args.sums.now c.args.from) c.args.out.now c.loop-i.out c.args.at c.loop-i.i c.narrow.result
          (omega (arith, c.loop-i-test.true, c.requires.out, c.loop-i.invariant.long))
          (c.narrow.ensures ∙ passed g.T.Native.elem (kept_at c.args.sums.now c.args.from c.loop-i.i) (c.requires.typed c.loop-i.i c.loop-i-test.true)) c.loop-i.invariant.done;
    }
