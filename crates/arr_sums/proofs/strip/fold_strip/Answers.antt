use Rattle.std.proofs.Common.{◌*◌, ◌-◌, ◌≤◌, subst, sym, arith}
use Rattle.std.proofs.Math.Nat.{min-le_right}
use Rattle.arr_num.specs.Numbers.{value}
use Rattle.arr_native.specs.Entries.{entry}
use Rattle.arr_sums.specs.Kept.{kept_at}
use Rattle.arr_sums.proofs.Kept.{within_more, within_none}
use Rattle.arr_sums.proofs.Parts.{gathers_none, gathers_more, part_below}
use Rattle.arr_sums.proofs.strip.fold_strip.Goals as goal

pub loop-done-init : goal.loop-done-init
loop-done-init g c =
    record {
      below = omega arith;
      changes = within_none g.T.Native.elem c.args.at (c.args.axis.outer * c.args.axis.inner) c.args.sums.now;
      gathered = gathers_none (value c.args.code g.T.Native.elem) c.args.axis.length c.args.axis.inner (c.args.axis.outer * c.args.axis.inner) (kept_at c.args.sums.now c.args.at)
          (entry g.T.Native.number c.args.source.now) c.args.position 0;
    }

pub loop-done-preserved : goal.loop-done-preserved
loop-done-preserved g c =
    record {
      below = part_below c.args.count c.loop-done.done c.run_from-run.result (subst (λ k. k ≤ c.args.count - c.loop-done.done) (sym c.run_from-run.ensures.value) (min-le_right _ _)) c.loop-done-test.true;
      changes = within_more g.T.Native.elem c.args.at (c.args.axis.outer * c.args.axis.inner) c.args.sums.now c.loop-done.sums c.fold_part.new.sums c.loop-done.invariant.changes c.fold_part.ensures.changes;
      gathered = gathers_more (value c.args.code g.T.Native.elem) c.args.axis.length c.args.axis.inner (c.args.axis.outer * c.args.axis.inner) (kept_at c.args.sums.now c.args.at)
          (kept_at c.loop-done.sums c.args.at) (kept_at c.fold_part.new.sums c.args.at) (entry g.T.Native.number c.args.source.now) c.args.position c.loop-done.done c.run_from-run.result
          c.loop-done.invariant.gathered c.fold_part.ensures.gathered;
    }
