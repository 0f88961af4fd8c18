use Rattle.std.proofs.Common.{◌≡◌, ◌∙◌, ◌-◌, ◌≤◌, subst, refl, sym, arith}
use Rattle.arr_sums.specs.Kept.{kept_at}
use Rattle.arr_sums.specs.Along.{ScansAlong}
use Rattle.arr_sums.proofs.Kept.{within_more, within_none}
use Rattle.std.proofs.Math.Nat.{min-le_right}
use Rattle.arr_num.specs.Numbers.{value}
use Rattle.arr_native.specs.Entries.{entry}
use Rattle.arr_sums.proofs.Parts.{part_below}
use Rattle.arr_sums.proofs.Rests.{scans_none, scans_more}
use Rattle.arr_sums.proofs.scan.scan_strip.Goals as goal

pub loop-done-init : goal.loop-done-init
loop-done-init g c =
    record {
      long_out = refl;
      changes = within_none g.T.Native.elem c.args.at c.args.axis.inner c.args.carries.now;
      below = omega arith;
      scanned = scans_none (value c.args.code g.T.Native.elem) (g.T.Native.number c.args.start) c.args.axis.length c.args.axis.inner (kept_at c.args.carries.now c.args.at)
          (entry g.T.Native.number c.args.out.now) (entry g.T.Native.number c.args.source.now) c.args.position 0;
    }

pub loop-done-preserved : goal.loop-done-preserved
loop-done-preserved g c =
    record {
      long_out = c.scan_part.ensures.out ∙ c.loop-done.invariant.long_out;
      changes = within_more g.T.Native.elem c.args.at c.args.axis.inner c.args.carries.now c.loop-done.carries c.scan_part.new.carries c.loop-done.invariant.changes c.scan_part.ensures.carries;
      below = part_below c.args.count c.loop-done.done c.run_from-run.result (subst (λ k. k ≤ c.args.count - c.loop-done.done) (sym c.run_from-run.ensures.value) (min-le_right _ _)) c.loop-done-test.true;
      scanned = scans_more (value c.args.code g.T.Native.elem) (g.T.Native.number c.args.start) c.args.axis.length c.args.axis.inner (kept_at c.args.carries.now c.args.at)
          (kept_at c.loop-done.carries c.args.at) (kept_at c.scan_part.new.carries c.args.at) (entry g.T.Native.number c.loop-done.out) (entry g.T.Native.number c.scan_part.new.out)
          (entry g.T.Native.number c.args.source.now) c.args.position c.loop-done.done c.run_from-run.result c.scan_part.ensures.before c.loop-done.invariant.scanned c.scan_part.ensures.scanned;
    }

pub returns-clause-scanned : goal.returns-clause-scanned
returns-clause-scanned g c =
    let all : c.loop-done.done ≡ c.args.count = omega (arith, c.loop-done-test.false, c.loop-done.invariant.below) in
    subst (λ k. ScansAlong g.T.Native.elem g.T.Native.number c.args.code c.args.start c.args.axis c.args.at c.args.carries.now c.loop-done.carries c.loop-done.out c.args.source.now c.args.position 0 k) all c.loop-done.invariant.scanned
