use Rattle.std.proofs.Common.{◌≡◌, ◌∙◌, ◌+◌, ◌%◌, ◌<◌, ap, arith, cond, length, pos, get_or, set, to_z, of_z}
use Rattle.std.specs.Prelude.{◌==◌}
use Rattle.std.specs.Int.{w128}
use Rattle.arr_num.specs.Numbers.{value}
use Rattle.arr_native.specs.Entries.{entry}
use Rattle.arr_sums.specs.Kept.{kept_at}
use Rattle.arr_sums.proofs.Kept.{passed, set_at}
use Rattle.arr_sums.proofs.Parted.{lane_scans}
use Rattle.arr_sums.proofs.scan.scan_lane_part.Goals as goal

pub returns-clause-scanned : goal.returns-clause-scanned
returns-clause-scanned g c =
    let there : c.args.at < length c.args.carries.now = omega (arith, c.requires.carries, c.requires.inner) in
    let back : to_z w128 (of_z w128 c.widen.result) ≡ c.widen.result = passed g.T.Native.elem c.widen.result c.widen.ensures.typed in
    lane_scans (value c.args.code g.T.Native.elem) (g.T.Native.number c.args.start) c.args.axis.length c.args.axis.inner c.args.axis.outer (kept_at c.args.carries.now c.args.at)
    (kept_at (set c.args.carries.now c.args.at (to_z w128 (of_z w128 c.widen.result))) c.args.at) (entry g.T.Native.number c.scan_run.new.out) (entry g.T.Native.number c.args.source.now) c.args.place
    c.args.from c.args.run (g.T.Native.number c.fold_before-before.result) c.requires.inner c.requires.some c.requires.run c.requires.lane c.requires.inside
    (c.fold_before-before.ensures ∙ ap (λ k. cond (c.args.place % c.args.axis.length == 0) (g.T.Native.number c.args.start) (get_or c.args.carries.now k (pos 0))) (let e : c.args.at ≡ c.args.at + 0 = omega arith in e))
    c.scan_run.ensures.each
    (set_at c.args.carries.now c.args.at (to_z w128 (of_z w128 c.widen.result)) there ∙ back ∙ c.widen.ensures.number ∙ c.scan_run.ensures.last)
