use Rattle.std.proofs.Common.{◌+◌, ◌*◌, ◌/◌, ◌<◌, arith, refl, ℤ, pos}
use Rattle.arr_num.specs.Numbers.{value}
use Rattle.arr_native.specs.Entries.{entry}
use Rattle.arr_strips.specs.Columns.{fold_upto}
use Rattle.arr_sums.specs.Kept.{kept_at}
use Rattle.arr_sums.proofs.Kept.{one_only, steps_within}
use Rattle.arr_sums.proofs.Lanes.{lane_there, lane_gathers}
use Rattle.arr_sums.proofs.strip.fold_lane_part.Goals as goal

pub fold_lane-requires-clause-sums : goal.fold_lane-requires-clause-sums
fold_lane-requires-clause-sums g c =
    let there : c.args.place / c.args.axis.length < c.args.axis.outer * c.args.axis.inner =
    lane_there c.args.axis.length c.args.axis.inner c.args.axis.outer (c.args.axis.outer * c.args.axis.inner) c.args.place c.requires.inner c.requires.some refl c.requires.inside in
    omega (arith, c.requires.sums)

pub fold_lane-requires-clause-typed : goal.fold_lane-requires-clause-typed
fold_lane-requires-clause-typed g c =
    c.requires.typed (c.args.place / c.args.axis.length)
    (lane_there c.args.axis.length c.args.axis.inner c.args.axis.outer (c.args.axis.outer * c.args.axis.inner) c.args.place c.requires.inner c.requires.some refl c.requires.inside)

pub returns-clause-changes : goal.returns-clause-changes
returns-clause-changes g c =
    let there : c.args.place / c.args.axis.length < c.args.axis.outer * c.args.axis.inner =
    lane_there c.args.axis.length c.args.axis.inner c.args.axis.outer (c.args.axis.outer * c.args.axis.inner) c.args.place c.requires.inner c.requires.some refl c.requires.inside in
    steps_within g.T.Native.elem (λ sum x. fold_upto (value c.args.code g.T.Native.elem) sum (λ j. entry g.T.Native.number c.args.source.now (c.args.from + j)) c.args.run) c.args.sums.now
    c.fold_lane.new.sums (λ j. pos 0) c.args.at (c.args.place / c.args.axis.length) 1 (c.args.axis.outer * c.args.axis.inner) (omega arith) c.fold_lane.ensures

pub returns-clause-gathered : goal.returns-clause-gathered
returns-clause-gathered g c =
    let step = λ (sum : ℤ) (x : ℤ). fold_upto (value c.args.code g.T.Native.elem) sum (λ j. entry g.T.Native.number c.args.source.now (c.args.from + j)) c.args.run in
    let one = one_only g.T.Native.elem step c.args.sums.now c.fold_lane.new.sums (λ j. pos 0) c.args.at (c.args.place / c.args.axis.length) c.fold_lane.ensures in
    lane_gathers (value c.args.code g.T.Native.elem) c.args.axis.length c.args.axis.inner (c.args.axis.outer * c.args.axis.inner) (kept_at c.args.sums.now c.args.at)
    (kept_at c.fold_lane.new.sums c.args.at) (entry g.T.Native.number c.args.source.now) c.args.place c.args.from c.args.run c.requires.inner c.requires.some c.requires.lane
    (lane_there c.args.axis.length c.args.axis.inner c.args.axis.outer (c.args.axis.outer * c.args.axis.inner) c.args.place c.requires.inner c.requires.some refl c.requires.inside)
    one.0 one.1
