use Rattle.std.proofs.Common.{◌∙◌, pos, get_or, ap, arith, rules, to_z, ◌+◌}
use Rattle.std.proofs.Math.ListN.{length-set}
use Rattle.std.specs.Int.{w32, w64}
use lib.IntN.{nat_abs}
use mir.Val.{SFits}
use Rattle.arr_store.specs.Runs.{moved, run_place}
use Rattle.arr_store.proofs.Places.{abs_place, step_place, item_more, item_before, item_behind, item_is}
use Rattle.arr_store.proofs.runs.gather_each.Goals as goal

pub loop-i-preserved : goal.loop-i-preserved
loop-i-preserved g c =
    let s = c.args.run.stride in
    let x = c.index-source-place.result in
    let inside = c.requires.there c.loop-i.i c.loop-i-test.true in
    let here = c.loop-i.invariant.here in
    let small : SFits w32 c.args.run.stride = search rules in
    let place = ap nat_abs here ∙ abs_place (moved (pos c.args.run.start) s c.loop-i.i) inside.0 in
    record {
      long = length-set c.loop-i.out (c.args.at + c.loop-i.i) x ∙ c.loop-i.invariant.long;
      here = step_place c.args.run.start s (to_z w64 c.loop-i.place-bits) c.loop-i.i small here inside.0;
      each = item_more (λ k d. get_or c.args.source.now (run_place c.args.run.start s k) d) c.loop-i.out c.args.at c.loop-i.i x (omega (arith, c.loop-i-test.true, c.requires.out, c.loop-i.invariant.long))
          c.loop-i.invariant.each (item_is c.args.source.now (nat_abs (to_z w64 c.loop-i.place-bits)) (run_place c.args.run.start s c.loop-i.i) x place inside.1 c.index-source-place.is);
      before = item_before c.args.out.now c.loop-i.out c.args.at c.loop-i.i x c.loop-i.invariant.before;
      behind = item_behind c.args.out.now c.loop-i.out c.args.at c.loop-i.i x c.loop-i.invariant.behind;
    }
