use Rattle.arr_greedy.specs.Bits.{bit}
use Rattle.arr_greedy.specs.Fast.{amount, flag, may_merge}
use Rattle.arr_greedy.proofs.Scan.{pairs_more}
use Rattle.std.proofs.Common.{◌∙◌}
use Rattle.arr_greedy.proofs.choice.next_pair.Goals as goal

pub loop-place-preserved : goal.loop-place-preserved
loop-place-preserved c =
    record {
      best = pairs_more (amount c.args.saved.now c.args.width) (may_merge (flag c.args.fuses.now c.args.width) (bit c.args.reaches.now c.args.width) c.args.keys.now) c.args.keys.now
          c.loop-place.found c.better_in_row-found.result c.loop-place.place c.loop-place-test.true c.better_in_row-found.ensures.best
          ∙ c.loop-place.invariant.best;
      below = c.better_in_row-found.ensures.below;
      bounds_size = c.better_in_row-found.ensures.bounds_size;
      bounded = c.better_in_row-found.ensures.bounded;
    }
