use Rattle.arr_greedy.specs.Bits.{bit}
use Rattle.arr_greedy.specs.Fast.{amount, flag, may_merge}
use Rattle.arr_greedy.proofs.Bounds.{at_in, in_below}
use Rattle.arr_greedy.proofs.Scan.{row_more}
use Rattle.std.proofs.Common.{◌∙◌}
use Rattle.arr_greedy.proofs.choice.best_in_row.Goals as goal

pub loop-place-preserved : goal.loop-place-preserved
loop-place-preserved c =
    record {
      best = row_more (amount c.args.saved.now c.args.width) (may_merge (flag c.args.fuses.now c.args.width) (bit c.args.reaches.now c.args.width) c.args.keys.now) c.args.keys.now
          c.loop-place.found c.better_pair-found.result c.args.left c.loop-place.place c.loop-place-test.true (c.better_pair-found.ensures.best c.args.keys.now (c.requires.keys_in, c.requires.ways, c.requires.left_in, at_in c.args.keys.now c.loop-place.place c.loop-place-test.true))
          ∙ c.loop-place.invariant.best;
      below = c.better_pair-found.ensures.below;
    }

pub better_pair-found-requires-clause-left_in : goal.better_pair-found-requires-clause-left_in
better_pair-found-requires-clause-left_in c = in_below c.args.keys.now c.args.width c.requires.keys_in c.args.left c.requires.left_in
