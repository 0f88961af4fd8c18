use Rattle.std.proofs.Common.{◌≡◌, ◌<◌, ◌*◌, ◌-◌, length, map}
use Rattle.std.specs.List.{All}
use Rattle.arr_ops.specs.Order.{least_of}
use Rattle.arr_heur.specs.Planners.{greedy_within}
use Rattle.arr_greedy.specs.Blocks.{Keyed}
use Rattle.arr_greedy.specs.Standing.{AllPriced, ArePrinted, blocks_of, rows_of}
use Rattle.arr_greedy.specs.Bits.{bit, words}
use Rattle.arr_greedy.specs.Tables.{TellsWays}
use Rattle.arr_greedy.specs.Fast.{flag}
use Rattle.arr_greedy.proofs.Fast.{Kept}
use Rattle.arr_greedy.proofs.merging.merge_all.Given as goal

abbrev pub invariant-loop-turn : goal.invariant-loop-turn
invariant-loop-turn l = record {
  keyed : Keyed (rows_of l.blocks.items);
  printed : ArePrinted l.costs l.blocks.items;
  blocks_in : length l.blocks.items ≡ l.width;
  keys_in : All (λ k. k < l.width) l.keys.items;
  fuses_size : length l.fuses ≡ l.width * l.width;
  reaches_size : length l.reaches ≡ l.width * words l.width;
  reached_size : length l.reached ≡ l.width * words l.width;
  ways : TellsWays l.keys.items l.reaches l.reached l.width;
  saved_size : length l.saved ≡ l.width * l.width;
  keys : l.keys.items ≡ map least_of (blocks_of l.blocks.items);
  bounds_size : length l.bounds ≡ l.width;
  kept : Kept l.costs (blocks_of l.blocks.items) (flag l.fuses l.width) (bit l.reaches l.width);
  priced : AllPriced l.costs l.blocks.items l.fuses l.reaches l.keys.items l.saved l.bounds l.width;
  same : greedy_within (l.count - l.turn) l.costs (blocks_of l.blocks.items) ≡ greedy_within l.count l.costs (blocks_of l.fn.blocks.items);
}
