use Rattle.std.proofs.Common.{◌≡◌, length, map, take, vec_len, vec_capacity}
use Rattle.arr_view.specs.Views.{elements}
use Rattle.arr_ops.specs.Gathers.{picked}
use Rattle.arr_picks.specs.Picks.{numbers_of}
use Rattle.arr_picks.proofs.picking.picked_by_row.Given as goal

abbrev pub invariant-loop-number : goal.invariant-loop-number
invariant-loop-number g l =
    record {
      done : map g.T.Native.number l.picked.items ≡ picked (numbers_of (map g.T.Native.number l.fn.numbers) (elements l.fn.view)) (map g.I.Native.number (take l.number-index l.index));
      count : vec_len l.picked ≡ l.number-index;
      room : vec_capacity l.picked ≡ length l.index;
    }
