use Rattle.std.proofs.Common.{◌≡◌, ◌+◌, ◌++◌, length, map, vec_len, vec_capacity}
use Rattle.arr_view.specs.Views.{elements, positions}
use Rattle.arr_picks.specs.Picks.{AllBelow, numbers_of}
use Rattle.arr_picks.proofs.picking.in_order.Given as goal

abbrev pub invariant-loop-place : goal.invariant-loop-place
invariant-loop-place g l =
    record {
      whole : map g.T.Native.number l.ordered.items ++ numbers_of (map g.T.Native.number l.fn.numbers) l.place-iterator
          ≡ numbers_of (map g.T.Native.number l.fn.numbers) (elements l.fn.view);
      there : AllBelow (length l.fn.numbers) l.place-iterator;
      count : vec_len l.ordered + length l.place-iterator ≡ positions l.fn.view.lengths;
      room : vec_capacity l.ordered ≡ positions l.fn.view.lengths;
    }
