use Rattle.std.proofs.Common.{◌≡◌, ◌+◌, ◌++◌, length, map, vec_len, vec_capacity}
use Rattle.arr_view.specs.Views.{elements, positions}
use Rattle.arr_ops.specs.Gathers.{picked}
use Rattle.arr_picks.specs.Picks.{AllBelow, numbers_of}
use Rattle.arr_picks.proofs.picking.picked_by_walk.Given as goal

abbrev pub invariant-loop-place : goal.invariant-loop-place
invariant-loop-place g l =
    record {
      whole : map g.T.Native.number l.picked.items ++ picked (numbers_of (map g.T.Native.number l.fn.numbers) (elements l.fn.view)) (numbers_of (map g.I.Native.number l.fn.index) l.place-iterator)
          ≡ picked (numbers_of (map g.T.Native.number l.fn.numbers) (elements l.fn.view)) (numbers_of (map g.I.Native.number l.fn.index) (elements l.fn.places));
      there : AllBelow (length l.fn.index) l.place-iterator;
      count : vec_len l.picked + length l.place-iterator ≡ positions l.fn.places.lengths;
      room : vec_capacity l.picked ≡ positions l.fn.places.lengths;
    }
