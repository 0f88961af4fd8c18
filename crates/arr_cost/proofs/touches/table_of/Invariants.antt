use Rattle.std.proofs.Common.{◌≡◌, ◌+◌, ◌∷◌, length, map, take}
use Rattle.std.specs.Prelude.{IsTrue}
use Rattle.std.specs.List.{All, flat_map}
use Rattle.arr_ops.specs.Ops.{views}
use Rattle.arr_cost.specs.Touches.{is_below, touches_of, untouched}
use Rattle.arr_cost.proofs.touches.table_of.Given as goal

abbrev pub invariant-loop-op : goal.invariant-loop-op
invariant-loop-op l = record {
  all : l.all.items ≡ flat_map views l.ops;
  table : l.table.items ≡ untouched ∷ map (touches_of l.ops l.all.items) (take l.op-index l.ops);
  below : All (λ t. IsTrue (is_below (length l.all.items + 1) t)) l.table.items;
}
