use Rattle.std.proofs.Common.{◌≡◌, ◌≤◌, map, take}
use Rattle.std.specs.List.{All}
use Rattle.arr_check.specs.Tables.{entry_of}
use Rattle.arr_check.specs.declared.weights.Entry.{Entry}
use Rattle.arr_check.proofs.weights.entries.Given as goal

abbrev pub invariant-loop-view : goal.invariant-loop-view
invariant-loop-view l = record {
  value : l.table.items ≡ map (entry_of l.ops) (take l.view-index l.views);
  small : All (λ (entry : Entry). entry.weight ≤ 8388608) l.table.items;
}
