use Rattle.std.proofs.Common.{◌≡◌, length}
use Rattle.arr_sets.specs.Bits.{is_set}
use Rattle.arr_bound.proofs.Words.{Kept}
use Rattle.arr_bound.proofs.sets.keep_row.Given as goal

abbrev pub invariant-loop-index : goal.invariant-loop-index
invariant-loop-index l = record {
  long : length l.set.items ≡ length l.initial.set.items;
  kept : Kept l.rows (length l.initial.set.items) l.f (is_set l.initial.set.items) l.index l.set.items;
}
