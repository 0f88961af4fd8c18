use Rattle.std.proofs.Common.{◌≡◌, ◌+ℤ◌, drop}
use Rattle.arr_store.specs.Slots.{slots_of}
use Rattle.arr_listing.specs.Shown.{numbers_of}
use Rattle.arr_listing.specs.Totals.{plain_sum}
use Rattle.arr_listing.proofs.Summing.{Bounded}
use Rattle.arr_listing.proofs.totals.plain_sum.Given as goal

abbrev pub invariant-loop-position : goal.invariant-loop-position
invariant-loop-position l = record {
  sum : l.sum +ℤ plain_sum (drop l.position (numbers_of (slots_of l.slots l.slot))) ≡ plain_sum (numbers_of (slots_of l.slots l.slot));
  bounded : Bounded l.position l.sum;
}
