use Rattle.std.proofs.Common.{◌≡◌, take}
use Rattle.arr_law.proofs.records.Records.copied.Given as goal

abbrev pub invariant-loop-entry : goal.invariant-loop-entry
invariant-loop-entry l = l.records.items ≡ take l.entry-index l.entry-items
