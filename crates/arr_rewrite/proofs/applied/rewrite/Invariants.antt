use Rattle.std.proofs.Common.{◌≡◌, ◌≤◌, true, length}
use Rattle.arr_ops.specs.Formed.{is_formed}
use Rattle.arr_rewrite.specs.NormalForm.{normal_form, potential}
use Rattle.arr_rewrite.specs.Settled.{SettledTo}
use Rattle.arr_rewrite.proofs.applied.rewrite.Given as goal

abbrev pub invariant-applications : goal.invariant-applications
invariant-applications l = record {
  formed : is_formed l.list.items ≡ true;
  few : l.settled ≤ length l.list.items;
  settled : SettledTo l.settled l.list.items;
  same : normal_form l.list.items ≡ normal_form l.ops;
}

abbrev pub decreases-applications : goal.decreases-applications
decreases-applications l = potential l.list.items
