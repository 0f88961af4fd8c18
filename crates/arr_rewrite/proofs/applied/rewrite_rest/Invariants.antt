use Rattle.std.proofs.Common.{◌≡◌, length, take, drop}
use Rattle.arr_rewrite.specs.NextRewrite.{rewrite_from}
use Rattle.arr_rewrite.specs.Settled.{SettledTo}
use Rattle.arr_rewrite.proofs.applied.rewrite_rest.Given as goal

abbrev pub invariant-loop-place : goal.invariant-loop-place
invariant-loop-place l = record {
  same : l.list.items ≡ l.fn.list.items;
  long : l.place-end ≡ length l.fn.list.items;
  settled : SettledTo l.place l.fn.list.items;
  left : rewrite_from (take l.place l.fn.list.items) (drop l.place l.fn.list.items) ≡ rewrite_from (take l.settled l.fn.list.items) (drop l.settled l.fn.list.items);
}
