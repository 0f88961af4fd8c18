use Rattle.std.proofs.Common.{◌≡◌, ◌-◌, take, drop}
use Rattle.arr_rewrite.specs.NextRewrite.{next_rewrite, rewrite_from}
use Rattle.arr_rewrite.specs.Settled.{Settled}
use Rattle.arr_rewrite.proofs.applied.rewrite_settled.Given as goal

abbrev pub invariant-loop-place : goal.invariant-loop-place
invariant-loop-place l = record {
  same : l.list.items ≡ l.fn.list.items;
  settled : Settled (l.settled - l.place) (take l.place l.fn.list.items) (drop l.place l.fn.list.items);
  left : rewrite_from (take l.place l.fn.list.items) (drop l.place l.fn.list.items) ≡ next_rewrite l.fn.list.items;
}
