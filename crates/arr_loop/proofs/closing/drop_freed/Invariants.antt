use Rattle.std.proofs.Common.{◌≡◌, ℕ, None, cond, take}
use Rattle.arr_ops.specs.Ops.{freed_by}
use Rattle.arr_store.specs.Stored.{cells}
use Rattle.arr_loop.proofs.closing.drop_freed.Given as goal

abbrev pub invariant-loop-op : goal.invariant-loop-op
invariant-loop-op l = record {
  bases : (b : ℕ) → cells l.store b ≡ cond (freed_by (take l.op-index l.ops) b) None (cells l.fn.store b);
  loads : l.store.loads ≡ l.fn.store.loads;
  stores : l.store.stores ≡ l.fn.store.stores;
  made : l.store.made ≡ l.fn.store.made;
}
