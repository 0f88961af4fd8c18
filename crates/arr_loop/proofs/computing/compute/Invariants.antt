use Rattle.std.proofs.Common.{ℕ, ◌≡◌, ◌+◌, ◌*◌, ◌<◌, get_or, length, pos}
use Rattle.arr_ops.specs.Memory.{computed}
use Rattle.arr_store.specs.Stored.{memory_of}
use Rattle.arr_loop.specs.Numbers.{loads_each}
use Rattle.arr_loop.proofs.computing.compute.Given as goal

abbrev pub invariant-loop-position : goal.invariant-loop-position
invariant-loop-position l = record {
  numbers : (q : ℕ) → q < l.position → get_or l.prepared.numbers q (pos 0) ≡ get_or (computed (memory_of l.fn.store) l.op) q (pos 0);
  ops : l.prepared.ops ≡ l.fn.prepared.ops;
  long : length l.prepared.numbers ≡ length l.fn.prepared.numbers;
  bases : l.store.bases ≡ l.fn.store.bases;
  loads : l.store.loads ≡ l.fn.store.loads + l.position * loads_each l.op;
  stores : l.store.stores ≡ l.fn.store.stores;
  made : l.store.made ≡ l.fn.store.made;
}
