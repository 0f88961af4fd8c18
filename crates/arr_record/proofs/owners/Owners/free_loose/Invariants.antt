use Rattle.std.proofs.Common.{◌≡◌, ◌<◌, length}
use Rattle.std.specs.List.{AllByRecursion}
use Rattle.arr_record.specs.Parts.{free_each}
use Rattle.arr_record.specs.Ledger.{with_types}
use Rattle.arr_record.proofs.owners.Owners.free_loose.Given as goal

abbrev pub invariant-loop-base : goal.invariant-loop-base
invariant-loop-base l = record {
  next : (goal.iterator-loop-base).can_next l.base-iterator;
  ends : (goal.iterator-loop-base).is_finite l.base-iterator;
  below : AllByRecursion (λ b. b < length l.fn.self.elems) l.base-iterator;
  rest : free_each l.writer (with_types l.fn.self.elems l.base-iterator) ≡ free_each l.fn.writer (with_types l.fn.self.elems l.fn.self.loose);
}
