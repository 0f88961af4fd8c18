use Rattle.std.proofs.Common.{◌≡◌, ◌∙◌, ℕ, ◌+◌, ◌*◌, ◌<◌, ◌≤◌, ◌^◌, List, Option, None, cond, ap, subst, sym, arith}
use Rattle.std.specs.List.{AllByRecursion, list_any}
use Rattle.arr_view.specs.Strided.{Strided}
use Rattle.arr_ops.specs.declared.op.Op.{Op}
use Rattle.arr_ops.specs.Costs.{reads, total, weight, writes}
use Rattle.arr_ops.specs.Memory.{Cell, eager}
use Rattle.arr_ops.specs.Ops.{creates, freed_by, serial}
use Rattle.arr_store.specs.Cells.{width_at}
use Rattle.arr_store.specs.Slots.{slots_of}
use Rattle.arr_store.specs.Stored.{cells}
use Rattle.arr_strips.specs.Blocks.{block_positions, fold_stores, stores}
use Rattle.arr_strips.specs.Sums.{closed_by}
use Rattle.arr_machine.specs.Kept.{TypedKept}
use Rattle.arr_machine.specs.Ports.{IsThere}
use Rattle.arr_machine.specs.Shown.{SlotsMatch}
use Rattle.arr_loop.specs.Ready.{before_open}
use Rattle.arr_loop.specs.Sums.{sum_kept}
use Rattle.arr_loop.proofs.Summed.{sums_keep}
use Rattle.arr_loop.proofs.Walked.{bases_end, few_stores, freed_never, freed_still, loads_are, reads_open, slots_end, slots_open, stores_are, stores_open, sums_still, walk_done}
use Rattle.arr_loop.proofs.walking.run.Goals as goal

pub walk-requires : goal.walk-requires
walk-requires c =
    let ops = c.args.prepared.now.ops in
    let store = c.args.store.now in
    let slots = c.args.slots.now in
    let same : c.begin.new.self.ops ≡ c.args.prepared.now.ops = c.begin.ensures.ops in
    record {
      parallel = ap (list_any serial) same ∙ c.requires.parallel;
      reads = subst (λ (os : List Op). AllByRecursion (IsThere os (cells store)) (reads os)) (sym same) (reads_open ops store slots c.begin.ensures.block c.requires.parallel c.requires.open);
      stores = subst (λ (os : List Op). AllByRecursion (IsThere os (cells store)) (stores os)) (sym same) (stores_open ops store slots c.begin.ensures.block c.requires.parallel c.requires.open);
      kept = subst (λ (os : List Op). TypedKept os c.begin.new.self.numbers) (sym same) c.begin.ensures.kept;
      slots = subst (λ (os : List Op). SlotsMatch os (slots_of slots)) (sym same) (slots_open ops store slots c.begin.ensures.block c.requires.parallel c.requires.open);
      loads = c.requires.room;
      saves = c.requires.room_stores;
    }

pub write_sums-requires : goal.write_sums-requires
write_sums-requires c =
    let ops = c.args.prepared.now.ops in
    let store = c.args.store.now in
    let slots = c.args.slots.now in
    let same : c.walk.new.self.ops ≡ c.args.prepared.now.ops = c.walk.ensures.ops ∙ c.begin.ensures.ops in
    record {
      parallel = ap (list_any serial) same ∙ c.requires.parallel;
      there = subst (λ (os : List Op). AllByRecursion (IsThere os (cells c.walk.new.store)) (fold_stores os)) (sym same)
          (sums_still ops store slots c.begin.ensures.block c.requires.parallel c.requires.open (cells c.walk.new.store) c.walk.ensures.same);
      kept = subst (λ (os : List Op). TypedKept os c.walk.new.self.numbers) (sym c.walk.ensures.ops) c.walk.ensures.kept;
      room = subst (λ (os : List Op). c.walk.new.store.stores + total (weight os) (fold_stores os) < 2 ^ 62) (sym same)
          (let so_far : c.walk.new.store.stores ≡ c.args.store.now.stores + block_positions c.args.prepared.now.ops * total (λ (v : Strided). width_at (cells c.args.store.now v.base)) (stores c.args.prepared.now.ops) =
          c.walk.ensures.saves ∙ ap (λ (os : List Op). c.args.store.now.stores + block_positions os * total (λ (v : Strided). width_at (cells c.args.store.now v.base)) (stores os)) c.begin.ensures.ops in
          let all = stores_are ops store slots c.begin.ensures.block c.requires.parallel c.requires.open in
          let few : total (weight ops) (writes ops) ≤ 2147483648 = few_stores ops store slots c.begin.ensures.block c.requires.parallel c.requires.open c.begin.ensures.few in
          let room : c.args.store.now.stores < 2 ^ 61 = c.requires.room_stores in
          omega arith);
    }

pub drop_freed-requires : goal.drop_freed-requires
drop_freed-requires c =
    let ops = c.args.prepared.now.ops in
    let store = c.args.store.now in
    let slots = c.args.slots.now in
    let same : c.walk.new.self.ops ≡ c.args.prepared.now.ops = c.walk.ensures.ops ∙ c.begin.ensures.ops in
    record {
      there = λ b gone made.
          freed_still ops store slots c.begin.ensures.block c.requires.parallel c.requires.open (cells c.write_sums.new.store) (sums_keep c.walk.new.self.ops c.walk.new.self.numbers (cells store) (cells c.walk.new.store) (cells c.write_sums.new.store) c.write_sums.ensures.bases c.walk.ensures.same) b (ap (λ (os : List Op). freed_by os b) (sym same) ∙ gone)
          (ap (λ (os : List Op). creates os b) (sym same) ∙ made);
      absent = λ b gone made.
          freed_never ops store slots c.begin.ensures.block c.requires.parallel c.requires.open (cells c.write_sums.new.store) (sums_keep c.walk.new.self.ops c.walk.new.self.numbers (cells store) (cells c.walk.new.store) (cells c.write_sums.new.store) c.write_sums.ensures.bases c.walk.ensures.same) b (ap (λ (os : List Op). freed_by os b) (sym same) ∙ gone)
          (ap (λ (os : List Op). creates os b) (sym same) ∙ made);
    }

pub returns-clause-bases : goal.returns-clause-bases
returns-clause-bases c = λ i b. at b i
  where
    same : c.walk.new.self.ops ≡ c.args.prepared.now.ops
    same = c.walk.ensures.ops ∙ c.begin.ensures.ops

    at : (b : ℕ) → cells c.drop_freed.new.store b ≡ (eager (before_open c.args.prepared.now.ops c.args.store.now c.args.slots.now) c.args.prepared.now.ops).bases b
    at b =
        c.drop_freed.ensures.bases b ∙ ap (λ (os : List Op). cond (freed_by os b) None (cells c.write_sums.new.store b)) same
        ∙ ap (λ (f : ℕ → Option Cell). cond (freed_by c.args.prepared.now.ops b) None (f b))
        (c.write_sums.ensures.bases ∙ ap (λ (os : List Op). closed_by os 0 os (sum_kept os c.walk.new.self.numbers) (cells c.walk.new.store)) same)
        ∙ bases_end c.args.prepared.now.ops c.args.store.now c.args.slots.now c.begin.ensures.block c.requires.parallel c.requires.open (cells c.walk.new.store) c.walk.new.self.numbers (slots_of c.walk.new.slots) (walk_done c.args.prepared.now.ops c.args.store.now c.args.slots.now c.begin.ensures.block c.requires.parallel c.requires.open c.begin.new.self.ops c.begin.new.self.numbers c.walk.new.self.numbers (cells c.walk.new.store)
        (slots_of c.walk.new.slots) c.begin.ensures.ops c.begin.ensures.starts c.walk.ensures.walks) b

pub returns-clause-slots : goal.returns-clause-slots
returns-clause-slots c =
    slots_end c.args.prepared.now.ops c.args.store.now c.args.slots.now c.begin.ensures.block c.requires.parallel c.requires.open (cells c.walk.new.store) c.walk.new.self.numbers (slots_of c.walk.new.slots) (walk_done c.args.prepared.now.ops c.args.store.now c.args.slots.now c.begin.ensures.block c.requires.parallel c.requires.open c.begin.new.self.ops c.begin.new.self.numbers c.walk.new.self.numbers (cells c.walk.new.store)
    (slots_of c.walk.new.slots) c.begin.ensures.ops c.begin.ensures.starts c.walk.ensures.walks)

pub returns-clause-loads : goal.returns-clause-loads
returns-clause-loads c =
    c.drop_freed.ensures.loads ∙ c.write_sums.ensures.loads ∙ c.walk.ensures.loads
    ∙ ap (λ (os : List Op). c.args.store.now.loads + block_positions os * total (λ (v : Strided). width_at (cells c.args.store.now v.base)) (reads os)) c.begin.ensures.ops
    ∙ ap (λ n. c.args.store.now.loads + n) (loads_are c.args.prepared.now.ops c.args.store.now c.args.slots.now c.begin.ensures.block c.requires.parallel c.requires.open)

pub returns-clause-stores : goal.returns-clause-stores
returns-clause-stores c =
    let ops = c.args.prepared.now.ops in
    let store = c.args.store.now in
    let slots = c.args.slots.now in
    let same : c.walk.new.self.ops ≡ c.args.prepared.now.ops = c.walk.ensures.ops ∙ c.begin.ensures.ops in
    let walk : c.walk.new.store.stores ≡ c.args.store.now.stores + block_positions c.args.prepared.now.ops * total (λ (v : Strided). width_at (cells c.args.store.now v.base)) (stores c.args.prepared.now.ops) =
    c.walk.ensures.saves ∙ ap (λ (os : List Op). c.args.store.now.stores + block_positions os * total (λ (v : Strided). width_at (cells c.args.store.now v.base)) (stores os)) c.begin.ensures.ops in
    let sums : c.write_sums.new.store.stores ≡ c.walk.new.store.stores + total (weight ops) (fold_stores ops) =
    c.write_sums.ensures.stores ∙ ap (λ (os : List Op). c.walk.new.store.stores + total (weight os) (fold_stores os)) same in
    let end : c.drop_freed.new.store.stores ≡ c.write_sums.new.store.stores = c.drop_freed.ensures.stores in
    let all = stores_are ops store slots c.begin.ensures.block c.requires.parallel c.requires.open in
    omega arith
