use Rattle.std.proofs.Common.{◌≡◌, ◌∙◌, ◌+◌, ◌*◌, ◌≤◌, ap, arith, false, length, subst, sym, take, drop, ◌++◌}
use Rattle.std.specs.List.{AllByRecursion, list_any}
use Rattle.arr_view.specs.Strided.{Strided}
use Rattle.arr_ops.specs.Costs.{reads, total}
use Rattle.arr_ops.specs.Fits.{fits}
use Rattle.arr_ops.specs.Ops.{serial}
use Rattle.arr_ops.specs.Traffic.{scratch}
use Rattle.arr_store.specs.Cells.{width_at}
use Rattle.arr_store.specs.Slots.{slots_of}
use Rattle.arr_store.specs.Stored.{cells}
use Rattle.arr_strips.specs.Blocks.{block_positions, stores}
use Rattle.arr_machine.specs.Kept.{TypedKept}
use Rattle.arr_machine.specs.Machines.{IsMachineOf, Walks}
use Rattle.arr_machine.specs.Ports.{IsThere}
use Rattle.arr_machine.specs.Shown.{SlotsMatch}
use Rattle.arr_machine.proofs.Lines.{written_back}
use Rattle.arr_contract.specs.Prepared.{PreparedBlock, may_share_block}
use Rattle.arr_contract.proofs.Counts.{few_reads, few_stores}
use Rattle.arr_contract.proofs.Parallel.{block_typed, parallel_block}
use Rattle.arr_contract.proofs.KeptNumbers.{kept_whole}
use Rattle.arr_contract.proofs.prepared.Prepared.walk.Goals as goal

pub walk-requires : goal.walk-requires
walk-requires c =
    let inv = c.self.invariant in
    let view : c.self.inside.ops.items ≡ c.args.self.now.ops = ap (λ (v : PreparedBlock). v.ops) c.self.view_is in
    let ops_are : c.as_slice.result.now ≡ c.self.inside.ops.items = c.as_slice.ensures.value in
    let all : c.as_slice.result.now ≡ c.args.self.now.ops = ops_are ∙ view in
    let none : list_any serial c.self.inside.ops.items ≡ false = ap (list_any serial) view ∙ c.requires.parallel in
    let machine : IsMachineOf c.self.inside.ops.items c.self.inside.machine = inv.7 (inv.5 ∙ none) in
    let numbers : c.as_mut_slice.result.now ≡ c.args.self.now.numbers = c.as_mut_slice.ensures.value ∙ ap (λ (v : PreparedBlock). v.numbers) c.self.view_is in
    let few : length c.as_slice.result.now ≤ 256 = subst (λ o. length o ≤ 256) (sym ops_are) inv.1 in
    let r : length (reads c.as_slice.result.now) ≤ 3 * length c.as_slice.result.now = few_reads c.as_slice.result.now in
    let s : length (stores c.as_slice.result.now) ≤ 3 * length c.as_slice.result.now = few_stores c.as_slice.result.now in
    record {
      machine = subst (λ o. IsMachineOf o c.self.inside.machine) (sym ops_are) machine;
      block = parallel_block c.as_slice.result.now (ap may_share_block ops_are ∙ inv.0) (ap (list_any serial) ops_are ∙ none);
      types = block_typed c.as_slice.result.now (ap may_share_block ops_are ∙ inv.0);
      few_reads = omega (arith, r, few);
      few_stores = omega (arith, s, few);
      reads = subst (λ o. AllByRecursion (IsThere o (cells c.args.store.now)) (reads o)) (sym all) c.requires.reads;
      stores = subst (λ o. AllByRecursion (IsThere o (cells c.args.store.now)) (stores o)) (sym all) c.requires.stores;
      long = ap length c.as_mut_slice.ensures.value ∙ inv.6 ∙ kept_whole c.self.inside.ops.items none ∙ ap scratch (sym ops_are);
      kept = subst (λ o. TypedKept o c.as_mut_slice.result.now) (sym all) (subst (TypedKept c.args.self.now.ops) (sym numbers) c.requires.kept);
      slots = subst (λ o. SlotsMatch o (slots_of c.args.slots.now)) (sym all) c.requires.slots;
      loads = c.requires.loads;
      saves = c.requires.saves;
    }

pub returns-clause-walks : goal.returns-clause-walks
returns-clause-walks c m start fit w =
    let all : c.as_slice.result.now ≡ c.args.self.now.ops = c.as_slice.ensures.value ∙ ap (λ (v : PreparedBlock). v.ops) c.self.view_is in
    let numbers : c.as_mut_slice.result.now ≡ c.args.self.now.numbers = c.as_mut_slice.ensures.value ∙ ap (λ (v : PreparedBlock). v.numbers) c.self.view_is in
    let back : take c.self.inside.numbers.len (c.walk.new.numbers ++ drop (length c.walk.new.numbers) c.self.inside.numbers.items) ≡ c.walk.new.numbers =
    written_back c.self.inside.numbers.len c.walk.new.numbers c.self.inside.numbers.items c.as_mut_slice.result.now c.as_mut_slice.ensures.value c.as_mut_slice.ensures.len c.walk.ensures.long in
    subst (λ xs. Walks c.args.self.now.ops m start (block_positions c.args.self.now.ops) (cells c.walk.new.store) xs (slots_of c.walk.new.slots)) (sym back)
    (subst (λ o. Walks o m start (block_positions o) (cells c.walk.new.store) c.walk.new.numbers (slots_of c.walk.new.slots)) all
    (c.walk.ensures.walks m start (ap (fits m) all ∙ fit)
    (subst (λ o. Walks o m start 0 (cells c.args.store.now) c.as_mut_slice.result.now (slots_of c.args.slots.now)) (sym all)
    (subst (λ xs. Walks c.args.self.now.ops m start 0 (cells c.args.store.now) xs (slots_of c.args.slots.now)) (sym numbers) w))))

pub returns-clause-kept : goal.returns-clause-kept
returns-clause-kept c =
    let all : c.as_slice.result.now ≡ c.args.self.now.ops = c.as_slice.ensures.value ∙ ap (λ (v : PreparedBlock). v.ops) c.self.view_is in
    let back : take c.self.inside.numbers.len (c.walk.new.numbers ++ drop (length c.walk.new.numbers) c.self.inside.numbers.items) ≡ c.walk.new.numbers =
    written_back c.self.inside.numbers.len c.walk.new.numbers c.self.inside.numbers.items c.as_mut_slice.result.now c.as_mut_slice.ensures.value c.as_mut_slice.ensures.len c.walk.ensures.long in
    subst (TypedKept c.args.self.now.ops) (sym back) (subst (λ o. TypedKept o c.walk.new.numbers) all c.walk.ensures.kept)

pub returns-clause-slots : goal.returns-clause-slots
returns-clause-slots c =
    let all : c.as_slice.result.now ≡ c.args.self.now.ops = c.as_slice.ensures.value ∙ ap (λ (v : PreparedBlock). v.ops) c.self.view_is in
    subst (λ o. SlotsMatch o (slots_of c.walk.new.slots)) all c.walk.ensures.slots

pub returns-clause-loads : goal.returns-clause-loads
returns-clause-loads c =
    let all : c.as_slice.result.now ≡ c.args.self.now.ops = c.as_slice.ensures.value ∙ ap (λ (v : PreparedBlock). v.ops) c.self.view_is in
    c.walk.ensures.loads ∙ ap (λ o. c.args.store.now.loads + block_positions o * total (λ (v : Strided). width_at (cells c.args.store.now v.base)) (reads o)) all

pub returns-clause-saves : goal.returns-clause-saves
returns-clause-saves c =
    let all : c.as_slice.result.now ≡ c.args.self.now.ops = c.as_slice.ensures.value ∙ ap (λ (v : PreparedBlock). v.ops) c.self.view_is in
    c.walk.ensures.saves ∙ ap (λ o. c.args.store.now.stores + block_positions o * total (λ (v : Strided). width_at (cells c.args.store.now v.base)) (stores o)) all
