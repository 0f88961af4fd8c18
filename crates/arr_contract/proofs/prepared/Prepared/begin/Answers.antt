use Rattle.std.proofs.Common.{◌≡◌, ◌∙◌, ap, false, length, subst, sym, take, drop, ◌++◌}
use Rattle.std.specs.List.{list_any}
use Rattle.arr_ops.specs.Ops.{serial}
use Rattle.arr_ops.specs.Traffic.{scratch}
use Rattle.arr_machine.specs.Kept.{StartsFolds, TypedKept}
use Rattle.arr_machine.specs.Machines.{IsMachineOf}
use Rattle.arr_machine.specs.Tasks.{AreTasks}
use Rattle.arr_machine.proofs.Lines.{written_back}
use Rattle.arr_contract.specs.Prepared.{PreparedBlock, may_share_block}
use Rattle.arr_contract.proofs.Parallel.{block_typed, parallel_block}
use Rattle.arr_contract.proofs.KeptNumbers.{kept_whole}
use Rattle.arr_contract.proofs.prepared.Prepared.begin.Goals as goal

pub begin_folds-requires : goal.begin_folds-requires
begin_folds-requires c =
    let inv = c.self.invariant in
    let view : c.self.inside.ops.items ≡ c.args.self.now.ops = ap (λ (v : PreparedBlock). v.ops) c.self.view_is in
    let ops_are : c.as_slice.result.now ≡ c.self.inside.ops.items = c.as_slice.ensures.value in
    let none : list_any serial c.self.inside.ops.items ≡ false = ap (list_any serial) view ∙ c.requires in
    let machine : IsMachineOf c.self.inside.ops.items c.self.inside.machine = inv.7 (inv.5 ∙ none) in
    record {
      block = parallel_block c.as_slice.result.now (ap may_share_block ops_are ∙ inv.0) (ap (list_any serial) ops_are ∙ none);
      types = block_typed c.as_slice.result.now (ap may_share_block ops_are ∙ inv.0);
      tasks = subst (λ o. AreTasks o c.self.inside.machine.room c.as_slice-2.result.now c.as_slice-3.result.now) (sym ops_are)
          (subst (λ l. AreTasks c.self.inside.ops.items c.self.inside.machine.room l c.as_slice-3.result.now) (sym c.as_slice-2.ensures.value)
          (subst (λ ts. AreTasks c.self.inside.ops.items c.self.inside.machine.room c.self.inside.machine.lanes.items ts) (sym c.as_slice-3.ensures.value) machine.tasks));
      long = ap length c.as_mut_slice.ensures.value ∙ inv.6 ∙ kept_whole c.self.inside.ops.items none ∙ ap scratch (sym ops_are);
    }

pub returns-clause-kept : goal.returns-clause-kept
returns-clause-kept c =
    let all : c.as_slice.result.now ≡ c.args.self.now.ops = c.as_slice.ensures.value ∙ ap (λ (v : PreparedBlock). v.ops) c.self.view_is in
    let back : take c.self.inside.numbers.len (c.begin_folds.new.numbers ++ drop (length c.begin_folds.new.numbers) c.self.inside.numbers.items) ≡ c.begin_folds.new.numbers =
    written_back c.self.inside.numbers.len c.begin_folds.new.numbers c.self.inside.numbers.items c.as_mut_slice.result.now c.as_mut_slice.ensures.value c.as_mut_slice.ensures.len c.begin_folds.ensures.long in
    subst (TypedKept c.args.self.now.ops) (sym back) (subst (λ o. TypedKept o c.begin_folds.new.numbers) all c.begin_folds.ensures.kept)

pub returns-clause-starts : goal.returns-clause-starts
returns-clause-starts c =
    let all : c.as_slice.result.now ≡ c.args.self.now.ops = c.as_slice.ensures.value ∙ ap (λ (v : PreparedBlock). v.ops) c.self.view_is in
    let back : take c.self.inside.numbers.len (c.begin_folds.new.numbers ++ drop (length c.begin_folds.new.numbers) c.self.inside.numbers.items) ≡ c.begin_folds.new.numbers =
    written_back c.self.inside.numbers.len c.begin_folds.new.numbers c.self.inside.numbers.items c.as_mut_slice.result.now c.as_mut_slice.ensures.value c.as_mut_slice.ensures.len c.begin_folds.ensures.long in
    subst (StartsFolds c.args.self.now.ops) (sym back) (subst (λ o. StartsFolds o c.begin_folds.new.numbers) all c.begin_folds.ensures.starts)
