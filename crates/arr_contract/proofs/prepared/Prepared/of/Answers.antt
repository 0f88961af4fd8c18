use Rattle.std.proofs.Common.{◌≡◌, ◌∙◌, ◌≤◌, List, length, true, ap, sym, subst, arith, rules}
use Rattle.std.specs.List.{list_any}
use Rattle.arr_ops.specs.declared.op.Op.{Op}
use Rattle.arr_ops.specs.Costs.{reads, writes}
use Rattle.arr_ops.specs.Ops.{serial}
use Rattle.arr_ops.specs.Plans.{numbered, ops_of}
use Rattle.arr_ops.specs.Traffic.{contracted}
use Rattle.arr_strips.specs.Registers.{register_views}
use Rattle.arr_machine.specs.Machines.{IsMachineOf}
use Rattle.arr_contract.specs.Making.{HasLane}
use Rattle.arr_contract.specs.Prepared.{kept_numbers, may_share_block, strip}
use Rattle.arr_contract.proofs.Counts.{few_ops}
use Rattle.arr_contract.proofs.Parallel.{block_typed, parallel_block}
use Rattle.arr_contract.proofs.Shared.{shares_block}
use Rattle.arr_contract.proofs.prepared.Prepared.of.Goals as goal

pub kept_numbers-requires : goal.kept_numbers-requires
kept_numbers-requires c =
    let same : c.as_slice-5.result.now ≡ ops_of (numbered c.args.ops.now) c.args.block.now = c.as_slice-5.ensures.value ∙ c.in_ok-ops.ensures in
    let long : length c.as_slice-5.result.now ≡ length (ops_of (numbered c.args.ops.now) c.args.block.now) = ap length same in
    let few : length (ops_of (numbered c.args.ops.now) c.args.block.now) ≤ length c.args.ops.now = few_ops c.args.ops.now c.args.block.now in
    let most : length c.args.ops.now ≤ 256 = c.requires.few in
    record { few = omega arith; serial = c.in_ok-is_serial.ensures ∙ ap (list_any serial) (c.as_slice-4.ensures.value ∙ sym c.as_slice-5.ensures.value) }

pub machine_for-requires : goal.machine_for-requires
machine_for-requires c =
    let same : c.as_slice-7.result.now ≡ ops_of (numbered c.args.ops.now) c.args.block.now = c.as_slice-7.ensures.value ∙ c.in_ok-ops.ensures in
    let shares : may_share_block c.as_slice-7.result.now ≡ true = ap may_share_block same ∙ shares_block c.args.ops.now c.args.block.now c.requires.formed c.requires.block in
    let few : length (ops_of (numbered c.args.ops.now) c.args.block.now) ≤ length c.args.ops.now = few_ops c.args.ops.now c.args.block.now in
    let long : length c.as_slice-7.result.now ≡ length (ops_of (numbered c.args.ops.now) c.args.block.now) = ap length same in
    let most : length c.args.ops.now ≤ 256 = c.requires.few in
    let ops_are : c.as_slice-7.result.now ≡ c.in_ok-ops.ops.items = c.as_slice-7.ensures.value in
    record {
      block = λ none. parallel_block c.as_slice-7.result.now shares (ap (list_any serial) (ops_are ∙ sym c.as_slice-4.ensures.value) ∙ sym c.in_ok-is_serial.ensures ∙ none);
      types = block_typed c.as_slice-7.result.now shares;
      few = omega arith;
      views = c.as_slice-8.ensures.value ∙ c.in_ok-views.ensures ∙ ap register_views (c.as_slice-6.ensures.value ∙ sym ops_are);
    }

pub invariant_of-result : goal.invariant_of-result
invariant_of-result c =
    let same : c.in_ok-ops.ops.items ≡ ops_of (numbered c.args.ops.now) c.args.block.now = c.in_ok-ops.ensures in
    let long : length c.in_ok-ops.ops.items ≡ length (ops_of (numbered c.args.ops.now) c.args.block.now) = ap length same in
    let few : length (ops_of (numbered c.args.ops.now) c.args.block.now) ≤ length c.args.ops.now = few_ops c.args.ops.now c.args.block.now in
    let most : length c.args.ops.now ≤ 256 = c.requires.few in
    let numbers : length c.in_ok-numbers.numbers.items ≡ c.in_ok-count.count = search rules in (
      ap may_share_block same ∙ shares_block c.args.ops.now c.args.block.now c.requires.formed c.requires.block,
      omega arith,
      c.in_ok-read_views.ensures ∙ ap reads c.as_slice.ensures.value,
      c.in_ok-written_views.ensures ∙ ap writes c.as_slice-2.ensures.value,
      c.in_ok-contracted_bases.ensures ∙ ap contracted c.as_slice-3.ensures.value,
      c.in_ok-is_serial.ensures ∙ ap (list_any serial) c.as_slice-4.ensures.value,
      numbers ∙ c.in_ok-count.ensures ∙ ap kept_numbers c.as_slice-5.ensures.value,
      (λ none. subst (λ (ops : List Op). IsMachineOf ops c.in_ok-machine.machine) c.as_slice-7.ensures.value (c.in_ok-machine.ensures.machine none)),
      (λ none. c.in_ok-machine.ensures.strip none ∙ ap strip c.as_slice-7.ensures.value),
      (λ some. subst (λ (ops : List Op). HasLane ops c.in_ok-machine.machine) c.as_slice-7.ensures.value (c.in_ok-machine.ensures.lane some)),
    )
