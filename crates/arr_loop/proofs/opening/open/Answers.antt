use Rattle.std.proofs.Common.{◌≡◌, ◌∙◌, ◌+◌, ◌≤◌, ap, ap₂, arith, not, sym, take}
use Rattle.std.proofs.lemmas.List.{take_all}
use Rattle.arr_view.specs.Views.{has}
use Rattle.arr_ops.specs.Fits.{fits}
use Rattle.arr_ops.specs.Traffic.{contracted}
use Rattle.arr_store.specs.Stored.{cells, memory_of}
use Rattle.arr_contract.specs.Prepared.{may_share_block}
use Rattle.arr_loop.specs.Opened.{opened_for}
use Rattle.arr_loop.proofs.Buffers.{absent_at, opened_more, unopened_opened}
use Rattle.arr_loop.proofs.opening.open.Goals as goal

pub open_base-requires-clause-absent : goal.open_base-requires-clause-absent
open_base-requires-clause-absent c =
    absent_at (memory_of c.args.store.now) c.ops-ops.result.now c.loop-op.op-index c.op-item.result (cells c.loop-op.store) (λ b. not (has c.contracted-contracted.result.now b)) c.loop-op-test.true c.op-item.is
    (ap may_share_block c.ops-ops.ensures.value ∙ c.ops-ops.ensures.block) (ap (fits (memory_of c.args.store.now)) c.ops-ops.ensures.value ∙ c.requires.fit) c.loop-op.invariant.opened.bases

pub loop-op-preserved : goal.loop-op-preserved
loop-op-preserved c =
    let one : c.open_base.new.store.made ≤ c.loop-op.store.made + 1 = c.in_ok-open_base.ensures.one in
    let few : c.loop-op.store.made ≤ c.args.store.now.made + c.loop-op.op-index = c.loop-op.invariant.few in
    record {
      opened = opened_more c.ops-ops.result.now c.loop-op.op-index c.op-item.result c.contracted-contracted.result.now c.args.store.now c.loop-op.store c.open_base.new.store c.loop-op-test.true c.op-item.is
          (c.contracted-contracted.ensures ∙ ap contracted (sym c.ops-ops.ensures.value)) c.loop-op.invariant.opened c.in_ok-open_base.ensures.bases c.in_ok-open_base.ensures.made c.open_base.ensures.loads c.open_base.ensures.stores;
      few = omega arith;
    }

pub returns-clause-back : goal.returns-clause-back
returns-clause-back c =
    let all : take c.loop-op.op-index c.ops-ops.result.now ≡ c.ops-ops.result.now = take_all c.loop-op.op-index c.ops-ops.result.now c.loop-op-test.false in
    unopened_opened (memory_of c.args.store.now) c.args.prepared.now.ops (cells c.loop-op.store) c.requires.fit
    (c.loop-op.invariant.opened.bases ∙ ap₂ (λ x y. opened_for x y (cells c.args.store.now)) c.ops-ops.ensures.value (all ∙ c.ops-ops.ensures.value))
