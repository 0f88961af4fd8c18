use Rattle.std.proofs.Common.{◌≡◌, ◌∙◌, ◌+◌, ◌*◌, ◌<◌, ◌≤◌, length, get_or, ap, sym, arith}
use Rattle.std.proofs.lemmas.List.{length-append}
use Rattle.arr_ops.specs.Traffic.{kept_for}
use Rattle.arr_strips.specs.Registers.{register_views}
use Rattle.arr_machine.specs.Kept.{kept_from}
use Rattle.arr_machine.specs.Tasks.{IsTask}
use Rattle.arr_machine.proofs.Blocks.{kept_next}
use Rattle.arr_contract.proofs.Makings.{each_more}
use Rattle.arr_contract.proofs.tasks.tasks_of.Goals as goal

pub overflow_add-kept : goal.overflow_add-kept
overflow_add-kept c =
    let small : c.in_ok-kept.field-0 ≤ 2097152 = c.in_ok-kept.ensures.few in
    let so_far : c.loop-index.kept ≤ 768 + c.loop-index.index * 2097152 = c.loop-index.invariant.few in
    let below : c.loop-index.index < length c.args.ops.now = c.loop-index-test.true in
    omega (arith, c.requires.few)

pub loop-index-init : goal.loop-index-init
loop-index-init c =
    record {
      kept = ap length c.requires.views ∙ (let z : length (register_views c.args.ops.now) ≡ length (register_views c.args.ops.now) + 0 = omega arith in z);
      few = omega (arith, c.requires.few_views);
      long = ap length c.new-tasks.ensures.items;
      each = λ k op task l e f. absurd (omega arith);
    }

pub loop-index-preserved : goal.loop-index-preserved
loop-index-preserved c =
    let item = c.index-ops-index.result in
    let next : kept_from c.args.ops.now (c.loop-index.index + 1) ≡ kept_from c.args.ops.now c.loop-index.index + kept_for item = kept_next c.args.ops.now c.loop-index.index item c.loop-index-test.true c.index-ops-index.is in
    record {
      kept = ap (λ n. n + c.in_ok-kept.field-0) c.loop-index.invariant.kept ∙ ap (λ n. kept_from c.args.ops.now c.loop-index.index + n) c.in_ok-kept.ensures.value ∙ sym next;
      few = (let small : c.in_ok-kept.field-0 ≤ 2097152 = c.in_ok-kept.ensures.few in let so_far : c.loop-index.kept ≤ 768 + c.loop-index.index * 2097152 = c.loop-index.invariant.few in omega arith);
      long = ap length c.in_ok-push.ensures.items ∙ length-append c.loop-index.tasks.items _ ∙ ap (λ n. n + 1) c.loop-index.invariant.long;
      each = λ k op task l e f.
          each_more (IsTask c.args.ops.now c.args.room c.args.lanes.now) c.args.ops.now c.loop-index.tasks.items c.loop-index.index c.task_of.result c.loop-index.invariant.long c.loop-index.invariant.each c.task_of.ensures
          k op task l e (f ∙ ap (λ xs. get_or xs k task) c.in_ok-push.ensures.items);
    }
