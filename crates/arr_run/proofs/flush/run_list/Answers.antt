use Rattle.std.proofs.Common.{◌≡◌, ◌∙◌, ap, sym, arith, length}
use Rattle.arr_ops.specs.Fits.{fits}
use Rattle.arr_ops.specs.Formed.{is_formed}
use Rattle.arr_ops.specs.Memory.{eager}
use Rattle.arr_store.specs.Slots.{blank_slots}
use Rattle.arr_store.specs.Stored.{memory_of}
use Rattle.arr_rewrite.specs.NormalForm.{normal_form}
use Rattle.arr_run.proofs.Flushing.{Stands, leaves_same, moved_by, moved_little, stands}
use Rattle.arr_run.proofs.Rewritten.{Kept, normal_kept}
use Rattle.arr_run.proofs.flush.run_list.Goals as goal

pub for_list-requires : goal.for_list-requires
for_list-requires c =
    let m = memory_of c.args.store.now in
    let list = c.args.prepared.now.list.items in
    let s : Stands m c.args.ops.now list = stands m c.args.ops.now list c.requires.normal c.requires.formed c.requires.fitting in
    ap is_formed c.deref.ensures.value ∙ s.formed

pub run_plan-requires-clause-formed : goal.run_plan-requires-clause-formed
run_plan-requires-clause-formed c =
    let m = memory_of c.args.store.now in
    let list = c.args.prepared.now.list.items in
    let s : Stands m c.args.ops.now list = stands m c.args.ops.now list c.requires.normal c.requires.formed c.requires.fitting in
    ap is_formed c.deref-2.ensures.value ∙ s.formed

pub run_plan-requires-clause-fitting : goal.run_plan-requires-clause-fitting
run_plan-requires-clause-fitting c =
    let m = memory_of c.args.store.now in
    let list = c.args.prepared.now.list.items in
    let s : Stands m c.args.ops.now list = stands m c.args.ops.now list c.requires.normal c.requires.formed c.requires.fitting in
    ap (fits m) c.deref-2.ensures.value ∙ s.fitting

pub run_plan-requires-clause-blank : goal.run_plan-requires-clause-blank
run_plan-requires-clause-blank c = c.in_ok-slots.ensures ∙ ap blank_slots (c.deref.ensures.value ∙ sym c.deref-2.ensures.value)

pub run_plan-requires-clause-few : goal.run_plan-requires-clause-few
run_plan-requires-clause-few c =
    let m = memory_of c.args.store.now in
    let list = c.args.prepared.now.list.items in
    let s : Stands m c.args.ops.now list = stands m c.args.ops.now list c.requires.normal c.requires.formed c.requires.fitting in
    let same : length c.deref-2.result.now ≡ length list = ap length c.deref-2.ensures.value in
    omega (arith, same, s.few, c.requires.few)

pub returns-clause-slots : goal.returns-clause-slots
returns-clause-slots c =
    let m = memory_of c.args.store.now in
    c.in_ok-run_plan.ensures.shown ∙ ap (λ l. (eager m l).slots) (c.deref-2.ensures.value ∙ c.requires.normal)

pub returns-clause-memory : goal.returns-clause-memory
returns-clause-memory c =
    let m = memory_of c.args.store.now in
    let list = c.args.prepared.now.list.items in
    let s : Stands m c.args.ops.now list = stands m c.args.ops.now list c.requires.normal c.requires.formed c.requires.fitting in
    leaves_same m c.args.ops.now list c.run_plan.new.store s (c.in_ok-run_plan.ensures.bases ∙ ap (λ l. (eager m l).bases) c.deref-2.ensures.value)

pub returns-clause-moved : goal.returns-clause-moved
returns-clause-moved c =
    moved_by c.deref-2.result.now (normal_form c.args.ops.now) c.args.prepared.now.planned.plan c.args.store.now c.run_plan.new.store (c.deref-2.ensures.value ∙ c.requires.normal) c.in_ok-run_plan.ensures.loads
    c.in_ok-run_plan.ensures.stores c.in_ok-run_plan.ensures.made

pub returns-clause-counts : goal.returns-clause-counts
returns-clause-counts c =
    let k : Kept c.args.ops.now (normal_form c.args.ops.now) = normal_kept c.args.ops.now c.requires.formed in
    moved_little (normal_form c.args.ops.now) c.args.prepared.now.planned.plan c.args.store.now c.run_plan.new.store k.formed c.requires.legal (let few = k.few in omega (arith, few, c.requires.few))
    (moved_by c.deref-2.result.now (normal_form c.args.ops.now) c.args.prepared.now.planned.plan c.args.store.now c.run_plan.new.store (c.deref-2.ensures.value ∙ c.requires.normal) c.in_ok-run_plan.ensures.loads
    c.in_ok-run_plan.ensures.stores c.in_ok-run_plan.ensures.made)
