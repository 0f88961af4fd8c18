use Rattle.std.proofs.Common.{◌≡◌, ◌∙◌, length, ap, ap₂, sym, subst, arith, rules}
use Rattle.arr_ops.specs.Memory.{eager}
use Rattle.arr_store.specs.Slots.{slots_of}
use Rattle.arr_store.specs.Stored.{memory_of}
use Rattle.arr_run.specs.Shown.{AllShow}
use Rattle.arr_run.specs.Summing.{shown_slots}
use Rattle.arr_run.proofs.Flushing.{Stands, stands}
use Rattle.arr_run.proofs.Sums.{adds_as, shown_same}
use Rattle.arr_run.proofs.demo.sum_prepared.Goals as goal

pub add_slots-requires-clause-shows : goal.add_slots-requires-clause-shows
add_slots-requires-clause-shows c =
    let m = memory_of c.args.store.now in
    let list = c.args.prepared.now.list.items in
    let here : c.deref.result.now ≡ list = search rules in
    let s : Stands m c.args.ops.now list = stands m c.args.ops.now list c.requires.normal c.requires.formed c.requires.fitting in
    let shown : slots_of c.in_ok-slots.slots ≡ (eager m list).slots = c.in_ok-slots.ensures.slots ∙ ap (λ l. (eager m l).slots) (sym c.requires.normal) in
    subst (λ slots. AllShow slots c.deref.result.now) (sym shown) (subst (AllShow (eager m list).slots) (sym here) s.show)

pub add_slots-requires-clause-few : goal.add_slots-requires-clause-few
add_slots-requires-clause-few c =
    let m = memory_of c.args.store.now in
    let list = c.args.prepared.now.list.items in
    let here : c.deref.result.now ≡ list = search rules in
    let s : Stands m c.args.ops.now list = stands m c.args.ops.now list c.requires.normal c.requires.formed c.requires.fitting in
    let same : length c.deref.result.now ≡ length list = ap length here in
    omega (arith, same, s.few, c.requires.few, c.requires.few_arrays)

pub returns-clause-adds : goal.returns-clause-adds
returns-clause-adds c =
    let m = memory_of c.args.store.now in
    let list = c.args.prepared.now.list.items in
    let here : c.deref.result.now ≡ list = search rules in
    adds_as c.args.totals.now c.add_slots.new.totals _ _
    (ap₂ shown_slots c.in_ok-slots.ensures.slots here ∙ shown_same m c.args.ops.now list c.requires.normal c.requires.formed c.requires.fitting) c.in_ok-add_slots.ensures.adds

pub returns-clause-few_arrays : goal.returns-clause-few_arrays
returns-clause-few_arrays c =
    let m = memory_of c.args.store.now in
    let list = c.args.prepared.now.list.items in
    let here : c.deref.result.now ≡ list = search rules in
    let s : Stands m c.args.ops.now list = stands m c.args.ops.now list c.requires.normal c.requires.formed c.requires.fitting in
    let same : length c.deref.result.now ≡ length list = ap length here in
    omega (arith, same, s.few, c.requires.few, c.in_ok-add_slots.ensures.few)
