use Rattle.std.proofs.Common.{◌≡◌, ◌∙◌, ap, ap₂, sym, subst}
use Rattle.std.specs.Io.KnownBytes.{Appends}
use Rattle.arr_io.specs.Taken.{AppendsPart}
use Rattle.arr_ops.specs.Memory.{eager}
use Rattle.arr_store.specs.Slots.{slots_of}
use Rattle.arr_store.specs.Stored.{memory_of}
use Rattle.arr_run.specs.Flushes.{arrays_text}
use Rattle.arr_run.specs.Shown.{AllShow, slots_text}
use Rattle.arr_run.proofs.Flushing.{Stands, all_ok, part_err, stands}
use Rattle.arr_run.proofs.flush.run_prepared.Goals as goal

pub write_slots-requires : goal.write_slots-requires
write_slots-requires g c =
    let m = memory_of c.args.store.now in
    let list = c.args.prepared.now.list.items in
    let s : Stands m c.args.ops.now list = stands m c.args.ops.now list c.requires.normal c.requires.formed c.requires.fitting in
    let shown : slots_of c.in-Ok.slots ≡ (eager m list).slots = c.in-Ok.ensures.slots ∙ ap (λ l. (eager m l).slots) (sym c.requires.normal) in
    subst (λ slots. AllShow slots c.deref.result.now) (sym shown) (subst (AllShow (eager m list).slots) (sym c.deref.ensures.value) s.show)

pub returns-in-Ok-write_slots-clause-wrote : goal.returns-in-Ok-write_slots-clause-wrote
returns-in-Ok-write_slots-clause-wrote g c =
    let m = memory_of c.args.store.now in
    let list = c.args.prepared.now.list.items in
    let s : Stands m c.args.ops.now list = stands m c.args.ops.now list c.requires.normal c.requires.formed c.requires.fitting in
    let shown : slots_of c.in-Ok.slots ≡ (eager m list).slots = c.in-Ok.ensures.slots ∙ ap (λ l. (eager m l).slots) (sym c.requires.normal) in
    let text : slots_text (slots_of c.in-Ok.slots) c.deref.result.now ≡ arrays_text m c.args.ops.now = ap₂ slots_text shown c.deref.ensures.value ∙ s.text in
    subst (Appends (g.K.Sink.written c.args.sink.now) (g.K.Sink.written c.write_slots.new.sink)) text (all_ok c.write_slots.result _ c.in-Ok-write_slots.is c.write_slots.ensures.all)

pub returns-clause-wrote : goal.returns-clause-wrote
returns-clause-wrote g c =
    let m = memory_of c.args.store.now in
    let list = c.args.prepared.now.list.items in
    let s : Stands m c.args.ops.now list = stands m c.args.ops.now list c.requires.normal c.requires.formed c.requires.fitting in
    let shown : slots_of c.in-Ok.slots ≡ (eager m list).slots = c.in-Ok.ensures.slots ∙ ap (λ l. (eager m l).slots) (sym c.requires.normal) in
    let text : slots_text (slots_of c.in-Ok.slots) c.deref.result.now ≡ arrays_text m c.args.ops.now = ap₂ slots_text shown c.deref.ensures.value ∙ s.text in
    subst (AppendsPart (g.K.Sink.written c.args.sink.now) (g.K.Sink.written c.write_slots.new.sink)) text (part_err c.write_slots.result _ c.in-Err.is c.write_slots.ensures.part)
