use Rattle.std.proofs.Common.{◌≡◌, ◌∙◌, ap, sym, subst, IsSome, Some, drop, take}
use Rattle.arr_ops.specs.Memory.{Cell}
use Rattle.arr_store.specs.Buffers.{cell_of}
use Rattle.arr_store.specs.Cells.{assigned}
use Rattle.arr_store.specs.Slots.{slot_size, slots_of}
use Rattle.arr_store.specs.Runs.{IsOfSlot, LiesIn, with_slot_run}
use Rattle.arr_store.specs.Pages.{slot_of}
use Rattle.arr_store.proofs.Pages.{page_at, page_changed}
use Rattle.arr_store.proofs.Places.{slot_some}
use Rattle.arr_store.proofs.slots.Slots.put_run.Goals as goal

pub store_run-requires-clause-elem : goal.store_run-requires-clause-elem
store_run-requires-clause-elem c =
    let some : IsSome (slots_of c.args.self.now c.args.slot) = slot_some _ _ c.requires.slot in
    subst (IsOfSlot (cell_of c.args.lane.now).elem) (page_at c.args.self.now c.self.inside.pages.items c.args.slot c.index_mut-page.result.now c.self.view_is some c.index_mut-page.ensures.value) c.requires.slot

pub store_run-requires-clause-there : goal.store_run-requires-clause-there
store_run-requires-clause-there c =
    let some : IsSome (slots_of c.args.self.now c.args.slot) = slot_some _ _ c.requires.slot in
    subst (λ s. LiesIn (slot_size s) c.args.run.start c.args.run.stride c.args.run.count)
    (page_at c.args.self.now c.self.inside.pages.items c.args.slot c.index_mut-page.result.now c.self.view_is some c.index_mut-page.ensures.value) c.requires.there

pub returns : goal.returns
returns c =
    let some : IsSome (slots_of c.args.self.now c.args.slot) = slot_some _ _ c.requires.slot in
    let at : slots_of c.args.self.now c.args.slot ≡ Some (slot_of c.index_mut-page.result.now) =
    page_at c.args.self.now c.self.inside.pages.items c.args.slot c.index_mut-page.result.now c.self.view_is some c.index_mut-page.ensures.value in
    let xs = take c.args.run.count (drop c.args.at (cell_of c.args.lane.now).numbers) in
    page_changed c.args.self.now c.self.inside.pages.items c.args.slot (record { shape = c.index_mut-page.result.now.shape; numbers = c.store_run.new.self }) c.self.view_is some
    ∙ ap (λ (k : Cell). assigned (slots_of c.args.self.now) c.args.slot (Some (record { elem = k.elem; lengths = c.index_mut-page.result.now.shape; numbers = k.numbers }))) c.store_run.ensures.cell
    ∙ sym (ap (λ s. assigned (slots_of c.args.self.now) c.args.slot (with_slot_run s c.args.run.start c.args.run.stride c.args.run.count xs)) at)
