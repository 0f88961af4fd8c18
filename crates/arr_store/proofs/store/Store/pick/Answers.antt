use Rattle.std.proofs.Common.{◌≡◌, ◌∙◌, sym, subst, arith, length, IsSome}
use Rattle.std.proofs.lemmas.List.{length-map}
use Rattle.arr_ops.proofs.Parts.{length-elements}
use Rattle.arr_picks.specs.Picks.{numbers_of}
use Rattle.arr_store.specs.Buffers.{cell_of}
use Rattle.arr_store.specs.Stored.{cells}
use Rattle.arr_view.specs.Views.{elements, positions}
use Rattle.arr_view.proofs.Checks.{lawful}
use Rattle.arr_view.proofs.Counting.{some_position}
use Rattle.arr_store.proofs.Picked.{is_there, lawful_picked}
use Rattle.arr_store.proofs.store.Store.pick.Goals as goal

pub buffer-from-requires : goal.buffer-from-requires
buffer-from-requires c =
    let source = c.args.source.now in
    subst (λ b. IsSome (cells c.args.self.now b)) (sym c.base.ensures.value) (is_there (cells c.args.self.now source.base) source c.base.ensures.lawful c.requires.source)

pub buffer-by-requires : goal.buffer-by-requires
buffer-by-requires c =
    let index = c.args.index.now in
    subst (λ b. IsSome (cells c.args.self.now b)) (sym c.base-2.ensures.value) (is_there (cells c.args.self.now index.base) index c.base-2.ensures.lawful c.requires.index)

pub keep-requires-clause-lawful : goal.keep-requires-clause-lawful
keep-requires-clause-lawful c =
    let index = c.args.index.now in
    let law = lawful index c.base-2.ensures.lawful in
    let some = some_position index.lengths law.lengths in
    let few = law.size in
    let list = numbers_of (cell_of c.buffer-by.result.now).numbers (elements index) in
    let long : length list ≡ positions index.lengths = length-map (elements index) _ ∙ length-elements index c.base-2.ensures.lawful in
    lawful_picked (cell_of c.buffer-from.result.now) (cell_of c.in_ok-numbers.numbers) (elements c.args.source.now) list c.buffer-from.ensures.lawful c.in_ok-numbers.ensures.elem c.in_ok-numbers.ensures.numbers
    (omega arith) (omega arith)
