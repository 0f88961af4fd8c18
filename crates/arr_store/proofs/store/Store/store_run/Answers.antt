use Rattle.std.proofs.Common.{◌≡◌, ◌∙◌, ap, sym, subst, refl, IsSome, IsTrue, Some, arith, ◌+◌, ◌*◌, ◌<◌, drop, length, set, take}
use Rattle.std.specs.Option.{option_copied_mut}
use Rattle.arr_store.specs.Buffers.{cell_of}
use Rattle.arr_store.specs.Cells.{assigned, lawful, size_at, width_at}
use Rattle.arr_store.specs.Runs.{IsOf, LiesIn, run_places, with_run}
use Rattle.arr_store.specs.Stored.{Stored, cells}
use Rattle.arr_store.specs.Tables.{IsKept, held}
use Rattle.arr_store.specs.declared.store.Kept.{Kept}
use Rattle.arr_store.proofs.Lawful.{lawful_run}
use Rattle.arr_store.proofs.Places.{of_some}
use Rattle.arr_store.proofs.Tables.{in_index, kept_here, none_here}
use Rattle.arr_store.proofs.Updates.{Changes, own, own_here, held_own, kept_after, shown_after, same_leads, set_changes}
use Rattle.arr_store.proofs.store.Store.store_run.Goals as goal

pub index-requires : goal.index-requires
index-requires c =
    let some : IsSome (cells c.args.self.now c.args.base) = of_some _ _ c.requires.base in
    let l : c.args.base < length c.self.inside.index.items = in_index c.args.self.now.bases c.self.inside.index.items c.self.inside.buffers.slots c.args.base (ap (λ (s : Stored). s.bases) c.self.view_is) some in
    omega arith

pub unreachable-requires : goal.unreachable-requires
unreachable-requires c =
    let some : IsSome (cells c.args.self.now c.args.base) = of_some _ _ c.requires.base in
    none_here c.args.self.now.bases c.self.inside.index.items c.self.inside.buffers.slots c.args.base c.index.result.now (ap (λ (s : Stored). s.bases) c.self.view_is) c.self.invariant some c.index.ensures (sym c.get_mut.ensures.value ∙ ap option_copied_mut c.in-None.is)

pub store_run-requires-clause-elem : goal.store_run-requires-clause-elem
store_run-requires-clause-elem c =
    let some : IsSome (cells c.args.self.now c.args.base) = of_some _ _ c.requires.base in
    let cell : cells c.args.self.now c.args.base ≡ Some (cell_of c.in-Some.kept.now.buffer) =
    (kept_here c.args.self.now.bases c.self.inside.index.items c.self.inside.buffers.slots c.args.base c.in-Some.kept.now c.index.result.now (ap (λ (s : Stored). s.bases) c.self.view_is) c.self.invariant some c.index.ensures (sym c.get_mut.ensures.value ∙ ap option_copied_mut c.in-Some.is)).1 in
    subst (IsOf (cell_of c.args.lane.now).elem) cell c.requires.base

pub store_run-requires-clause-there : goal.store_run-requires-clause-there
store_run-requires-clause-there c =
    let some : IsSome (cells c.args.self.now c.args.base) = of_some _ _ c.requires.base in
    let cell : cells c.args.self.now c.args.base ≡ Some (cell_of c.in-Some.kept.now.buffer) =
    (kept_here c.args.self.now.bases c.self.inside.index.items c.self.inside.buffers.slots c.args.base c.in-Some.kept.now c.index.result.now (ap (λ (s : Stored). s.bases) c.self.view_is) c.self.invariant some c.index.ensures (sym c.get_mut.ensures.value ∙ ap option_copied_mut c.in-Some.is)).1 in
    subst (λ o. LiesIn (size_at o) c.args.run.start c.args.run.stride c.args.run.count) cell c.requires.there

-- the cell that was changed
at_base : (c : goal.After-self-in-Some-1) → (c.in-Some.kept.now.base ≡ c.args.base) × (cells c.args.self.now c.args.base ≡ Some (cell_of c.in-Some.kept.now.buffer))
at_base c =
    kept_here c.args.self.now.bases c.self.inside.index.items c.self.inside.buffers.slots c.args.base c.in-Some.kept.now c.index.result.now (ap (λ (s : Stored). s.bases) c.self.view_is) c.self.invariant (of_some _ _ c.requires.base) c.index.ensures (sym c.get_mut.ensures.value ∙ ap option_copied_mut c.in-Some.is)

-- what stands at its key afterwards
stored : (c : goal.After-self-in-Some-1) → Kept
stored c = record { base = c.in-Some.kept.now.base; buffer = c.store_run.new.self }

changes : (c : goal.After-self-in-Some-1)
    → Changes c.self.inside.buffers.slots (set c.self.inside.buffers.slots c.index.result.now (Some (stored c))) c.index.result.now (Some (stored c))
changes c = set_changes c.self.inside.buffers.slots c.index.result.now c.in-Some.kept.now (stored c) (sym c.get_mut.ensures.value ∙ ap option_copied_mut c.in-Some.is)

keeps : (c : goal.After-self-in-Some-1) → IsKept (length c.self.inside.index.items) (Some (stored c))
unfolding stored
keeps c =
    let old : IsKept (length c.self.inside.index.items) (Some c.in-Some.kept.now) =
    subst (IsKept (length c.self.inside.index.items)) (sym c.get_mut.ensures.value ∙ ap option_copied_mut c.in-Some.is) (c.self.invariant c.index.result.now) in (
      old.0,
      subst (λ k. IsTrue (lawful k)) (sym c.store_run.ensures.cell)
          (lawful_run (cell_of c.in-Some.kept.now.buffer) (run_places c.args.run.start c.args.run.stride c.args.run.count) (take c.args.run.count (drop c.args.at (cell_of c.args.lane.now).numbers)) c.store_run.ensures.typed old.1),
    )

pub invariant_of-self : goal.invariant_of-self
unfolding stored
invariant_of-self c =
    kept_after c.self.inside.index.items c.self.inside.index.items c.self.inside.buffers.slots (set c.self.inside.buffers.slots c.index.result.now (Some (stored c))) c.index.result.now (Some (stored c))
    (omega arith) (changes c) (keeps c) c.self.invariant

pub returns-clause-bases : goal.returns-clause-bases
unfolding stored
returns-clause-bases c =
    let some : IsSome (cells c.args.self.now c.args.base) = of_some _ _ c.requires.base in
    let view = ap (λ (s : Stored). s.bases) c.self.view_is in
    let l : c.args.base < length c.self.inside.index.items = in_index c.args.self.now.bases c.self.inside.index.items c.self.inside.buffers.slots c.args.base view some in
    let xs = take c.args.run.count (drop c.args.at (cell_of c.args.lane.now).numbers) in
    let new : held (Some (stored c)) c.args.base ≡ with_run (cells c.args.self.now c.args.base) c.args.run.start c.args.run.stride c.args.run.count (take c.args.run.count (drop c.args.at (cell_of c.args.lane.now).numbers)) =
    held_own (stored c) c.args.base (at_base c).0 ∙ ap Some c.store_run.ensures.cell
    ∙ sym (ap (λ o. with_run o c.args.run.start c.args.run.stride c.args.run.count (take c.args.run.count (drop c.args.at (cell_of c.args.lane.now).numbers))) (at_base c).1) in
    shown_after c.args.self.now.bases c.self.inside.index.items c.self.inside.index.items c.self.inside.buffers.slots (set c.self.inside.buffers.slots c.index.result.now (Some (stored c))) c.args.base c.index.result.now (Some (stored c))
    view c.self.invariant (invariant_of-self c) (changes c)
    (own_here c.args.self.now.bases c.self.inside.index.items c.self.inside.buffers.slots c.args.base c.index.result.now view c.self.invariant some c.index.ensures)
    (own c.args.base (Some (stored c)) (stored c) refl (at_base c).0)
    (same_leads c.self.inside.index.items c.args.base c.index.result.now l c.index.ensures)
    ∙ ap (assigned (cells c.args.self.now) c.args.base) new

pub returns-clause-stores : goal.returns-clause-stores
returns-clause-stores c =
    ap (λ n. c.self.inside.stores + n) (c.bytes.ensures.value ∙ sym (ap (λ o. c.args.run.count * width_at o) (at_base c).1))
    ∙ ap (λ (s : Stored). s.stores + c.args.run.count * width_at (cells c.args.self.now c.args.base)) c.self.view_is
