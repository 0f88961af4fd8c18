use Rattle.std.proofs.Common.{◌≡◌, ◌∙◌, ap, sym, subst, refl, Some, None, ◌<◌, ◌≤◌, length, get_or, set}
use Rattle.std.proofs.lemmas.List.{length-set}
use Rattle.arr_store.specs.Cells.{assigned}
use Rattle.arr_store.specs.Stored.{Stored, cells}
use Rattle.arr_store.specs.Tables.{IsKept}
use Rattle.arr_store.specs.declared.store.Kept.{Kept}
use Rattle.arr_store.proofs.Updates.{Changes, IsOwn, nothing_own, own, covers, held_own, kept_after, shown_after, new_leads}
use Rattle.slab.specs.Slab.{Slab}
use Rattle.arr_store.proofs.store.Store.keep.Goals as goal

made : (c : goal.After-self-2-1) → Kept
made c = record { base = c.args.base; buffer = c.args.buffer }

changes : (c : goal.After-self-2-1) → Changes c.self.inside.buffers.slots c.insert_reserved-key.new.self.slots c.insert_reserved-key.result (Some (made c))
unfolding made
changes c =
    record {
      here = c.insert_reserved-key.ensures.updates.changed;
      others = λ o n. c.insert_reserved-key.ensures.updates.others o n ∙ ap (λ (s : Slab Kept). get_or s.slots o None) c.reserve.ensures.rest_kept;
    }

longer : (c : goal.After-self-2-1) → (c.args.base < length c.cover.new.index.items) × (length c.self.inside.index.items ≤ length c.cover.new.index.items)
longer c = covers c.self.inside.index.items c.cover.new.index.items c.args.base c.in_ok-cover.ensures.covered

keeps : (c : goal.After-self-2-1) → IsKept (length (set c.cover.new.index.items c.args.base c.insert_reserved-key.result)) (Some (made c))
unfolding made
keeps c =
    let e : length (set c.cover.new.index.items c.args.base c.insert_reserved-key.result) ≡ length c.cover.new.index.items = length-set _ _ _ in
    (subst (λ n. c.args.base < n) (sym e) (longer c).0, c.requires.lawful)

pub invariant_of-self-2 : goal.invariant_of-self-2
invariant_of-self-2 c =
    let e : length (set c.cover.new.index.items c.args.base c.insert_reserved-key.result) ≡ length c.cover.new.index.items = length-set _ _ _ in
    let more : length c.self.inside.index.items ≤ length (set c.cover.new.index.items c.args.base c.insert_reserved-key.result) = subst (λ n. length c.self.inside.index.items ≤ n) (sym e) (longer c).1 in
    kept_after c.self.inside.index.items (set c.cover.new.index.items c.args.base c.insert_reserved-key.result) c.self.inside.buffers.slots c.insert_reserved-key.new.self.slots c.insert_reserved-key.result (Some (made c))
    more (changes c) (keeps c) c.self.invariant

pub returns-clause-bases : goal.returns-clause-bases
unfolding made
returns-clause-bases c =
    let was : get_or c.self.inside.buffers.slots c.insert_reserved-key.result None ≡ None =
    ap (λ (s : Slab Kept). get_or s.slots c.insert_reserved-key.result None) (sym c.reserve.ensures.rest_kept) ∙ c.insert_reserved-key.ensures.was_vacant in
    shown_after c.args.self.now.bases c.self.inside.index.items (set c.cover.new.index.items c.args.base c.insert_reserved-key.result) c.self.inside.buffers.slots c.insert_reserved-key.new.self.slots c.args.base c.insert_reserved-key.result (Some (made c))
    (ap (λ (s : Stored). s.bases) c.self.view_is) c.self.invariant (invariant_of-self-2 c) (changes c)
    (subst (IsOwn c.args.base) (sym was) (nothing_own c.args.base))
    (own c.args.base (Some (made c)) (made c) refl refl)
    (new_leads c.self.inside.index.items c.cover.new.index.items c.args.base c.insert_reserved-key.result _ c.in_ok-cover.ensures.covered (longer c).0)
    ∙ ap (assigned (cells c.args.self.now) c.args.base) (held_own (made c) c.args.base refl)
