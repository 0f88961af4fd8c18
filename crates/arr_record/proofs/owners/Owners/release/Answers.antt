use Rattle.std.proofs.Common.{◌≡◌, ◌<◌, ◌-◌, suc, set, cond, None, true, false, sym, ap, ◌∙◌, subst, length, refl, arith, rules, slice_index, vec_len}
use Rattle.std.proofs.lemmas.Bool.{eq-eqb, ne_eqb}
use Rattle.std.proofs.lemmas.Grind.{get_or_default_zero}
use Rattle.std.specs.Prelude.{◌==◌}
use Rattle.std.specs.Ordering.{nat_cmp}
use Rattle.std.specs.BTreeSet.{insert_key}
use Rattle.arr_elab.specs.Recording.{other_names}
use Rattle.arr_record.specs.Ledger.{Ledger, Owned, found, names_for}
use Rattle.arr_record.proofs.Ledgers.{owned_unbound, owned_released, named_below, named_count, none_found, updated}
use Rattle.arr_record.proofs.owners.Owners.release.Goals as goal

pub returns-in_default-clause-owned : goal.returns-in_default-clause-owned
returns-in_default-clause-owned c =
    λ names live owned.
    let before : Ledger = record { names = c.self.inside.names.entries; elems = c.self.inside.elems.items; counts = c.self.inside.counts.items; loose = c.self.inside.loose.keys } in
    let after : Ledger = record { names = c.remove.new.self.entries; elems = c.self.inside.elems.items; counts = c.self.inside.counts.items; loose = c.self.inside.loose.keys } in
    let none : found c.self.inside.names.entries c.args.name ≡ None = sym c.remove.ensures.value ∙ none_found c.remove.result c.in_default.not-Some in
    owned_unbound before after c.args.name names live none
    (updated c.self.inside.names.entries c.remove.new.self.entries c.args.name None c.remove.ensures.updates.0) refl refl refl (subst (λ o. Owned o names live) (sym c.self.view_is) owned)

pub index-count-requires : goal.index-count-requires
index-count-requires c =
    let before : Ledger = record { names = c.self.inside.names.entries; elems = c.self.inside.elems.items; counts = c.self.inside.counts.items; loose = c.self.inside.loose.keys } in
    let owned : Owned before c.requires.names c.requires.live = subst (λ o. Owned o c.requires.names c.requires.live) (sym c.self.view_is) c.requires.owned in
    let below : c.in-Some.base < length c.self.inside.counts.items =
    named_below before c.args.name c.in-Some.base c.requires.names c.requires.live owned (sym c.in-Some.ensures.value) in
    let long : vec_len c.self.inside.counts ≡ length c.self.inside.counts.items = search rules in
    omega arith

pub overflow_sub-count : goal.overflow_sub-count
overflow_sub-count c =
    let before : Ledger = record { names = c.self.inside.names.entries; elems = c.self.inside.elems.items; counts = c.self.inside.counts.items; loose = c.self.inside.loose.keys } in
    let owned : Owned before c.requires.names c.requires.live = subst (λ o. Owned o c.requires.names c.requires.live) (sym c.self.view_is) c.requires.owned in
    let below : c.in-Some.base < length c.self.inside.counts.items =
    named_below before c.args.name c.in-Some.base c.requires.names c.requires.live owned (sym c.in-Some.ensures.value) in
    let count : slice_index c.self.inside.counts.items c.in-Some.base ≡ suc (names_for (other_names c.args.name c.requires.names) c.in-Some.base) =
    named_count before c.args.name c.in-Some.base c.requires.names c.requires.live owned (sym c.in-Some.ensures.value) in
    let read : c.index-count.result.now ≡ slice_index c.self.inside.counts.items c.in-Some.base =
    c.index-count.ensures ∙ get_or_default_zero c.self.inside.counts.items c.in-Some.base c.index-count.result.now below in
    omega arith

pub index_mut-requires : goal.index_mut-requires
index_mut-requires c =
    let before : Ledger = record { names = c.self.inside.names.entries; elems = c.self.inside.elems.items; counts = c.self.inside.counts.items; loose = c.self.inside.loose.keys } in
    let owned : Owned before c.requires.names c.requires.live = subst (λ o. Owned o c.requires.names c.requires.live) (sym c.self.view_is) c.requires.owned in
    let below : c.in-Some.base < length c.self.inside.counts.items =
    named_below before c.args.name c.in-Some.base c.requires.names c.requires.live owned (sym c.in-Some.ensures.value) in
    let long : vec_len c.self.inside.counts ≡ length c.self.inside.counts.items = search rules in
    omega arith

pub returns-in_ok-insert-clause-owned : goal.returns-in_ok-insert-clause-owned
returns-in_ok-insert-clause-owned c =
    λ names live owned.
    let before : Ledger = record { names = c.self.inside.names.entries; elems = c.self.inside.elems.items; counts = c.self.inside.counts.items; loose = c.self.inside.loose.keys } in
    let after : Ledger = record { names = c.remove.new.self.entries; elems = c.self.inside.elems.items; counts = set c.self.inside.counts.items c.in-Some.base (c.index-count.result.now - 1); loose = c.insert.new.self.keys } in
    let known : Owned before names live = subst (λ o. Owned o names live) (sym c.self.view_is) owned in
    let below : c.in-Some.base < length c.self.inside.counts.items = named_below before c.args.name c.in-Some.base names live known (sym c.in-Some.ensures.value) in
    let count : c.index-count.result.now ≡ slice_index c.self.inside.counts.items c.in-Some.base =
    c.index-count.ensures ∙ get_or_default_zero c.self.inside.counts.items c.in-Some.base c.index-count.result.now below in
    let test : (slice_index c.self.inside.counts.items c.in-Some.base == 1) ≡ true = ap (λ n. n == 1) (sym count) ∙ eq-eqb c.index-count.result.now 1 c.if-last.true in
    owned_released before after c.args.name c.in-Some.base names live (sym c.in-Some.ensures.value)
    (updated c.self.inside.names.entries c.remove.new.self.entries c.args.name None c.remove.ensures.updates.0) refl
    (ap (λ n. set c.self.inside.counts.items c.in-Some.base (n - 1)) count)
    (c.in_ok-insert.ensures.keys ∙ ap (λ t. cond t (insert_key nat_cmp c.self.inside.loose.keys c.in-Some.base) c.self.inside.loose.keys) (sym test)) known

pub returns-else-last-clause-owned : goal.returns-else-last-clause-owned
returns-else-last-clause-owned c =
    λ names live owned.
    let before : Ledger = record { names = c.self.inside.names.entries; elems = c.self.inside.elems.items; counts = c.self.inside.counts.items; loose = c.self.inside.loose.keys } in
    let after : Ledger = record { names = c.remove.new.self.entries; elems = c.self.inside.elems.items; counts = set c.self.inside.counts.items c.in-Some.base (c.index-count.result.now - 1); loose = c.self.inside.loose.keys } in
    let known : Owned before names live = subst (λ o. Owned o names live) (sym c.self.view_is) owned in
    let below : c.in-Some.base < length c.self.inside.counts.items = named_below before c.args.name c.in-Some.base names live known (sym c.in-Some.ensures.value) in
    let count : c.index-count.result.now ≡ slice_index c.self.inside.counts.items c.in-Some.base =
    c.index-count.ensures ∙ get_or_default_zero c.self.inside.counts.items c.in-Some.base c.index-count.result.now below in
    let test : (slice_index c.self.inside.counts.items c.in-Some.base == 1) ≡ false = ap (λ n. n == 1) (sym count) ∙ ne_eqb c.index-count.result.now 1 c.if-last.false in
    owned_released before after c.args.name c.in-Some.base names live (sym c.in-Some.ensures.value)
    (updated c.self.inside.names.entries c.remove.new.self.entries c.args.name None c.remove.ensures.updates.0) refl
    (ap (λ n. set c.self.inside.counts.items c.in-Some.base (n - 1)) count)
    (ap (λ t. cond t (insert_key nat_cmp c.self.inside.loose.keys c.in-Some.base) c.self.inside.loose.keys) (sym test)) known
