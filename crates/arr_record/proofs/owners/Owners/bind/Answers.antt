use Rattle.std.proofs.Common.{◌≡◌, ◌<◌, ◌≤◌, ◌+◌, ℕ, List, set, Some, sym, ap, ◌∙◌, subst, length, refl, arith, rules, slice_index, vec_len}
use Rattle.std.proofs.lemmas.Grind.{get_or_default_zero}
use Rattle.arr_num.specs.declared.elem.Elem.{Elem}
use Rattle.arr_elab.specs.Recording.{other_names}
use Rattle.arr_record.specs.Ledger.{Ledger, Owned, names_for}
use Rattle.arr_record.proofs.Named.{names_for_few, others_few}
use Rattle.arr_record.proofs.Ledgers.{owned_bound, live_below, apart_of, updated}
use Rattle.arr_record.proofs.owners.Owners.bind.Goals as goal

pub index_mut-requires : goal.index_mut-requires
index_mut-requires c =
    let before : Ledger = record { names = c.self.inside.names.entries; elems = c.self.inside.elems.items; counts = c.self.inside.counts.items; loose = c.self.inside.loose.keys } in
    let names : List (ℕ × ℕ) = c.requires.0.names in
    let live : List (ℕ × Elem) = c.requires.0.live in
    let owned : Owned before (other_names c.args.name names) live = subst (λ o. Owned o (other_names c.args.name names) live) (sym c.self.view_is) (c.in_ok-release.ensures.owned names live c.requires.0.owned) in
    let below : c.args.base < length c.self.inside.elems.items = live_below before c.args.base (other_names c.args.name names) live owned c.requires.1 in
    let even : length c.self.inside.counts.items ≡ length c.self.inside.elems.items = owned.even in
    let long : vec_len c.self.inside.counts ≡ length c.self.inside.counts.items = search rules in
    omega arith

pub overflow_add-index_mut : goal.overflow_add-index_mut
overflow_add-index_mut c =
    let before : Ledger = record { names = c.self.inside.names.entries; elems = c.self.inside.elems.items; counts = c.self.inside.counts.items; loose = c.self.inside.loose.keys } in
    let names : List (ℕ × ℕ) = c.requires.0.names in
    let live : List (ℕ × Elem) = c.requires.0.live in
    let others : List (ℕ × ℕ) = other_names c.args.name names in
    let owned : Owned before (other_names c.args.name names) live = subst (λ o. Owned o (other_names c.args.name names) live) (sym c.self.view_is) (c.in_ok-release.ensures.owned names live c.requires.0.owned) in
    let below : c.args.base < length c.self.inside.elems.items = live_below before c.args.base (other_names c.args.name names) live owned c.requires.1 in
    let even : length c.self.inside.counts.items ≡ length c.self.inside.elems.items = owned.even in
    let inside : c.args.base < length c.self.inside.counts.items = omega arith in
    let read : c.index_mut.result.now ≡ slice_index c.self.inside.counts.items c.args.base =
    c.index_mut.ensures.value ∙ get_or_default_zero c.self.inside.counts.items c.args.base c.index_mut.result.now inside in
    let count : slice_index c.self.inside.counts.items c.args.base ≡ names_for (other_names c.args.name names) c.args.base = owned.counted c.args.base in
    let few : names_for (other_names c.args.name names) c.args.base ≤ length (other_names c.args.name names) = names_for_few (other_names c.args.name names) c.args.base in
    let fewer : length (other_names c.args.name names) ≤ length names = others_few names c.args.name in
    omega (arith, c.requires.2)

pub returns-clause-owned : goal.returns-clause-owned
returns-clause-owned c =
    λ names live owned alive.
    let before : Ledger = record { names = c.self.inside.names.entries; elems = c.self.inside.elems.items; counts = c.self.inside.counts.items; loose = c.self.inside.loose.keys } in
    let after : Ledger = record { names = c.insert.new.self.entries; elems = c.self.inside.elems.items; counts = set c.self.inside.counts.items c.args.base (c.index_mut.result.now + 1); loose = c.remove.new.self.keys } in
    let known : Owned before (other_names c.args.name names) live = subst (λ o. Owned o (other_names c.args.name names) live) (sym c.self.view_is) (c.in_ok-release.ensures.owned names live owned) in
    let below : c.args.base < length c.self.inside.elems.items = live_below before c.args.base (other_names c.args.name names) live known alive in
    let even : length c.self.inside.counts.items ≡ length c.self.inside.elems.items = known.even in
    let inside : c.args.base < length c.self.inside.counts.items = omega arith in
    let read : c.index_mut.result.now ≡ slice_index c.self.inside.counts.items c.args.base =
    c.index_mut.ensures.value ∙ get_or_default_zero c.self.inside.counts.items c.args.base c.index_mut.result.now inside in
    owned_bound before after c.args.name c.args.base names live alive
    (updated c.self.inside.names.entries c.insert.new.self.entries c.args.name (Some c.args.base) c.in_ok-insert.ensures.updates.0) refl
    (ap (λ n. set c.self.inside.counts.items c.args.base (n + 1)) read) c.remove.ensures.keys known (apart_of names owned.apart)
