-- Values are written one after another.
use Rattle.std.proofs.Common.{◌≡◌, ℕ, suc, ◌+◌, ◌*◌, ℤ, List, [], ◌∷◌, length, set, true, refl, ap, sym, subst, ◌∙◌, arith, Option, Some}
use Rattle.std.proofs.lemmas.List.{length-set}
use Rattle.std.specs.FinMap as finite
use Rattle.std.specs.List.{list_all}
use Rattle.arr_num.specs.Numbers.{in_type, width}
use Rattle.arr_view.specs.Views.{elements, positions}
use Rattle.arr_ops.specs.declared.gather.Scatter.{Scatter}
use Rattle.arr_ops.specs.Memory.{Cell}
use Rattle.arr_ops.proofs.Tests.{both_left, both_right}
use Rattle.arr_store.specs.Cells.{assigned, size_at, width_at, with_number}
use Rattle.arr_store.specs.Stored.{Stored, cells}
use Rattle.arr_gather.specs.declared.feed.Feed.{Feed}
use Rattle.arr_gather.specs.declared.feed.Feed.TheVariants.{Kept, Copied}
use Rattle.arr_gather.specs.Feeds.{CanPlace, Inside, IsApart, Places, owed, spot, to_come, with_placed}
use Rattle.arr_gather.proofs.Bases.{at_same, twice, unchanged}
use Rattle.arr_gather.proofs.Feeding.{same_inside, same_owed, same_to_come}
use Rattle.arr_gather.proofs.Numbers.{Target, length-read, target_of}

-- so many values are still to be written
pub record Scattering (op : Scatter) (start now : Stored) (first_index first_values index values : Feed) (position left : ℕ) : Type 0 where
  pub numbers : List ℤ
  pub target : cells now op.target.base ≡ Some (record { elem = op.to; numbers = numbers })
  pub size : length numbers ≡ size_at (cells start op.target.base)
  pub others : cells now ≡ assigned (cells start) op.target.base (cells now op.target.base)
  pub whole : with_placed op (to_come (cells now) position index) (to_come (cells now) position values) (cells now op.target.base)
      ≡ with_placed op (to_come (cells start) 0 first_index) (to_come (cells start) 0 first_values) (cells start op.target.base)
  pub index_left : length (to_come (cells now) position index) ≡ left
  pub values_left : length (to_come (cells now) position values) ≡ left
  pub index_inside : Inside (cells now) index
  pub values_inside : Inside (cells now) values
  pub index_apart : IsApart op.target.base index
  pub values_apart : IsApart op.target.base values
  pub index_typed : list_all (in_type op.of) (to_come (cells now) position index) ≡ true
  pub values_typed : list_all (in_type op.to) (to_come (cells now) position values) ≡ true
  pub loads : now.loads + (owed (cells now) index + owed (cells now) values) ≡ start.loads + (owed (cells start) first_index + owed (cells start) first_values)
  pub stores : now.stores + left * width op.to ≡ start.stores + positions op.index.lengths * width op.to
  pub made : now.made ≡ start.made

pub scattering_starts : (op : Scatter) (s : Stored) (index values : Feed) → CanPlace op s index values → Scattering op s s index values index values 0 (positions op.index.lengths)
scattering_starts op s index values can =
    let t : Target (cells s op.target.base) op.to = target_of (cells s) op.to op.target can.target in
    let i = can.index_feeds.count_is in
    let v = can.value_feeds.count_is in
    record {
      numbers = t.numbers;
      target = t.is;
      size = sym (ap size_at t.is);
      others = sym (unchanged (cells s) op.target.base);
      whole = refl;
      index_left = omega arith;
      values_left = omega arith;
      index_inside = can.index_feeds.inside;
      values_inside = can.value_feeds.inside;
      index_apart = can.index_feeds.apart;
      values_apart = can.value_feeds.apart;
      index_typed = can.typed_index;
      values_typed = can.typed_values;
      loads = refl;
      stores = refl;
      made = refl;
    }

-- a number was taken from a feed
pub record Taken (f : ℕ → Option Cell) (old new : Stored) (position : ℕ) (feed rest : Feed) (z : ℤ) : Type 0 where
  pub number : to_come f position feed ≡ z ∷ to_come f (position + 1) rest
  pub inside : Inside f rest
  pub apart : (b : ℕ) → IsApart b feed → IsApart b rest
  pub loads : new.loads + owed f rest ≡ old.loads + owed f feed
  pub bases : new.bases ≡ old.bases
  pub stores : new.stores ≡ old.stores
  pub made : new.made ≡ old.made

pub taken_there : (old mid far : Stored) (position : ℕ) (feed rest : Feed) (z : ℤ) → mid.bases ≡ old.bases → Taken (cells mid) mid far position feed rest z → Taken (cells old) mid far position feed rest z
taken_there old mid far position feed rest z e = subst (λ f. Taken f mid far position feed rest z) (ap finite.get e)

-- the number that was taken is of its type
pub taken_typed : (op : Scatter) (t : _) (f : ℕ → Option Cell) (position : ℕ) (feed rest : Feed) (z : ℤ) → list_all (in_type t) (to_come f position feed) ≡ true
    → to_come f position feed ≡ z ∷ to_come f (position + 1) rest → in_type t z ≡ true
taken_typed op t f position feed rest z h e = both_left (in_type t z) _ (subst (λ zs. list_all (in_type t) zs ≡ true) e h)

pub scattering_more : (op : Scatter) (start now mid far next : Stored) (first_index first_values index values rest_index rest_values : Feed) (position left place : ℕ) (i x : ℤ)
    → Scattering op start now first_index first_values index values position (suc left) → Taken (cells now) now mid position index rest_index i → Taken (cells now) mid far position values rest_values x
    → place ≡ spot (elements op.target) i
    → cells next ≡ assigned (cells far) op.target.base (with_number (cells far op.target.base) place x) → next.loads ≡ far.loads → next.stores ≡ far.stores + width_at (cells far op.target.base) → next.made ≡ far.made
    → Scattering op start next first_index first_values rest_index rest_values (position + 1) left
scattering_more op start now mid far next first_index first_values index values rest_index rest_values position left place i x k a b is bases loaded stored made =
    let tb : ℕ = op.target.base in
    let f : ℕ → Option Cell = cells now in
    let same : cells far ≡ f = ap finite.get (b.bases ∙ a.bases) in
    let new : Option Cell = Some (record { elem = op.to; numbers = set k.numbers place x }) in
    let here : with_number (f tb) place x ≡ new = ap (λ c. with_number c place x) k.target in
    let changed : cells next ≡ assigned f tb new = bases ∙ ap (λ g. assigned g tb (with_number (g tb) place x)) same ∙ ap (assigned f tb) here in
    let at : cells next tb ≡ new = ap (λ g. g tb) changed ∙ at_same f tb new in
    let index_apart : IsApart tb rest_index = a.apart tb k.index_apart in
    let values_apart : IsApart tb rest_values = b.apart tb k.values_apart in
    let index_same : to_come (cells next) (position + 1) rest_index ≡ to_come f (position + 1) rest_index = ap (λ g. to_come g (position + 1) rest_index) changed ∙ same_to_come f tb (position + 1) new rest_index index_apart in
    let values_same : to_come (cells next) (position + 1) rest_values ≡ to_come f (position + 1) rest_values = ap (λ g. to_come g (position + 1) rest_values) changed ∙ same_to_come f tb (position + 1) new rest_values values_apart in
    let index_owed : owed (cells next) rest_index ≡ owed f rest_index = ap (λ g. owed g rest_index) changed ∙ same_owed f tb new rest_index index_apart in
    let values_owed : owed (cells next) rest_values ≡ owed f rest_values = ap (λ g. owed g rest_values) changed ∙ same_owed f tb new rest_values values_apart in
    let index_rest : list_all (in_type op.of) (to_come f (position + 1) rest_index) ≡ true = both_right (in_type op.of i) _ (subst (λ zs. list_all (in_type op.of) zs ≡ true) a.number k.index_typed) in
    let values_rest : list_all (in_type op.to) (to_come f (position + 1) rest_values) ≡ true = both_right (in_type op.to x) _ (subst (λ zs. list_all (in_type op.to) zs ≡ true) b.number k.values_typed) in
    let index_count : length (to_come f position index) ≡ suc (length (to_come f (position + 1) rest_index)) = ap length a.number in
    let values_count : length (to_come f position values) ≡ suc (length (to_come f (position + 1) rest_values)) = ap length b.number in
    let index_long : length (to_come (cells next) (position + 1) rest_index) ≡ length (to_come f (position + 1) rest_index) = ap length index_same in
    let values_long : length (to_come (cells next) (position + 1) rest_values) ≡ length (to_come f (position + 1) rest_values) = ap length values_same in
    let index_left = k.index_left in
    let values_left = k.values_left in
    let wide : width_at (cells far tb) ≡ width op.to = ap (λ g. width_at (g tb)) same ∙ ap width_at k.target in
    let loads = k.loads in
    let stores = k.stores in
    let taken = a.loads in
    let taken_values = b.loads in
    let kept = a.stores in
    let kept_too = b.stores in
    let step : with_placed op (to_come f (position + 1) rest_index) (to_come f (position + 1) rest_values) new ≡ with_placed op (to_come f position index) (to_come f position values) (f tb) =
    ap (λ e. with_placed op (to_come f (position + 1) rest_index) (to_come f (position + 1) rest_values) (Some (record { elem = op.to; numbers = set k.numbers e x }))) is
    ∙ ap (λ zs. with_placed op zs (x ∷ to_come f (position + 1) rest_values) (Some (record { elem = op.to; numbers = k.numbers }))) (sym a.number)
    ∙ ap (λ zs. with_placed op (to_come f position index) zs (Some (record { elem = op.to; numbers = k.numbers }))) (sym b.number)
    ∙ ap (with_placed op (to_come f position index) (to_come f position values)) (sym k.target) in
    record {
      numbers = set k.numbers place x;
      target = at;
      size = length-set k.numbers place x ∙ k.size;
      others = changed ∙ ap (λ g. assigned g tb new) k.others ∙ twice (cells start) tb (f tb) new ∙ ap (assigned (cells start) tb) (sym at);
      whole =
          ap (λ zs. with_placed op zs (to_come (cells next) (position + 1) rest_values) (cells next tb)) index_same
          ∙ ap (λ zs. with_placed op (to_come f (position + 1) rest_index) zs (cells next tb)) values_same
          ∙ ap (with_placed op (to_come f (position + 1) rest_index) (to_come f (position + 1) rest_values)) at ∙ step ∙ k.whole;
      index_left = omega arith;
      values_left = omega arith;
      index_inside = subst (λ g. Inside g rest_index) (sym changed) (same_inside f tb new rest_index index_apart a.inside);
      values_inside = subst (λ g. Inside g rest_values) (sym changed) (same_inside f tb new rest_values values_apart b.inside);
      index_apart = index_apart;
      values_apart = values_apart;
      index_typed = ap (list_all (in_type op.of)) index_same ∙ index_rest;
      values_typed = ap (list_all (in_type op.to)) values_same ∙ values_rest;
      loads = omega arith;
      stores = omega arith;
      made = made ∙ b.made ∙ a.made ∙ k.made;
    }

none_left : {X : Type 0} (xs : List X) → length xs ≡ 0 → xs ≡ []
none_left [] e = refl
none_left (x ∷ xs) e = absurd (omega arith)

owes_none : (f : ℕ → Option Cell) (position : ℕ) (feed : Feed) → length (to_come f position feed) ≡ 0 → owed f feed ≡ 0
owes_none f position (Kept b places) e = ap (λ n. n * width_at (f b)) (sym (length-read (f b) places) ∙ e) ∙ omega arith
owes_none f position (Copied numbers) e = refl

pub all_scattered : (op : Scatter) (start now : Stored) (first_index first_values index values : Feed) (position left : ℕ) → Scattering op start now first_index first_values index values position left → left ≡ 0
    → Places op start now first_index first_values
all_scattered op start now first_index first_values index values position left k e =
    let none : to_come (cells now) position index ≡ [] = none_left _ (k.index_left ∙ e) in
    let placed : with_placed op [] (to_come (cells now) position values) (cells now op.target.base) ≡ cells now op.target.base =
    ap (with_placed op [] (to_come (cells now) position values)) k.target ∙ sym k.target in
    let no_index = owes_none (cells now) position index (k.index_left ∙ e) in
    let no_values = owes_none (cells now) position values (k.values_left ∙ e) in
    let no_stores : left * width op.to ≡ 0 = ap (λ n. n * width op.to) e ∙ omega arith in
    let loads = k.loads in
    let stores = k.stores in
    record {
      bases =
          k.others
          ∙ ap (assigned (cells start) op.target.base)
          (sym placed ∙ ap (λ zs. with_placed op zs (to_come (cells now) position values) (cells now op.target.base)) (sym none) ∙ k.whole);
      loads = omega arith;
      stores = omega arith;
      made = k.made;
    }
