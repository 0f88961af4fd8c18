-- What names stand for, by their numbers.
use Rattle.std.proofs.Common.{◌≡◌, ℕ, zero, suc, List, [], ◌∷◌, Bool, true, false, cond, not, ◌&&◌, ◌||◌, get_or, refl, ap, sym, ◌∙◌}
use Rattle.std.specs.Prelude.{◌==◌, Option, Some, None}
use Rattle.std.specs.List.{list_any}
use Rattle.std.specs.Str.{bytes_eq}
use Rattle.std.proofs.lemmas.Bool.{and_parts, eqb-true, ne_eqb}
use Rattle.std.proofs.lemmas.Map.Views.{any-filter_same}
use Rattle.arr_elab.specs.declared.value.Array.{Array}
use Rattle.arr_elab.specs.State.{Names, stands_for, number_of, with_name}
use Rattle.arr_elab.specs.Recording.{other_names}

-- ---- the names of a state

abbrev pub at_number : Names → ℕ → Option Array
at_number names n = (get_or names n ([], None)).1

pub found_at : (names : Names) (text : List ℕ) (a : Array) → stands_for names text ≡ Some a → at_number names (number_of names text) ≡ Some a
found_at [] text a e = absurd (let f : None ≡ Some a = e in cc)
found_at (entry ∷ entries) text a e = by (bytes_eq entry.0 text) (found_at entries text a) e
  where
    by : (b : Bool) → (stands_for entries text ≡ Some a → at_number entries (number_of entries text) ≡ Some a) → cond b entry.1 (stands_for entries text) ≡ Some a
        → at_number (entry ∷ entries) (cond b 0 (suc (number_of entries text))) ≡ Some a
    by true rest e = e
    by false rest e = rest e

pub set_at : (names : Names) (text : List ℕ) (value : Option Array) → at_number (with_name names text value) (number_of names text) ≡ value
set_at [] text value = refl
set_at (entry ∷ entries) text value = by (bytes_eq entry.0 text) (set_at entries text value)
  where
    by : (b : Bool) → at_number (with_name entries text value) (number_of entries text) ≡ value
        → at_number (cond b ((text, value) ∷ entries) (entry ∷ with_name entries text value)) (cond b 0 (suc (number_of entries text))) ≡ value
    by true rest = refl
    by false rest = rest

none_at : (k : ℕ) → at_number [] k ≡ None
none_at zero = refl
none_at (suc k) = refl

pub kept_at : (names : Names) (text : List ℕ) (value : Option Array) (k : ℕ) → (k ≡ number_of names text → ⊥) → at_number (with_name names text value) k ≡ at_number names k
kept_at [] text value zero h = absurd (h refl)
kept_at [] text value (suc k) h = none_at k ∙ sym (none_at (suc k))
kept_at (entry ∷ entries) text value k h = by (bytes_eq entry.0 text) (kept_at entries text value) k h
  where
    by : (b : Bool) → ((k : ℕ) → (k ≡ number_of entries text → ⊥) → at_number (with_name entries text value) k ≡ at_number entries k) → (k : ℕ) → (k ≡ cond b 0 (suc (number_of entries text)) → ⊥) → at_number (cond b ((text, value) ∷ entries) (entry ∷ with_name entries text value)) k ≡ at_number (entry ∷ entries) k
    by true rest zero h = absurd (h refl)
    by true rest (suc k) h = refl
    by false rest zero h = refl
    by false rest (suc k) h = rest k (λ e. h (ap suc e))

-- ---- the names of a scene

-- the name of this number has this base
abbrev pub notes : ℕ → ℕ → List (ℕ × ℕ) → Bool
notes n b names = list_any (λ (name : ℕ × ℕ). (name.0 == n) && (name.1 == b)) names

pub notes_live : (n b : ℕ) (names : List (ℕ × ℕ)) → notes n b names ≡ true → list_any (λ (name : ℕ × ℕ). name.1 == b) names ≡ true
notes_live n b [] e = absurd (let f : false ≡ true = e in cc)
notes_live n b (name ∷ names) e = by (name.0 == n) (name.1 == b) (notes_live n b names) e
  where
    by : (p q : Bool) → (notes n b names ≡ true → list_any (λ (name : ℕ × ℕ). name.1 == b) names ≡ true) → ((p && q) || notes n b names) ≡ true → (q || list_any (λ (name : ℕ × ℕ). name.1 == b) names) ≡ true
    by p true rest e = refl
    by true false rest e = rest e
    by false false rest e = rest e

pub notes_other : (n k b : ℕ) (names : List (ℕ × ℕ)) → (k ≡ n → ⊥) → notes k b names ≡ true → notes k b (other_names n names) ≡ true
notes_other n k b names h e =
    any-filter_same (λ (name : ℕ × ℕ). (name.0 == k) && (name.1 == b)) (λ (name : ℕ × ℕ). not (name.0 == n)) true (λ name f.
    let at : name.0 ≡ k = eqb-true name.0 k (and_parts (name.0 == k) (name.1 == b) f).0 in
    ap not (ne_eqb name.0 n (λ g. h (sym at ∙ g)))) names
    ∙ e
