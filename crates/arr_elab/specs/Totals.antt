-- The totals that are kept while a script is read: how many names stand for each base, and the live elements.
use Rattle.std.specs.Prelude.{◌≡◌, ◌≤◌, ℕ, suc, ◌+◌, ◌-◌, List, [], ◌∷◌, ◌++◌, Bool, true, Option, Some, None, is_some, length, IsTrue, ◌||◌, ◌&&◌, nat_lt, nat_le, cond, map, get_or, slice_set}
use Rattle.arr_elab.specs.declared.bases.Base.{Base}
use Rattle.arr_elab.specs.declared.value.Array.{Array}
use Rattle.std.specs.List.{count_by, list_all}
use Rattle.arr_view.specs.Views.{most_elements}
use Rattle.arr_elab.specs.State.{Names, has_base, is_bound, most_names, stands_for}

-- the bases so far, and the first base of the statement
pub record Held : Type 0 where
  pub list : List Base
  pub first : ℕ

abbrev pub no_base : Base
no_base = record { length = 0; names = 0 }

abbrev pub lengths : List Base → List ℕ
lengths bases = map (λ (base : Base). base.length) bases

-- the elements of a base that count
abbrev pub weight : ℕ → ℕ → Base → ℕ
weight first b base = cond (nat_le first b || nat_lt 0 base.names) base.length 0

abbrev pub live_by : ℕ → ℕ → List Base → ℕ
live_by first b [] = 0
live_by first b (base ∷ bases) = weight first b base + live_by first (suc b) bases

-- how many names stand for a base
abbrev pub names_of : Names → ℕ → ℕ
names_of [] b = 0
names_of (entry ∷ entries) b = cond (has_base b entry.1) 1 0 + names_of entries b

-- the bases from b on, of these lengths, where so many names stand for each
abbrev pub tally : (ℕ → ℕ) → ℕ → List ℕ → List Base
tally names b [] = []
tally names b (n ∷ ns) = record { length = n; names = names b } ∷ tally names (suc b) ns

abbrev pub base_at : Held → ℕ → Base
base_at held b = get_or held.list b no_base

-- it is there, and the counts have room for one more name
abbrev pub may_hold : Held → ℕ → Bool
may_hold held b =
    nat_lt b (length held.list)
    && (nat_lt (base_at held b).names 4294967295 && nat_lt (live_by held.first 0 held.list + (base_at held b).length) 18446744073709551616)

abbrev pub may_release : Held → ℕ → Bool
may_release held b = nat_lt b (length held.list) && nat_lt 0 (base_at held b).names

-- one more base of so many elements, for which no name stands
abbrev pub with_more : Held → ℕ → Held
with_more held count = record { list = held.list ++ (record { length = count; names = 0 }) ∷ []; first = held.first }

-- another base in the place of one
abbrev pub with_base : Held → ℕ → Base → Held
with_base held b base = record { list = slice_set held.list b base; first = held.first }

abbrev pub hold : Held → ℕ → Held
hold held b = with_base held b (record { length = (base_at held b).length; names = (base_at held b).names + 1 })

abbrev pub release : Held → ℕ → Held
release held b = with_base held b (record { length = (base_at held b).length; names = (base_at held b).names - 1 })

-- ---- of a base, if there is one

abbrev pub base_of : Option Array → Option ℕ
base_of None = None
base_of (Some array) = Some array.view.base

abbrev pub may_hold_if : Held → Option ℕ → Bool
may_hold_if held None = true
may_hold_if held (Some b) = may_hold held b

abbrev pub may_release_if : Held → Option ℕ → Bool
may_release_if held None = true
may_release_if held (Some b) = may_release held b

abbrev pub hold_if : Held → Option ℕ → Held
hold_if held None = held
hold_if held (Some b) = hold held b

abbrev pub release_if : Held → Option ℕ → Held
release_if held None = held
release_if held (Some b) = release held b

-- ---- a name that stands for an array, or for none

-- the base of the array is there
abbrev pub is_there : Option Array → List ℕ → Bool
is_there None ns = true
is_there (Some array) ns = nat_lt array.view.base (length ns)

-- the name is bound already, or one more may be
abbrev pub has_place : Option Array → Names → List ℕ → Bool
has_place None names name = true
has_place (Some array) names name = is_some (stands_for names name) || nat_lt (count_by is_bound names) most_names

-- ---- names and bases together

-- so many names are bound, and so many bases of such lengths made, at most
abbrev pub IsBounded : Names → List ℕ → Type 0
IsBounded names ns = (count_by is_bound names ≤ most_names) × (length ns ≤ 4294967296) × IsTrue (list_all (λ n. nat_le n most_elements) ns)

-- the counts are those of the names, and each name stands for a base that is there
abbrev pub IsKept : Names → Held → Type 0
IsKept names held =
    (held.list ≡ tally (names_of names) 0 (lengths held.list))
    × ((b : ℕ) → length held.list ≤ b → names_of names b ≡ 0)
