-- What is kept of names and bases while steps are read: counts in place of a search through the names.
use Rattle.std.specs.Prelude.{ℕ, suc, ◌≡◌, ◌<◌, ◌^◌, ◌==◌, List, [], ◌∷◌, ◌++◌, Bool, true, not, cond, map, length, get_or, slice_index, nat_lt, Option, Some, None}
use Rattle.std.specs.List.{AllByRecursion, list_any}
use Rattle.std.specs.Map.{lookup}
use Rattle.std.specs.BTreeMap.{is_at}
use Rattle.std.specs.Ordering.{nat_cmp}
use Rattle.arr_num.specs.declared.elem.Elem.{Elem}
use Rattle.arr_num.specs.declared.elem.Elem.TheVariants.{U8}
use Rattle.arr_ops.specs.Formed.{all_pairs}
use Rattle.arr_elab.specs.Recording.{Scene, is_live, after_step, other_names}
use Rattle.arr_elab.specs.declared.step.Step.{Step}
use Rattle.arr_record.specs.Parts.{State, Written, after, unnamed}

-- the bases of the names as a map's entries, the type of each base made so far, how many names stand for each, and the live bases that no name stands for
pub record Ledger : Type 0 where
  pub names : List (ℕ × ℕ)
  pub elems : List Elem
  pub counts : List ℕ
  pub loose : List ℕ

-- the base of a name in a map's entries
abbrev pub found : List (ℕ × ℕ) → ℕ → Option ℕ
found entries n = lookup (is_at (nat_cmp n)) entries

abbrev pub base_of : List (ℕ × ℕ) → ℕ → Option ℕ
base_of [] n = None
base_of (name ∷ names) n = cond (name.0 == n) (Some name.1) (base_of names n)

-- how many names stand for a base
abbrev pub names_for : List (ℕ × ℕ) → ℕ → ℕ
names_for [] b = 0
names_for (name ∷ names) b = cond (name.1 == b) (suc (names_for names b)) (names_for names b)

abbrev pub lives : List (ℕ × Elem) → ℕ → Bool
lives live b = list_any (λ (base : ℕ × Elem). base.0 == b) live

-- bases with their types
abbrev pub with_types : List Elem → List ℕ → List (ℕ × Elem)
with_types elems bases = map (λ b. (b, get_or elems b U8)) bases

-- the live bases that no name stands for, with their types
abbrev pub loose_bases : Ledger → List (ℕ × Elem)
loose_bases o = with_types o.elems o.loose

-- the ledger says what the names and the live bases are
pub record Owned (o : Ledger) (names : List (ℕ × ℕ)) (live : List (ℕ × Elem)) : Type 0 where
  pub by_name : (n : ℕ) → found o.names n ≡ base_of names n
  pub counted : (b : ℕ) → slice_index o.counts b ≡ names_for names b
  pub loose : o.loose ≡ map (λ (base : ℕ × Elem). base.0) (unnamed names live)
  pub even : length o.counts ≡ length o.elems
  pub types : AllByRecursion (λ (base : ℕ × Elem). get_or o.elems base.0 U8 ≡ base.1) live
  pub below : AllByRecursion (λ (base : ℕ × Elem). base.0 < length o.elems) live
  pub held : AllByRecursion (λ (name : ℕ × ℕ). lives live name.1 ≡ true) names
  pub apart : all_pairs (λ (x y : ℕ × ℕ). not (x.0 == y.0)) names ≡ true
  pub rising : all_pairs (λ (x y : ℕ × Elem). nat_lt x.0 y.0) live ≡ true

-- what the old ledger says of names and live bases, the new one says of them with these bases too
abbrev pub Makes : Ledger → Ledger → List (ℕ × Elem) → Type 0
Makes old new bases = (names : List (ℕ × ℕ)) → (live : List (ℕ × Elem)) → Owned old names live → Owned new names (live ++ bases)

-- it says it of the names as they are changed
abbrev pub Renames : Ledger → Ledger → (List (ℕ × ℕ) → List (ℕ × ℕ)) → Type 0
Renames old new change = (names : List (ℕ × ℕ)) → (live : List (ℕ × Elem)) → Owned old names live → Owned new (change names) live

-- it says it of the names when this one stands for a base that lives
abbrev pub Binds : Ledger → Ledger → ℕ → ℕ → Type 0
Binds old new name base =
    (names : List (ℕ × ℕ)) → (live : List (ℕ × Elem)) → Owned old names live → lives live base ≡ true
    → Owned new ((name, base) ∷ other_names name names) live

-- it says so of some
pub record Known (o : Ledger) : Type 0 where
  pub names : List (ℕ × ℕ)
  pub live : List (ℕ × Elem)
  pub owned : Owned o names live

-- what is written and the ledger are what the steps so far leave
pub record Follows (scene : Scene) (s : State) (w : Written) (o : Ledger) : Type 0 where
  pub written : w ≡ s.written
  pub owned : Owned o s.names s.live
  pub made : length o.elems ≡ length scene.bases

-- and the step may come next
pub record Ready (w : Written) (o : Ledger) (step : Step) : Type 0 where
  pub scene : Scene
  pub state : State
  pub next : Scene
  pub follows : Follows scene state w o
  pub live : (b : ℕ) → is_live scene b ≡ true → lives state.live b ≡ true
  pub may : after_step scene step ≡ Some next
  pub few : length state.names < 2 ^ 63

-- what is written and the ledger follow the step, from whatever state it came next
abbrev pub FollowsStep : Written → Ledger → Step → Written → Ledger → Type 0
FollowsStep w o step written ledger = (r : Ready w o step) → Follows r.next (after r.state step) written ledger
