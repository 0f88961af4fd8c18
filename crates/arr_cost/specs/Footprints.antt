-- What blocks touch, class by class, as rows of 64 bits.
use Rattle.std.specs.Prelude.{◌≡◌, ◌⊎◌, ℕ, zero, suc, ◌<◌, ◌≤◌, ◌+◌, ◌*◌, ◌/◌, ◌%◌, ◌==◌, nat_lt, List, ◌++◌, Bool, ◌&&◌, ◌||◌, not, map, min, cond, get_or, length, Option, bit_or}
use Rattle.std.specs.Int.{bit_at}
use Rattle.std.specs.List.{flat_map, list_any}
use Rattle.std.specs.Option.{option_to_list}
use Rattle.arr_view.specs.Strided.{Strided}
use Rattle.arr_ops.specs.Costs.{weight}
use Rattle.arr_ops.specs.Ops.{views}
use Rattle.arr_ops.specs.declared.op.Op.{Op}
use Rattle.arr_cost.specs.declared.footprints.Row.{Row}
use Rattle.arr_cost.specs.declared.touches.Touch.{Touch}
use Rattle.arr_cost.specs.declared.touches.Touches.{Touches}
use Rattle.arr_cost.specs.Touches.{base_of, frees_number, makes_number, table_of, touched_by}

abbrev pub has_bit : ℕ → ℕ → Bool
has_bit word i = bit_at word i == 1

-- the base and the weight of each class
abbrev pub bases_of : List Op → List ℕ
bases_of list = map (λ (v : Strided). base_of (flat_map views list) v.base) (flat_map views list)

abbrev pub weights_of : List Op → List ℕ
weights_of list = map (weight list) (flat_map views list)

-- the view has the class
abbrev pub is_class : ℕ → Option Touch → Bool
is_class c o = list_any (λ (t : Touch). t.class == c) (option_to_list o)

abbrev pub reads_class : ℕ → Touches → Bool
reads_class c t = is_class c t.first || is_class c t.second

abbrev pub writes_class : ℕ → Touches → Bool
writes_class c t = is_class c t.out

-- the class is one of a base
abbrev pub base_bit : List ℕ → ℕ → ℕ → Bool
base_bit bases b c = nat_lt c (length bases) && (b == get_or bases c 0)

-- ---- rows

abbrev pub blank : Row
blank = record { reads = 0; writes = 0; makes = 0; frees = 0 }

abbrev pub is_blank : Row → Bool
is_blank row = row.reads == 0 && (row.writes == 0 && (row.makes == 0 && row.frees == 0))

-- only the rows from one on up to another touch anything
pub record LiesWithin (rows : List Row) (from upto : ℕ) : Type 0 where
  pub few : length rows ≤ 64
  pub inside : upto ≤ length rows
  pub front : (i : ℕ) → i < from → get_or rows i blank ≡ blank
  pub behind : (i : ℕ) → upto ≤ i → get_or rows i blank ≡ blank

-- a row of one of two footprints touches nothing
abbrev pub IsIdle : List Row → List Row → ℕ → Type 0
IsIdle a b i = (get_or a i blank ≡ blank) ⊎ (get_or b i blank ≡ blank)

-- the row that has a class
abbrev pub row_for : List Row → ℕ → Row
row_for rows c = get_or rows (c / 64) blank

-- one row for those of two blocks
abbrev pub join : Row → Row → Row
join a b = record { reads = bit_or a.reads b.reads; writes = bit_or a.writes b.writes; makes = bit_or a.makes b.makes; frees = bit_or a.frees b.frees }

-- a class is touched outside the block: read where its base is not made, or written where its base is not freed
abbrev pub keeps : Row → ℕ → Bool
keeps row i = (has_bit row.reads i && not (has_bit row.makes i)) || (has_bit row.writes i && not (has_bit row.frees i))

abbrev pub keeps_class : List Row → ℕ → Bool
keeps_class rows c = keeps (row_for rows c) (c % 64)

-- one of two blocks touches it outside itself, but not the two as one
abbrev pub loses : Row → Row → ℕ → Bool
loses a b i = (keeps a i || keeps b i) && not (keeps (join a b) i)

-- ---- what rows tell

-- a word has a bit for each of 64 classes, from a place on, that passes
abbrev pub HasClasses : ℕ → ℕ → (ℕ → Bool) → Type 0
HasClasses first word test = (i : ℕ) → i < 64 → has_bit word i ≡ test (first + i)

-- the same for classes whose base passes
abbrev pub HasBases : List ℕ → ℕ → ℕ → (ℕ → Bool) → Type 0
HasBases bases first word test = (i : ℕ) → i < 64 → first + i < length bases → has_bit word i ≡ test (get_or bases (first + i) 0)

-- the rows tell which classes are read, which are written, and of which the base is made or freed
abbrev pub ReadsAre : List ℕ → List Row → (ℕ → Bool) → Type 0
ReadsAre bases rows test = (c : ℕ) → c < length bases → has_bit (row_for rows c).reads (c % 64) ≡ test c

abbrev pub WritesAre : List ℕ → List Row → (ℕ → Bool) → Type 0
WritesAre bases rows test = (c : ℕ) → c < length bases → has_bit (row_for rows c).writes (c % 64) ≡ test c

abbrev pub MakesAre : List ℕ → List Row → (ℕ → Bool) → Type 0
MakesAre bases rows test = (c : ℕ) → c < length bases → has_bit (row_for rows c).makes (c % 64) ≡ test (get_or bases c 0)

abbrev pub FreesAre : List ℕ → List Row → (ℕ → Bool) → Type 0
FreesAre bases rows test = (c : ℕ) → c < length bases → has_bit (row_for rows c).frees (c % 64) ≡ test (get_or bases c 0)

-- the rows tell of each class whether the block reads it, writes it, and makes or frees its base
pub record IsFootprint (list : List Op) (block : List ℕ) (rows : List Row) : Type 0 where
  pub long : length rows ≡ length (bases_of list) / 64 + 1
  pub reads : ReadsAre (bases_of list) rows (λ c. list_any (reads_class c) (touched_by (table_of list) block))
  pub writes : WritesAre (bases_of list) rows (λ c. list_any (writes_class c) (touched_by (table_of list) block))
  pub makes : MakesAre (bases_of list) rows (λ b. list_any (makes_number b) (touched_by (table_of list) block))
  pub frees : FreesAre (bases_of list) rows (λ b. list_any (frees_number b) (touched_by (table_of list) block))

-- the rows are a footprint of two blocks as one, wherever others are footprints of the two
abbrev pub IsJoint : List Row → List Row → List Row → Type 0
IsJoint a b rows = (list : List Op) (x y : List ℕ) → IsFootprint list x a → IsFootprint list y b → IsFootprint list (x ++ y) rows

-- ---- weights

-- the sum of the weights, from a place on, of those of the next n that pass
unfoldable pub span : List ℕ → ℕ → ℕ → (ℕ → Bool) → ℕ
span weights first zero p = 0
span weights first (suc n) p = span weights first n p + cond (p n) (get_or weights (first + n) 0) 0

-- what two blocks save as one: the classes that both touch outside themselves, and those that the two as one don't
abbrev pub saved_by : List ℕ → List Row → List Row → ℕ
saved_by weights a b =
    span weights 0 (64 * min (length a) (length b)) (λ c. keeps_class a c && keeps_class b c)
    + span weights 0 (64 * min (length a) (length b)) (λ c. loses (row_for a c) (row_for b c) (c % 64))
