-- What a proof is read as: its lines, the records among them, and how they end.
use Rattle.std.specs.Prelude.{ℕ, suc, ◌≡◌, ◌-◌, ◌==◌, ◌⊎◌, Bool, cond, nat_lt, slice_index, List, [], ◌∷◌, length, Option, None, Some, ⊤}
use Rattle.std.specs.List.{before_first}
use Rattle.arr_law.specs.declared.record.Record.{Record}
use Rattle.arr_law.specs.declared.reject.Reject.TheVariants.{TooLong, Malformed}
use Rattle.arr_law.specs.Verdict.{Reading, Ends, Stops, Reads}
use Rattle.arr_cert.specs.declared.item.Item.{Item}
use Rattle.arr_cert.specs.declared.item.Item.TheVariants as item
use Rattle.arr_cert.specs.Spelling.{Spells}

-- ---- lines

abbrev pub is_feed : ℕ → Bool
is_feed b = b == 10

abbrev pub onto_first : ℕ → List (List ℕ) → List (List ℕ)
onto_first b [] = (b ∷ []) ∷ []
onto_first b (l ∷ ls) = (b ∷ l) ∷ ls

abbrev pub with_byte : ℕ → List (List ℕ) → List (List ℕ)
with_byte b ls = cond (is_feed b) ((b ∷ []) ∷ ls) (onto_first b ls)

-- the lines of a text, each with the line feed that ends it; the last may lack it
abbrev pub lines : List ℕ → List (List ℕ)
lines [] = []
lines (b ∷ bs) = with_byte b (lines bs)

-- a line without its line feed
abbrev pub text_of : List ℕ → List ℕ
text_of line = before_first is_feed line

-- it begins with `!`
abbrev pub is_marked : List ℕ → Bool
is_marked line = slice_index line 0 == 33

-- ---- the marked lines of a proof, each with its number

pub data Marked : Type 0 where
  -- no marked line is left; the number of the line after the last
  Nothing : (line : ℕ) → Marked
  -- the line in which the first byte stands that a proof may not have
  Beyond : (line : ℕ) → Marked
  Has : (line : ℕ) (text : List ℕ) (rest : Marked) → Marked

abbrev with_line : ℕ → ℕ → List ℕ → Marked → Marked
with_line line room l rest = cond (nat_lt room (length l)) (Beyond line) (cond (is_marked l) (Has line (text_of l) rest) rest)

-- of lines from this number on, where the proof may have so many more bytes
abbrev pub marked : ℕ → ℕ → List (List ℕ) → Marked
marked line room [] = Nothing line
marked line room (l ∷ ls) = with_line line room l (marked (suc line) (room - length l) ls)

-- ---- the records that the marked lines spell

abbrev pub SpellsNone : List ℕ → Type 0
SpellsNone text = (r : Record) → Spells text r → ⊥

-- a line is read as a record, and then the others, or as no record
abbrev pub IsRead : Marked → Reading → Type 0
IsRead (Nothing line) all = all ≡ Ends line
IsRead (Beyond line) all = all ≡ Stops line TooLong
IsRead (Has line text rest) all =
    ((r : Record) × (others : Reading) × Spells text r × IsRead rest others × (all ≡ Reads line r others)) ⊎ (SpellsNone text × (all ≡ Stops line Malformed))

-- ---- one line after another

-- what is unread of a proof: its bytes, as far as they are told, the number of the line at which they begin, and how many bytes the proof
-- may still have
pub record Unread : Type 0 where
  pub bytes : Option (List ℕ)
  pub line : ℕ
  pub room : ℕ

-- the marked lines before and after, as far as the bytes are told
abbrev pub told : Option (List ℕ) → Option (List ℕ) → (List ℕ → List ℕ → Type 0) → Type 0
told None new P = ⊤
told (Some xs) None P = ⊥
told (Some xs) (Some ys) P = P xs ys

abbrev pub Told : Unread → Unread → (Marked → Marked → Type 0) → Type 0
Told old new P = told old.bytes new.bytes (λ xs ys. P (marked old.line old.room (lines xs)) (marked new.line new.room (lines ys)))

-- the item is the first that the marked lines give, at the line of this number
abbrev pub IsFirst : Item → ℕ → Marked → Marked → Type 0
IsFirst (item.Record r) line old new = (text : List ℕ) × Spells text r × (old ≡ Has line text new)
IsFirst item.End line old new = old ≡ Nothing line
IsFirst item.Malformed line old new = (text : List ℕ) × (rest : Marked) × SpellsNone text × (old ≡ Has line text rest)
IsFirst item.TooLong line old new = old ≡ Beyond line

-- what is unread begins behind the line of a record
abbrev pub IsBehind : Item → ℕ → ℕ → Type 0
IsBehind (item.Record r) line next = next ≡ suc line
IsBehind _ line next = ⊤
