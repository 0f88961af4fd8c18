-- What a contract sees of a reader of proofs.
use Rattle.std.specs.Prelude.{ℕ, suc, ◌≡◌, ◌≤◌, ◌<◌, ◌-◌, ◌++◌, Bool, true, false, not, List, [], ◌∷◌, length, take, Option, None, Some, Result, Ok, Err}
use Rattle.std.specs.List.{list_all}
use Rattle.std.specs.Io.KnownBytes.{Consumes, IsAtEnd}
use Rattle.arr_io.specs.declared.source.Source.{Ghosts}
use Rattle.arr_cert.specs.declared.item.CheckFault.{CheckFault}
use Rattle.arr_cert.specs.declared.item.Item.{Item}
use Rattle.arr_cert.specs.declared.item.Item.TheVariants as item
use Rattle.arr_cert.specs.declared.reader.Found.{Found}
use Rattle.arr_cert.specs.declared.reader.Found.TheVariants as found
use Rattle.arr_cert.specs.declared.reader.Reader.{Reader}
use Rattle.arr_cert.specs.Spelling.{Spells}
use Rattle.arr_cert.specs.Reading.{IsFirst, SpellsNone, Told, Unread, is_feed}
use Rattle.arr_cert.specs.Unread.{HasMet, coming, waiting}

abbrev pub unread : {S : Type 0} → Ghosts S → Reader → S → Unread
unread g reader source = record { bytes = coming g reader.pieces source; line = reader.next_line; room = reader.room }

-- the number of the line of the last item
abbrev pub last_line : Reader → ℕ
last_line reader = reader.line

-- the number of the line at which what is unread begins
abbrev pub next_line : Reader → ℕ
next_line reader = reader.next_line

-- the item is the first that the unread bytes give, at the last line
abbrev pub Gives : {S : Type 0} → Ghosts S → Reader → Reader → S → S → Item → Type 0
Gives g old new before after item = Told (unread g old before) (unread g new after) (IsFirst item (last_line new))

-- how many bytes were read and not used
abbrev pub ahead : Reader → ℕ
ahead reader = length (waiting reader.pieces)

-- a failure, a line that is no record or one byte too many came before: nothing more is read
abbrev pub is_over : Reader → Bool
is_over reader = reader.over

abbrev pub stops : Result Item CheckFault → Bool
stops (Ok (item.Malformed)) = true
stops (Ok (item.TooLong)) = true
stops (Ok _) = false
stops (Err _) = true

-- where the end of input was met, nothing is left
abbrev pub HasMetEnd : {S : Type 0} → Ghosts S → Reader → S → Type 0
HasMetEnd g reader source = HasMet g reader.pieces source

-- it stands before line 1 of a proof that may have 67,108,864 bytes, and has read nothing
pub record IsFresh (reader : Reader) : Type 0 where
  pub nothing : waiting reader.pieces ≡ []
  pub first : reader.next_line ≡ 1
  pub room : reader.room ≡ 67108864
  pub begins : reader.over ≡ false
  pub end : reader.pieces.ended ≡ false

-- ---- what private calls say

-- no line feed stands among the bytes
abbrev pub is_open : List ℕ → Bool
is_open bytes = list_all (λ b. not (is_feed b)) bytes

-- bytes without a line feed, and then one or not
abbrev pub part : Bool → List ℕ → List ℕ
part true front = front ++ 10 ∷ []
part false front = front

-- of the bytes that wait, those of a line were taken, and its text was kept
pub record IsPart (size : ℕ) (ends : Bool) (old new text more front : List ℕ) : Type 0 where
  pub plain : is_open front ≡ true
  pub split : old ≡ part ends front ++ new
  pub counts : size ≡ length (part ends front)
  pub some : 0 < length old → 0 < size
  pub kept : more ≡ take 65537 (text ++ front)

-- so of what a reader has
abbrev pub TakesPart : Reader → Reader → ℕ → Bool → Type 0
TakesPart old new size ends = (front : List ℕ) × IsPart size ends (waiting old.pieces) (waiting new.pieces) old.text.items new.text.items front

-- what a call that takes bytes leaves as it is
pub record IsSame (old new : Reader) : Type 0 where
  pub room : new.room ≡ old.room
  pub next : new.next_line ≡ old.next_line
  pub line : new.line ≡ old.line
  pub over : new.over ≡ old.over

pub record IsLine (old new : Unread) (text front : List ℕ) (ends : Bool) : Type 0 where
  pub taken : Consumes old.bytes new.bytes (part ends front)
  pub plain : is_open front ≡ true
  pub last : ends ≡ false → (0 < length front) × IsAtEnd new.bytes
  pub kept : text ≡ take 65537 front
  pub within : length (part ends front) ≤ old.room
  pub room : new.room ≡ old.room - length (part ends front)
  pub next : new.line ≡ suc old.line

pub record IsBeyond (old new : Unread) (front : List ℕ) (ends : Bool) : Type 0 where
  pub taken : Consumes old.bytes new.bytes (part ends front)
  pub plain : is_open front ≡ true
  pub more : old.room < length (part ends front)

abbrev pub Finds : Found → Unread → Unread → List ℕ → Type 0
Finds found.Nothing old new text = Consumes old.bytes new.bytes [] × IsAtEnd old.bytes
Finds found.Beyond old new text = (front : List ℕ) × (ends : Bool) × IsBeyond old new front ends
Finds found.Line old new text = (front : List ℕ) × (ends : Bool) × IsLine old new text front ends

-- so by what a reader and its source had before and have after
abbrev pub FindsLine : {S : Type 0} → Ghosts S → Reader → Reader → S → S → Found → Type 0
FindsLine g old new before after found = Finds found (unread g old before) (unread g new after) new.text.items

-- what a marked line is
abbrev pub IsSpelled : Item → List ℕ → Type 0
IsSpelled (item.Record r) text = Spells text r
IsSpelled item.Malformed text = (whole : List ℕ) → text ≡ take 65537 whole → SpellsNone whole
IsSpelled _ text = ⊥

-- a line is passed over, or it is the first item
abbrev pub Turns : Option Item → ℕ → Unread → Unread → Type 0
Turns None line old new = Told old new (λ a b. a ≡ b) × (new.room < old.room)
Turns (Some item) line old new = Told old new (IsFirst item line)

-- so by what a reader and its source had before and have after
abbrev pub TurnsTo : {S : Type 0} → Ghosts S → Reader → Reader → S → S → Option Item → Type 0
TurnsTo g old new before after item = Turns item (last_line new) (unread g old before) (unread g new after)
