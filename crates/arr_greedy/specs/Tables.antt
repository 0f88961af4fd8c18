-- What a table says, row by row.
use Rattle.std.specs.Prelude.{ℕ, ◌≡◌, ◌+◌, ◌<◌, ◌≢◌, ◌==◌, ◌&&◌, ◌||◌, List, Bool, Option, None, Some, cond, drop, false, get_or, nat_lt, not, true}
use Rattle.arr_view.specs.Views.{has}
use Rattle.arr_ops.specs.Order.{In}
use Rattle.arr_heur.specs.Planners.{pairs}
use Rattle.arr_greedy.specs.Fast.{amount, best_after, by_step, covers, flag, may_merge, row_pairs, saves_more}
use Rattle.arr_greedy.specs.Bits.{AreBits, bit, columns}
use Rattle.std.specs.List.{All}
use Rattle.arr_greedy.specs.Ways.{gains, reach_after}

-- a table of width w has at each row and column what a function gives
abbrev pub AreFlags : List Bool → ℕ → (ℕ → ℕ → Bool) → Type 0
AreFlags rows w test = (x y : ℕ) → x < w → y < w → flag rows w x y ≡ test x y

abbrev pub AreAmounts : List ℕ → ℕ → (ℕ → ℕ → ℕ) → Type 0
AreAmounts rows w value = (x y : ℕ) → x < w → y < w → amount rows w x y ≡ value x y

-- another value at one row and column
abbrev pub with_cell : {V : Type 0} → (ℕ → ℕ → V) → ℕ → ℕ → V → ℕ → ℕ → V
with_cell table row column value x y = cond (x == row && y == column) value (table x y)

-- one row as another function gives it
abbrev pub with_row : {V : Type 0} → (ℕ → ℕ → V) → ℕ → (ℕ → ℕ → V) → ℕ → ℕ → V
with_row table row other x y = cond (x == row) (other x y) (table x y)

-- the column of a, but for its own row, as what both columns have
abbrev pub with_both : (ℕ → ℕ → Bool) → ℕ → ℕ → ℕ → ℕ → Bool
with_both table a b x y = cond (y == a && not (x == a)) (table x a && table x b) (table x y)

-- one of two and not the other
abbrev pub has_one : Bool → Bool → Bool
has_one s t = cond s (not t) t

-- one row, but that of a and that of b: if it has one of a and b and not the other, with what row a has
abbrev pub with_gained : (ℕ → ℕ → Bool) → ℕ → ℕ → ℕ → ℕ → ℕ → Bool
with_gained table a b row x y = cond ((x == row && not (row == a || row == b)) && has_one (table row a) (table row b)) (table row y || table a y) (table x y)

-- some columns, but in row 0, as another table has them as rows
abbrev pub with_turned : (ℕ → ℕ → Bool) → (ℕ → ℕ → Bool) → (ℕ → Bool) → ℕ → ℕ → Bool
with_turned table turned taken y x = cond (taken x && nat_lt 0 y) (table x y) (turned y x)

-- one row as what two have
abbrev pub with_joined : (ℕ → ℕ → Bool) → ℕ → ℕ → ℕ → ℕ → ℕ → Bool
with_joined table into first second = with_row table into (λ x y. table first y || table second y)

-- the row of a as what each gains that reaches a or b
abbrev pub with_gains : (ℕ → ℕ → Bool) → ℕ → ℕ → ℕ → ℕ → Bool
with_gains table a b = with_row table a (λ x y. gains table a b y)

-- what a row reaches once it leads another, if it does
abbrev pub with_step : (ℕ → ℕ → Bool) → ℕ → ℕ → Bool → ℕ → Bool
with_step table row other leads y = table row y || (leads && (other == y || table other y))

-- that row as what it reaches then
abbrev pub with_taken : (ℕ → ℕ → Bool) → ℕ → ℕ → Bool → ℕ → ℕ → Bool
with_taken table row other leads = with_row table row (λ x y. with_step table row other leads y)

-- one row as what it reaches by one step and on
abbrev pub with_filled : (ℕ → ℕ → Bool) → (ℕ → ℕ → Bool) → ℕ → ℕ → ℕ → ℕ → Bool
with_filled deps table w row = with_row table row (by_step deps table w)

-- row 0 with the keys
abbrev pub with_keys : (ℕ → ℕ → Bool) → List ℕ → ℕ → ℕ → Bool
with_keys table keys = with_row table 0 (λ x y. table x y || has keys y)

-- the row of a as what the rows of a and b have both
abbrev pub with_shared : (ℕ → ℕ → Bool) → ℕ → ℕ → ℕ → ℕ → Bool
with_shared table a b = with_row table a (λ x y. table a y && table b y)

-- each key but b has which keys it reaches once a and b are one
abbrev pub ReachesAfter : List ℕ → List ℕ → List ℕ → ℕ → ℕ → ℕ → Type 0
ReachesAfter keys old new w a b = (x y : ℕ) → In x keys → In y keys → x ≢ b → bit new w x y ≡ reach_after (λ k. k) (bit old w) a b x y

-- what a key reaches reaches no other key that it does not reach
abbrev pub Onward : List ℕ → (ℕ → ℕ → Bool) → Type 0
Onward keys table = (x y z : ℕ) → In x keys → In y keys → In z keys → table x y ≡ true → table y z ≡ true → table x z ≡ true

-- each row has what it reaches by one step and on
abbrev pub IsFilled : (ℕ → ℕ → Bool) → List ℕ → ℕ → Type 0
IsFilled deps rows w = AreBits rows w (by_step deps (bit rows w) w)

-- row 0 has the keys alone
abbrev pub HasLive : List ℕ → ℕ → List ℕ → Type 0
HasLive rows w keys = (z : ℕ) → z < columns w → bit rows w 0 z ≡ has keys z

-- a table's other rows are another's columns
abbrev pub IsTurned : List ℕ → List ℕ → ℕ → Type 0
IsTurned rows turned w = (x y : ℕ) → x < w → 0 < y → y < w → bit turned w y x ≡ bit rows w x y

-- once b is part of a, no block reaches itself
abbrev pub NoLoopsAfter : List ℕ → ℕ → List ℕ → ℕ → ℕ → Type 0
NoLoopsAfter reaches w keys a b = (x : ℕ) → In x keys → x ≢ b → reach_after (λ k. k) (bit reaches w) a b x x ≡ false

-- of the blocks that stand by their keys: which these are, what reaches each, that none reaches itself, and that what is reached leads on
pub record TellsWays (keys reaches reached : List ℕ) (w : ℕ) : Type 0 where
  pub live : (z : ℕ) → z < columns w → bit reached w 0 z ≡ has keys z
  pub turned : (x y : ℕ) → In x keys → In y keys → bit reached w y x ≡ bit reaches w x y
  pub loopless : (x : ℕ) → In x keys → bit reaches w x x ≡ false
  pub onward : Onward keys (bit reaches w)

-- a pair, if its two may be merged and save more than what was found; else what was found
abbrev pub better_pair : List Bool → List ℕ → List ℕ → ℕ → List ℕ → Option (ℕ × ℕ) → ℕ → ℕ → Option (ℕ × ℕ)
better_pair fuses reaches saved w keys found x y = cond (may_merge (flag fuses w) (bit reaches w) keys (x, y) && saves_more (amount saved w) found x y) (Some (x, y)) found

-- the best pair of one with each of others, after what was found before
abbrev pub best_in_row : List Bool → List ℕ → List ℕ → ℕ → List ℕ → Option (ℕ × ℕ) → ℕ → List ℕ → Option (ℕ × ℕ)
best_in_row fuses reaches saved w keys before x others = best_after (λ (p : ℕ × ℕ). amount saved w p.0 p.1) (may_merge (flag fuses w) (bit reaches w) keys) before (row_pairs x others)

-- two keys of blocks that stand, of which the tables tell
abbrev pub AreTold : List ℕ → List ℕ → ℕ → List ℕ → ℕ → ℕ → Type 0
AreTold reaches reached w keys a b = All (λ k. k < w) keys × TellsWays keys reaches reached w × In a keys × In b keys

-- whether the tables say that two may be merged
abbrev pub merges : List Bool → List ℕ → ℕ → List ℕ → ℕ → ℕ → Bool
merges fuses reaches w keys a b = may_merge (flag fuses w) (bit reaches w) keys (a, b)

-- an answer whether two may be merged, for whatever keys the tables tell of
abbrev pub SaysMerges : List Bool → List ℕ → List ℕ → ℕ → ℕ → ℕ → Bool → Type 0
SaysMerges fuses reaches reached w a b answer = (keys : List ℕ) → AreTold reaches reached w keys a b → answer ≡ merges fuses reaches w keys a b

-- so the better of two and of what was found
abbrev pub IsBetter : List Bool → List ℕ → List ℕ → List ℕ → ℕ → Option (ℕ × ℕ) → ℕ → ℕ → Option (ℕ × ℕ) → Type 0
IsBetter fuses reaches reached saved w found a b best = (keys : List ℕ) → AreTold reaches reached w keys a b → best ≡ better_pair fuses reaches saved w keys found a b

-- the best pair of the key at a place with each behind it, after what was found before
abbrev pub best_at : List Bool → List ℕ → List ℕ → ℕ → List ℕ → Option (ℕ × ℕ) → ℕ → Option (ℕ × ℕ)
best_at fuses reaches saved w keys before place = best_in_row fuses reaches saved w keys before (get_or keys place 0) (drop (place + 1) keys)

-- each pair of keys that may be merged saves no more than the bound of its row
abbrev pub Bounded : List Bool → List ℕ → List ℕ → ℕ → List (Option ℕ) → List ℕ → Type 0
Bounded fuses reaches saved w bounds keys =
    (p : ℕ × ℕ) → In p (pairs keys) → may_merge (flag fuses w) (bit reaches w) keys p ≡ true → covers (get_or bounds p.0 None) (amount saved w p.0 p.1) ≡ true
