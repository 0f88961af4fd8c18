-- How the sum of an array is written.
use Rattle.std.specs.Prelude.{ℕ, suc, ℤ, pos, ◌+ℤ◌, List, [], ◌∷◌, ◌++◌, Option, None, Some, codes, decimal}
use Rattle.std.specs.Fmt.{signed_decimal}
use Rattle.arr_ops.specs.Memory.{Slot}
use Rattle.arr_listing.specs.Texts.{numbers_text, type_name}

-- the sum of whole numbers, wrapped into no type
abbrev pub plain_sum : List ℤ → ℤ
plain_sum [] = pos 0
plain_sum (n ∷ ns) = n +ℤ plain_sum ns

-- an array by its number: its type and its lengths, and on a line of its own the sum of its numbers
unfoldable pub total_text : ℕ → Slot → List ℕ
total_text number slot =
    codes "array " ++ decimal number ++ codes " " ++ type_name slot.elem ++ numbers_text slot.lengths ++ codes "\nsum " ++ signed_decimal (plain_sum slot.numbers) ++ codes "\n"

-- that of a slot, if it is there
abbrev pub shown_total : ℕ → Option Slot → List ℕ
shown_total number None = []
shown_total number (Some slot) = total_text number slot

-- those of arrays, the first having this number
abbrev pub totals_text : ℕ → List Slot → List ℕ
totals_text number [] = []
totals_text number (slot ∷ slots) = total_text number slot ++ totals_text (suc number) slots
