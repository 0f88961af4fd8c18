-- Facts as rows of words: for each kind and each operation a bit for each other operation.
use Rattle.std.specs.Prelude.{◌≡◌, ◌==◌, ℕ, zero, suc, ◌+◌, ◌-◌, ◌*◌, ◌/◌, ◌%◌, ◌^◌, ◌<◌, ◌≤◌, Bool, cond, List, length, get_or, slice_set, bit_and, bit_or, bit_xor}
use Rattle.std.specs.Int.{bit_at}
use Rattle.arr_law.specs.declared.fact.Fact.{Fact}
use Rattle.arr_law.specs.declared.fact.Fact.TheVariants.{Same, Apart, Before}
use Rattle.arr_law.specs.Facts.{Facts}

abbrev pub bit : Bool → ℕ
bit b = cond b 1 0

-- where the row of an operation begins; there are six kinds of rows
abbrev pub row_of : ℕ → ℕ → ℕ → ℕ
row_of n p f = (p * (n + 1) + f) * (n / 64 + 1)

abbrev pub word_of : ℕ → ℕ → ℕ → ℕ → ℕ
word_of n p f g = row_of n p f + g / 64

-- how many words there are
abbrev pub all_words : ℕ → ℕ
all_words n = 6 * (n + 1) * (n / 64 + 1)

abbrev pub word_at : ℕ → List ℕ → ℕ → ℕ → ℕ → ℕ
word_at n rows p f i = get_or rows (row_of n p f + i) 0

-- a word with one bit set or cleared
abbrev pub put_in : ℕ → ℕ → Bool → ℕ
put_in old k value = cond value (bit_or old (1 * 2 ^ k % 2 ^ 64)) (bit_and old (2 ^ 64 - 1 - 1 * 2 ^ k % 2 ^ 64))

abbrev pub put : ℕ → ℕ → ℕ → ℕ → Bool → List ℕ → List ℕ
put n p f g value rows = slice_set rows (word_of n p f g) (put_in (get_or rows (word_of n p f g) 0) (g % 64) value)

abbrev pub rows_with : ℕ → Fact → Bool → List ℕ → List ℕ
rows_with n (Same f g) value rows = put n 0 g f value (put n 0 f g value rows)
rows_with n (Apart f g) value rows = put n 1 g f value (put n 1 f g value rows)
rows_with n (Before f g) value rows = put n 3 g f value (put n 2 f g value rows)

-- what the bit of a kind says of two operations: Same, Apart, Before, Before turned, a test of both, the test turned
abbrev pub said : (ℕ → ℕ → Bool) → Facts → ℕ → ℕ → ℕ → Bool
said test facts zero f g = facts (Same f g)
said test facts (suc zero) f g = facts (Apart f g)
said test facts (suc (suc zero)) f g = facts (Before f g)
said test facts (suc (suc (suc zero))) f g = facts (Before g f)
said test facts (suc (suc (suc (suc zero)))) f g = test f g
said test facts (suc (suc (suc (suc (suc p))))) f g = test g f

abbrev pub bit_of : ℕ → List ℕ → ℕ → ℕ → ℕ → ℕ
bit_of n rows p f g = bit_at (get_or rows (word_of n p f g) 0) (g % 64)

-- the rows of n operations say exactly these facts and this test
pub record AreRowed (n : ℕ) (test : ℕ → ℕ → Bool) (rows : List ℕ) (facts : Facts) : Type 0 where
  pub long : length rows ≡ all_words n
  pub right : (p f g : ℕ) → p < 6 → f ≤ n → g / 64 ≤ n / 64 → bit_of n rows p f g ≡ bit (said test facts p f g)

-- the bits of the first two that the third has not
abbrev pub sifted : ℕ → ℕ → ℕ → ℕ
sifted a b c = bit_and (bit_and a b) (bit_xor (bit_and a b) c)

-- rows of n operations, one behind another, say which two are apart
abbrev pub AreApart : ℕ → Facts → List ℕ → Type 0
AreApart n facts rows =
    (f g : ℕ) → f ≤ n → g ≤ n → (bit_at (get_or rows (f * (n / 64 + 1) + g / 64) 0) (g % 64) == 1) ≡ facts (Apart f g)
