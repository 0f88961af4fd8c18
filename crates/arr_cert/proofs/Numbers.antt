-- Numbers in decimal, each behind a sign.
use Rattle.std.proofs.Common.{◌≡◌, ◌≢◌, ℕ, ◌+◌, ◌-◌, ◌^◌, ◌<◌, ◌≤◌, List, [], ◌∷◌, ◌++◌, length, get_or, take, drop, true, not, ◌&&◌, refl, ap, ◌∙◌, arith, decimal}
use Rattle.std.specs.Prelude.{nat_lt}
use Rattle.std.specs.Char.{digit_value}
use Rattle.std.specs.List.{before_first}
use Rattle.std.specs.Str.Parse.{AllDigits}
use Rattle.std.proofs.lemmas.Bool.{and_parts, and_from, ltb-true, lt-ltb, ne_eqb}
use Rattle.std.proofs.lemmas.Fmt.{decimal_is_IsNumeral}
use Rattle.std.proofs.lemmas.List.{take_all, length-drop}
use Rattle.std.proofs.lemmas.List.Folds.{length-prefix_len}
use Rattle.arr_cert.specs.Spelled.{DecimalOf, NumbersOf, are_narrow, is_sign}
use Rattle.arr_cert.proofs.Joined.{Each, IsJoined, Listed, is_free, none_sign, none_part, listed_more, listed_all}

abbrev pub Narrow : ℕ → Type 0
Narrow n = n < 2 ^ 32

-- ---- digits have no sign among them

pub digits_free : (sign : ℕ) (ds : List ℕ) → 10 ≤ digit_value sign → AllDigits 10 ds → is_free sign ds ≡ true
digits_free sign [] s p = refl
digits_free sign (d ∷ ds) s p =
    let other : d ≢ sign = λ e. omega (arith, p.0, s, ap digit_value e) in
    ap (λ b. not b && is_free sign ds) (ne_eqb d sign other) ∙ digits_free sign ds s p.1

pub decimal_free : (sign n : ℕ) → 10 ≤ digit_value sign → n < 2 ^ 64 → is_free sign (decimal n) ≡ true
decimal_free sign n s l = digits_free sign (decimal n) s (decimal_is_IsNumeral n l).0.1

pub narrow_free : (sign : ℕ) → 10 ≤ digit_value sign → (n : ℕ) → Narrow n → is_free sign (decimal n) ≡ true
narrow_free sign s n l = decimal_free sign n s (omega (arith, l))

-- ---- the two ways to say it

pub each_narrow : (ns : List ℕ) → Each Narrow ns → are_narrow ns ≡ true
each_narrow [] e = refl
each_narrow (n ∷ ns) e = and_from (nat_lt n (2 ^ 32)) (are_narrow ns) (lt-ltb n (2 ^ 32) e.0) (each_narrow ns e.1)

pub narrow_each : (ns : List ℕ) → are_narrow ns ≡ true → Each Narrow ns
narrow_each [] e = tt
narrow_each (n ∷ ns) e = let p = and_parts (nat_lt n (2 ^ 32)) (are_narrow ns) e in (ltb-true n (2 ^ 32) p.0, narrow_each ns p.1)

pub joins : (sign : ℕ) (text ns : List ℕ) → NumbersOf sign text ns → IsJoined sign decimal Narrow text ns
joins sign text ns n = record { same = n.same; each = narrow_each ns n.narrow }

-- ---- one turn of the loop

pub wrong_sign : (sign : ℕ) (text : List ℕ) (at : ℕ) (ns : List ℕ) → 10 ≤ digit_value sign → Listed sign decimal Narrow text at ns → at < length text → get_or text at 0 ≢ sign → (ms : List ℕ) → NumbersOf sign text ms → ⊥
wrong_sign sign text at ns s listed l n ms m = none_sign sign decimal Narrow text at ns (narrow_free sign s) listed l n ms (joins sign text ms m)

pub wrong_number : (sign : ℕ) (text : List ℕ) (at : ℕ) (ns : List ℕ) → 10 ≤ digit_value sign → Listed sign decimal Narrow text at ns → at < length text
    → ((n : ℕ) → DecimalOf (2 ^ 32 - 1) (before_first (is_sign sign) (drop (at + 1) text)) n → ⊥) → (ms : List ℕ) → NumbersOf sign text ms → ⊥
wrong_number sign text at ns s listed l none ms m =
    none_part sign decimal Narrow text at ns (narrow_free sign s) listed l (λ n p e. none n (record { same = e; within = omega (arith, p) })) ms (joins sign text ms m)

pub more_numbers : (sign : ℕ) (text : List ℕ) (at to : ℕ) (ns : List ℕ) (n : ℕ) → 10 ≤ digit_value sign → Listed sign decimal Narrow text at ns → at < length text → get_or text at 0 ≡ sign
    → DecimalOf (2 ^ 32 - 1) (before_first (is_sign sign) (drop (at + 1) text)) n → to ≡ at + 1 + length (before_first (is_sign sign) (drop (at + 1) text)) → Listed sign decimal Narrow text to (ns ++ n ∷ [])
more_numbers sign text at to ns n s listed l is d e = listed_more sign decimal Narrow text at to ns n (narrow_free sign s) listed l is d.same e (omega (arith, d.within))

pub all_numbers : (sign : ℕ) (text : List ℕ) (at : ℕ) (ns : List ℕ) → Listed sign decimal Narrow text at ns → length text ≤ at → NumbersOf sign text ns
all_numbers sign text at ns listed l = let j = listed_all sign decimal Narrow text at ns listed l in record { same = j.same; narrow = each_narrow ns j.each }

-- ---- cuts of a text

-- the text from a place on
pub rest_is : (start : ℕ) (text : List ℕ) → take (length text - start) (drop start text) ≡ drop start text
rest_is start text = take_all (length text - start) (drop start text) (omega (arith, length-drop start text))

-- what is counted from a place on
pub counted : (sign start k : ℕ) (text : List ℕ) → k ≡ length (before_first (is_sign sign) (take (length text - start) (drop start text))) → k ≡ length (before_first (is_sign sign) (drop start text))
counted sign start k text e = e ∙ ap (λ t. length (before_first (is_sign sign) t)) (rest_is start text)

pub cut_front : (sign k : ℕ) (text : List ℕ) → k ≡ length (before_first (is_sign sign) text) → take k text ≡ before_first (is_sign sign) text
cut_front sign k text e = ap (λ n. take n text) (e ∙ length-prefix_len (λ b. not (is_sign sign b)) text)

-- a cut of the text that ends before the next sign
pub cut_is : (sign start k : ℕ) (text : List ℕ) → k ≡ length (before_first (is_sign sign) (drop start text)) → take (start + k - start) (drop start text) ≡ before_first (is_sign sign) (drop start text)
cut_is sign start k text e = ap (λ n. take n (drop start text)) (omega arith) ∙ cut_front sign k (drop start text) e

-- the same, where the text from a place on is cut
pub tail_cut : (sign start k : ℕ) (text : List ℕ) → k ≡ length (before_first (is_sign sign) (take (length text - start) (drop start text)))
    → take k (take (length text - start) (drop start text)) ≡ before_first (is_sign sign) (drop start text)
tail_cut sign start k text e = cut_front sign k (take (length text - start) (drop start text)) e ∙ ap (before_first (is_sign sign)) (rest_is start text)

pub tail_rest : (start k : ℕ) (text : List ℕ) → take (length (take (length text - start) (drop start text)) - k) (drop k (take (length text - start) (drop start text))) ≡ drop k (drop start text)
tail_rest start k text = rest_is k (take (length text - start) (drop start text)) ∙ ap (drop k) (rest_is start text)
