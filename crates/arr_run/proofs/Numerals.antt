-- A number from its digits.
use Rattle.std.proofs.Common.{◌≡◌, ◌&&◌, ℕ, ◌+◌, ◌-◌, ◌*◌, ◌<◌, ◌≤◌, List, [], ◌∷◌, length, drop, get_or, true, false, refl, ap, sym, ◌∙◌, arith, Some, None}
use Rattle.std.specs.Prelude.{Bool, if◌then◌else◌}
use Rattle.std.specs.Char.{digit_value}
use Rattle.std.specs.Int.{IsInRange}
use Rattle.std.specs.Str.{all_ascii_digits}
use Rattle.std.specs.Str.Parse.{digits_value, digits_value_after}
use Rattle.std.proofs.lemmas.Bool.{lt-leb}
use Rattle.std.proofs.lemmas.List.{drop_more}
use Rattle.std.proofs.lemmas.Str.{digit_value_digit}
use Rattle.arr_run.specs.Words.{is_number, number_up_to}

-- the digits in front of a place are read: these and those behind it are all, and the number so far is not too great
pub record Reading (most : ℕ) (digits : List ℕ) (i number : ℕ) : Type 0 where
  pub all : all_ascii_digits (drop i digits) ≡ all_ascii_digits digits
  pub value : digits_value_after 10 number (drop i digits) ≡ digits_value 10 digits
  pub low : number ≤ most

after_le : (n : ℕ) (ds : List ℕ) → n ≤ digits_value_after 10 n ds
after_le n [] = omega arith
after_le n (d ∷ ds) = let rest : n * 10 + digit_value d ≤ digits_value_after 10 (n * 10 + digit_value d) ds = after_le (n * 10 + digit_value d) ds in omega arith

too_great : (most : ℕ) (digits : List ℕ) → most < digits_value 10 digits → None ≡ number_up_to most digits
too_great most digits h =
    sym (ap (λ t. if is_number digits && t then Some (digits_value 10 digits) else None) (lt-leb (digits_value 10 digits) most h) ∙ none (is_number digits))
  where
    none : (b : Bool) → (if b && false then Some (digits_value 10 digits) else None) ≡ None
    none true = refl
    none false = refl

-- with one digit more it is too great
pub none_over : (most : ℕ) (digits : List ℕ) (i number : ℕ) → Reading most digits i number → i < length digits → IsInRange 48 57 (get_or digits i 0) → most < number * 10 + (get_or digits i 0 - 48) → None ≡ number_up_to most digits
none_over most digits i number r l range over =
    let d : ℕ = get_or digits i 0 in
    let same : number * 10 + (d - 48) ≡ number * 10 + digit_value d = let v = digit_value_digit d range in omega arith in
    let value : digits_value_after 10 (number * 10 + (d - 48)) (drop (i + 1) digits) ≡ digits_value 10 digits =
    ap (λ n. digits_value_after 10 n (drop (i + 1) digits)) same ∙ ap (digits_value_after 10 number) (sym (drop_more digits i 0 l)) ∙ r.value in
    let more : number * 10 + (d - 48) ≤ digits_value_after 10 (number * 10 + (d - 48)) (drop (i + 1) digits) = after_le (number * 10 + (d - 48)) (drop (i + 1) digits) in
    too_great most digits (omega arith)
