-- Numbers from their decimals, digit by digit.
use Rattle.std.proofs.Common.{◌≡◌, ℕ, zero, suc, ◌+◌, ◌-◌, ◌*◌, ◌%◌, ◌^◌, ◌<◌, ◌≤◌, List, [], ◌∷◌, ◌++◌, length, get_or, take, drop, refl, sym, ap, ◌∙◌, subst, arith, decimal}
use Rattle.std.specs.Char.{digit_value}
use Rattle.std.specs.Int.{IsInRange, IsOutOfRange}
use Rattle.std.specs.Str.Parse.{AllDigits, digits_value, digits_value_after}
use Rattle.std.proofs.lemmas.Fmt.{decimal_is_IsNumeral, decimal_injective, decimal_nonempty, decimal_digit, decimal_step, first_decimal}
use Rattle.std.proofs.lemmas.List.{take_more, take_all}
use Rattle.std.proofs.lemmas.Nat.{div-mul-add, mod-mul-add}
use Rattle.std.proofs.lemmas.Str.{digit_value_digit}
use Rattle.std.proofs.lemmas.Str.Parse.{digit_from_value}
use Rattle.std.proofs.Math.Seq.{drop-cons}
use Rattle.arr_cert.specs.Spelled.{DecimalOf}

-- ---- what a decimal looks like

pub all_digits : (n : ℕ) (text : List ℕ) → n < 2 ^ 64 → text ≡ decimal n → AllDigits 10 text
all_digits n text s e = subst (AllDigits 10) (sym e) (decimal_is_IsNumeral n s).0.1

pub digit_at : (text : List ℕ) (i : ℕ) → AllDigits 10 text → i < length text → digit_value (get_or text i 0) < 10
digit_at [] i p l = absurd (omega (arith, l))
digit_at (b ∷ bs) zero p l = p.0
digit_at (b ∷ bs) (suc i) p l = digit_at bs i p.1 (omega (arith, l))

after_le : (v : ℕ) (ds : List ℕ) → v ≤ digits_value_after 10 v ds
after_le v [] = omega arith
after_le v (d ∷ ds) = omega (arith, after_le (v * 10 + digit_value d) ds)

-- ---- where no number is read

pub none_empty : (most n : ℕ) (text : List ℕ) → most < 2 ^ 64 → length text ≡ 0 → DecimalOf most text n → ⊥
none_empty most n text m z d = omega (arith, decimal_nonempty n (omega (arith, m, d.within)), ap length d.same, z)

pub none_digit : (most n i : ℕ) (text : List ℕ) → most < 2 ^ 64 → i < length text → IsOutOfRange 48 57 (get_or text i 0) → DecimalOf most text n → ⊥
none_digit most n i text m l h d =
    let r = digit_from_value (get_or text i 0) (digit_at text i (all_digits n text (omega (arith, m, d.within)) d.same) l) in
    omega (arith, r.0, r.1, h)

pub none_zero : (most n : ℕ) (text : List ℕ) → most < 2 ^ 64 → 1 < length text → get_or text 0 0 ≡ 48 → DecimalOf most text n → ⊥
none_zero most zero text m l z d = omega (arith, l, ap length (d.same ∙ decimal_digit 0 (omega arith)))
none_zero most (suc n) text m l z d = omega (arith, first_decimal (suc n) (omega arith) (omega (arith, m, d.within)), ap (λ t. get_or t 0 0) d.same, z)

pub none_over : (most n v b : ℕ) (text bs : List ℕ) → most < 2 ^ 64 → digits_value_after 10 v (b ∷ bs) ≡ digits_value 10 text → 2 ^ 64 ≤ v * 10 + digit_value b → DecimalOf most text n → ⊥
none_over most n v b text bs m e o d =
    let s : n < 2 ^ 64 = omega (arith, m, d.within) in
    let worth : digits_value 10 text ≡ n = ap (digits_value 10) d.same ∙ (decimal_is_IsNumeral n s).1 in
    omega (arith, after_le (v * 10 + digit_value b) bs, e, worth, o, s)

pub none_more : (most n v : ℕ) (text : List ℕ) → most < 2 ^ 64 → v < 2 ^ 64 → most < v → decimal v ≡ text → DecimalOf most text n → ⊥
none_more most n v text m s o e d = omega (arith, o, d.within, decimal_injective v n s (omega (arith, m, d.within)) (e ∙ d.same))

-- ---- one digit after another

pub others_at : (text others : List ℕ) (f i : ℕ) → text ≡ f ∷ others → get_or text (i + 1) 0 ≡ get_or others i 0
others_at text others f i e = let next : i + 1 ≡ suc i = omega arith in ap (λ k. get_or text k 0) next ∙ ap (λ t. get_or t (suc i) 0) e

pub first_step : (v b : ℕ) (bs text : List ℕ) → v ≡ b - 48 → text ≡ b ∷ bs → IsInRange 48 57 b → decimal v ≡ take 1 text
first_step v b bs text e f r =
    decimal_digit v (omega (arith, e, r.0, r.1)) ∙ (ap (λ x. x ∷ []) (omega (arith, e, r.0, r.1)) ∙ ap (take 1) (sym f))

more_step : (v i b : ℕ) (text : List ℕ) → decimal v ≡ take (i + 1) text → i + 1 < length text → get_or text (i + 1) 0 ≡ b → IsInRange 48 57 b → 1 ≤ v → v * 10 + (b - 48) < 2 ^ 64
    → decimal (v * 10 + (b - 48)) ≡ take (i + 1 + 1) text
more_step v i b text e l at r one s =
    let d = b - 48 in
    let small : d < 10 = omega (arith, r.0, r.1) in
    let byte : 48 + d ≡ b = omega (arith, r.0, r.1) in
    decimal_step (v * 10 + d) (omega (arith, one)) s
    ∙ (ap (λ x. decimal x ++ ((48 + (v * 10 + d) % 10) ∷ [])) (div-mul-add v 10 d small)
    ∙ (ap (λ x. decimal v ++ ((48 + x) ∷ [])) (mod-mul-add v 10 d small)
    ∙ (ap (λ x. decimal v ++ (x ∷ [])) (byte ∙ sym at) ∙ (ap (λ t. t ++ (get_or text (i + 1) 0 ∷ [])) e ∙ sym (take_more text (i + 1) 0 l)))))

worth_step : (v i b : ℕ) (bs text : List ℕ) → digits_value_after 10 v (drop i bs) ≡ digits_value 10 text → i < length bs → get_or bs i 0 ≡ b → IsInRange 48 57 b
    → digits_value_after 10 (v * 10 + (b - 48)) (drop (i + 1) bs) ≡ digits_value 10 text
worth_step v i b bs text e l at r =
    let next : i + 1 ≡ suc i = omega arith in
    let same : v * 10 + (b - 48) ≡ v * 10 + digit_value (get_or bs i 0) = omega (arith, r.0, digit_value_digit b r, ap digit_value at) in
    ap (λ x. digits_value_after 10 x (drop (i + 1) bs)) same ∙ (ap (λ k. digits_value_after 10 (v * 10 + digit_value (get_or bs i 0)) (drop k bs)) next ∙ (ap (digits_value_after 10 v) (sym (drop-cons bs i 0 l)) ∙ e))

-- what the loop keeps of the digits so far
pub record Reads (v i : ℕ) (bs text : List ℕ) : Type 0 where
  pub spells : decimal v ≡ take (i + 1) text
  pub plain : 1 < length text → 1 ≤ v
  pub worth : digits_value_after 10 v (drop i bs) ≡ digits_value 10 text
  pub fits : v < 2 ^ 64

pub begins : (v b : ℕ) (bs text : List ℕ) → v ≡ b - 48 → text ≡ b ∷ bs → IsInRange 48 57 b → (1 < length text → 1 ≤ v) → Reads v 0 bs text
begins v b bs text e f r p =
    let same : v ≡ 0 * 10 + digit_value b = omega (arith, e, r.0, digit_value_digit b r) in
    record { spells = first_step v b bs text e f r; plain = p; worth = ap (λ x. digits_value_after 10 x bs) same ∙ ap (digits_value 10) (sym f); fits = omega (arith, e, r.1) }

pub goes_on : (v w i f : ℕ) (bs text : List ℕ) → Reads v i bs text → text ≡ f ∷ bs → i < length bs → IsInRange 48 57 (get_or bs i 0) → w ≡ v * 10 + (get_or bs i 0 - 48) → w < 2 ^ 64 → Reads w (i + 1) bs text
goes_on v w i f bs text reads e l r is s =
    let long : length text ≡ suc (length bs) = ap length e in
    let one : 1 ≤ v = reads.plain (omega (arith, long, l)) in
    let small : v * 10 + (get_or bs i 0 - 48) < 2 ^ 64 = omega (arith, is, s) in
    record {
      spells = ap decimal is ∙ more_step v i (get_or bs i 0) text reads.spells (omega (arith, long, l)) (others_at text bs f i e) r one small;
      plain = λ _. omega (arith, is, one);
      worth = ap (λ x. digits_value_after 10 x (drop (i + 1) bs)) is ∙ worth_step v i (get_or bs i 0) bs text reads.worth l refl r;
      fits = s;
    }

-- the number is too wide
pub stops : (most n v i : ℕ) (bs text : List ℕ) → most < 2 ^ 64 → Reads v i bs text → i < length bs → IsInRange 48 57 (get_or bs i 0) → 2 ^ 64 ≤ v * 10 + (get_or bs i 0 - 48) → DecimalOf most text n → ⊥
stops most n v i bs text m reads l r o d =
    let b = get_or bs i 0 in
    none_over most n v b text (drop (suc i) bs) m (ap (digits_value_after 10 v) (sym (drop-cons bs i 0 l)) ∙ reads.worth) (omega (arith, o, r.0, digit_value_digit b r)) d

pub ends : (v i : ℕ) (bs text : List ℕ) → Reads v i bs text → length bs + 1 ≡ length text → length bs ≤ i → decimal v ≡ text
ends v i bs text reads e l = reads.spells ∙ take_all (i + 1) text (omega (arith, e, l))
