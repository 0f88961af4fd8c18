-- The numbers of a type, and the constants of the rules.
use Rattle.std.proofs.Common.{◌≡◌, ℕ, ◌-◌, ◌^◌, ◌%◌, ◌/◌, ◌≤◌, ◌<◌, suc, ℤ, pos, negsuc, true, refl, ap, ap₂, sym, ◌∙◌, arith}
use Rattle.std.proofs.lemmas.Bool.{false≢true, eqb-true, ltb-true}
use Rattle.std.proofs.lemmas.Int.{ints, clamps}
use Rattle.std.proofs.Math.Nat.{mod-eq_of_lt}
use Rattle.std.proofs.lemmas.Nat.{and_mask}
use Rattle.std.specs.Int.Bits.{or_zero_r, xor_zero_r, and_comm, or_comm, xor_comm}
use Rattle.std.proofs.lemmas.Nat.Bits.{same_from_bits, bit_at_or}
use Rattle.std.specs.Prelude.{◌≤ℤ◌, ◌+ℤ◌, ◌-ℤ◌, ◌*ℤ◌, bit_and, bit_or, bit_xor}
use Rattle.std.specs.Int.{int_max, int_min, int_shr}
use Rattle.arr_rewrite.specs.Rules.{neutral_right, neutral_left}
use Rattle.arr_num.specs.Numbers.{bits, size, upper, in_type, digits, wrap, ones, least, greatest, shift, whole, value}
use Rattle.arr_num.proofs.Wrapping.{size_more, digits_below, digits_wrap, wrap_by_digits, wrap_same, same_is}
use Rattle.arr_num.specs.declared.elem.Elem.{Elem}
use Rattle.arr_num.specs.declared.elem.Elem.TheVariants.{U8, I32, I64, U64}
use Rattle.arr_num.specs.declared.code.Code.{Code}
use Rattle.arr_num.specs.declared.code.Code.TheVariants.{Add, Subtract, Multiply, Divide, Maximum, Minimum, BitwiseAnd, BitwiseOr, BitwiseXor, LeftShift, RightShift, Identity}

-- ---- values

pub value_identity : (t : Elem) (x y : ℤ) → value Identity t x y ≡ wrap t x
unfolding value
value_identity t x y = refl

-- a value that is x already
pub kept : (t : Elem) (x z : ℤ) → in_type t x ≡ true → z ≡ x → wrap t z ≡ x
kept t x z h e = ap (wrap t) e ∙ wrap_same t x h

add_zero : (x : ℤ) → x +ℤ pos 0 ≡ x
add_zero x = omega (arith, ints)

zero_add : (x : ℤ) → pos 0 +ℤ x ≡ x
zero_add x = omega (arith, ints)

sub_zero : (x : ℤ) → x -ℤ pos 0 ≡ x
sub_zero x = omega (arith, ints)

mul_one : (x : ℤ) → x *ℤ pos 1 ≡ x
mul_one x = omega (arith, ints)

one_mul : (x : ℤ) → pos 1 *ℤ x ≡ x
one_mul x = omega (arith, ints)

pub digits_ones : (t : Elem) → digits t (ones t) ≡ size t - 1
digits_ones U8 = refl
digits_ones I32 = refl
digits_ones I64 = refl
digits_ones U64 = refl

pub digits_zero : (t : Elem) → digits t (pos 0) ≡ 0
digits_zero t = mod-eq_of_lt (size_more t)

-- a natural number made of x's digits
pub digits_kept : (t : Elem) (x : ℤ) (n : ℕ) → in_type t x ≡ true → n ≡ digits t x → wrap t (pos n) ≡ x
digits_kept t x n h e =
    let l : digits t x < size t = digits_below t x in
    wrap_by_digits t (pos n) x (ap (λ k. k % size t) e ∙ mod-eq_of_lt l) ∙ wrap_same t x h

and_all : (t : Elem) (x : ℤ) → bit_and (digits t x) (size t - 1) ≡ digits t x
and_all t x = and_mask (digits t x) (bits t) ∙ mod-eq_of_lt (digits_below t x)

pub least_least : (t : Elem) (x : ℤ) → in_type t x ≡ true → least t ≤ℤ x
least_least U8 (pos n) h = omega (arith, ints)
least_least U64 (pos n) h = omega (arith, ints)
least_least I32 (pos n) h = omega (arith, ints)
least_least I64 (pos n) h = omega (arith, ints)
least_least U8 (negsuc n) h = let a : n < 0 = ltb-true _ _ h in absurd (omega arith)
least_least U64 (negsuc n) h = let a : n < 0 = ltb-true _ _ h in absurd (omega arith)
least_least I32 (negsuc n) h = let a : n < 2 ^ 31 = ltb-true _ _ h in omega (arith, ints)
least_least I64 (negsuc n) h = let a : n < 2 ^ 63 = ltb-true _ _ h in omega (arith, ints)

pub greatest_greatest : (t : Elem) (x : ℤ) → in_type t x ≡ true → x ≤ℤ greatest t
greatest_greatest t (pos n) h = let a : n < upper t = ltb-true _ _ h in let b : n ≤ upper t - 1 = omega arith in omega (arith, ints)
greatest_greatest t (negsuc n) h = omega (arith, ints)

pub max_left : (x y : ℤ) → y ≤ℤ x → int_max x y ≡ x
max_left x y h = omega (arith, ints, clamps)

pub max_right : (x y : ℤ) → y ≤ℤ x → int_max y x ≡ x
max_right x y h = omega (arith, ints, clamps)

pub min_left : (x y : ℤ) → x ≤ℤ y → int_min x y ≡ x
min_left x y h = omega (arith, ints, clamps)

pub min_right : (x y : ℤ) → x ≤ℤ y → int_min y x ≡ x
min_right x y h = omega (arith, ints, clamps)

div_one : (x : ℤ) → whole Divide U8 x (pos 1) ≡ x
div_one (pos n) = ap pos (omega arith)
div_one (negsuc n) = let e : suc n / 1 ≡ suc n = omega arith in omega (arith, ints)

shr_none : (x : ℤ) → int_shr x 0 ≡ x
shr_none (pos n) = ap pos (omega arith)
shr_none (negsuc n) = ap negsuc (omega arith)

-- the second line of the table: a constant that gives the other operand
pub neutral_right_law : (code : Code) (t : Elem) (x c : ℤ) → in_type t x ≡ true → neutral_right code t c ≡ true → value code t x c ≡ x
unfolding value
neutral_right_law Add t x c h e = ap (λ z. wrap t (x +ℤ z)) (same_is c _ e) ∙ kept t x _ h (add_zero x)
neutral_right_law Subtract t x c h e = ap (λ z. wrap t (x -ℤ z)) (same_is c _ e) ∙ kept t x _ h (sub_zero x)
neutral_right_law Multiply t x c h e = ap (λ z. wrap t (x *ℤ z)) (same_is c _ e) ∙ kept t x _ h (mul_one x)
neutral_right_law Divide t x c h e = ap (λ z. wrap t (whole Divide t x z)) (same_is c _ e) ∙ kept t x _ h (div_one x)
neutral_right_law BitwiseAnd t x c h e = digits_kept t x _ h (ap (λ z. bit_and (digits t x) (digits t z)) (same_is c _ e) ∙ ap (bit_and (digits t x)) (digits_ones t) ∙ and_all t x)
neutral_right_law BitwiseOr t x c h e = digits_kept t x _ h (ap (λ z. bit_or (digits t x) (digits t z)) (same_is c _ e) ∙ ap (bit_or (digits t x)) (digits_zero t) ∙ or_zero_r (digits t x))
neutral_right_law BitwiseXor t x c h e = digits_kept t x _ h (ap (λ z. bit_xor (digits t x) (digits t z)) (same_is c _ e) ∙ ap (bit_xor (digits t x)) (digits_zero t) ∙ xor_zero_r (digits t x))
neutral_right_law LeftShift t x c h e = kept t x _ h (ap (λ k. x *ℤ pos (2 ^ k)) (eqb-true (shift t c) 0 e) ∙ mul_one x)
neutral_right_law RightShift t x c h e = kept t x _ h (ap (int_shr x) (eqb-true (shift t c) 0 e) ∙ shr_none x)
neutral_right_law Maximum t x c h e = ap (λ z. wrap t (int_max x z)) (same_is c _ e) ∙ kept t x _ h (max_left x (least t) (least_least t x h))
neutral_right_law Minimum t x c h e = ap (λ z. wrap t (int_min x z)) (same_is c _ e) ∙ kept t x _ h (min_left x (greatest t) (greatest_greatest t x h))
neutral_right_law _ t x c h e = absurd (false≢true e)

pub neutral_left_law : (code : Code) (t : Elem) (x c : ℤ) → in_type t x ≡ true → neutral_left code t c ≡ true → value code t c x ≡ x
unfolding value
neutral_left_law Add t x c h e = ap (λ z. wrap t (z +ℤ x)) (same_is c _ e) ∙ kept t x _ h (zero_add x)
neutral_left_law Multiply t x c h e = ap (λ z. wrap t (z *ℤ x)) (same_is c _ e) ∙ kept t x _ h (one_mul x)
neutral_left_law BitwiseAnd t x c h e = digits_kept t x _ h (and_comm (digits t c) (digits t x) ∙ ap (λ z. bit_and (digits t x) (digits t z)) (same_is c _ e) ∙ ap (bit_and (digits t x)) (digits_ones t) ∙ and_all t x)
neutral_left_law BitwiseOr t x c h e = digits_kept t x _ h (or_comm (digits t c) (digits t x) ∙ ap (λ z. bit_or (digits t x) (digits t z)) (same_is c _ e) ∙ ap (bit_or (digits t x)) (digits_zero t) ∙ or_zero_r (digits t x))
neutral_left_law BitwiseXor t x c h e = digits_kept t x _ h (xor_comm (digits t c) (digits t x) ∙ ap (λ z. bit_xor (digits t x) (digits t z)) (same_is c _ e) ∙ ap (bit_xor (digits t x)) (digits_zero t) ∙ xor_zero_r (digits t x))
neutral_left_law Maximum t x c h e = ap (λ z. wrap t (int_max z x)) (same_is c _ e) ∙ kept t x _ h (max_right x (least t) (least_least t x h))
neutral_left_law Minimum t x c h e = ap (λ z. wrap t (int_min z x)) (same_is c _ e) ∙ kept t x _ h (min_right x (greatest t) (greatest_greatest t x h))
neutral_left_law _ t x c h e = absurd (false≢true e)

-- ---- two constants join

pub or_assoc : (a b c : ℕ) → bit_or (bit_or a b) c ≡ bit_or a (bit_or b c)
or_assoc a b c = same_from_bits (bit_or (bit_or a b) c) (bit_or a (bit_or b c)) (λ i. omega (arith, bit_at_or (bit_or a b) c i, bit_at_or a b i, bit_at_or a (bit_or b c) i, bit_at_or b c i))

pub bits_join : (t : Elem) (f : ℕ → ℕ → ℕ) → ((a b : ℕ) → f a b % size t ≡ f (a % size t) (b % size t)) → ((a b c : ℕ) → f (f a b) c ≡ f a (f b c)) → (w d c : ℤ)
    → wrap t (pos (f (digits t (wrap t (pos (f (digits t w) (digits t d))))) (digits t c))) ≡ wrap t (pos (f (digits t w) (digits t (wrap t (pos (f (digits t d) (digits t c)))))))
bits_join t f below assoc w d c =
    ap (λ k. wrap t (pos (f k (digits t c)))) (one w d)
    ∙ ap (λ k. wrap t (pos k)) (assoc (digits t w) (digits t d) (digits t c))
    ∙ sym (ap (λ k. wrap t (pos (f (digits t w) k))) (one d c))
  where
    one : (x y : ℤ) → digits t (wrap t (pos (f (digits t x) (digits t y)))) ≡ f (digits t x) (digits t y)
    one x y =
        digits_wrap t (pos (f (digits t x) (digits t y))) ∙ below (digits t x) (digits t y)
        ∙ ap₂ f (mod-eq_of_lt (digits_below t x)) (mod-eq_of_lt (digits_below t y))
