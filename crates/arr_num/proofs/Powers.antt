-- Powers by squares: what is kept on the way, on digits.
use Rattle.std.proofs.Common.{◌≡◌, ℕ, ◌+◌, ◌*◌, ◌^◌, ◌%◌, ◌/◌, ◌<◌, suc, zero, ℤ, pos, negsuc, Bool, true, false, cond, refl, ap, ap₂, sym, ◌∙◌, arith}
use Rattle.std.proofs.lemmas.Bool.{false≢true, eqb-true}
use Rattle.std.proofs.lemmas.Nat.{mul-mod_first, mul-mod_second, pow-mod, mul-pow, pow-add}
use Rattle.std.proofs.Math.Nat.{pow-succ', pow-zero, mod-eq_of_lt}
use Rattle.std.proofs.Math.IntN.{negsuc-*ℤ-pos, negsuc-*ℤ-negsuc, pos-*ℤ-pos, neg_ℤ}
use Rattle.std.specs.Int.{int_pow}
use Rattle.std.specs.Prelude.{◌*ℤ◌, ◌==◌}
use Rattle.arr_num.specs.Numbers.{size, digits, in_type, wrap}
use Rattle.arr_num.specs.declared.elem.Elem.{Elem}
use Rattle.arr_num.specs.declared.elem.Elem.TheVariants.{U8, I32, I64, U64}
use Rattle.arr_num.proofs.Wrapping.{digits_below, digits_wrap, wrap_by_digits, wrap_same}
use Rattle.arr_num.proofs.Products.{digits_multiply}

-- one more factor
turned : (a p : ℕ) (b : Bool) → cond b (neg_ℤ (pos (suc a * p))) (pos (suc a * p)) ≡ negsuc a *ℤ cond b (pos p) (neg_ℤ (pos p))
turned a p true = sym (negsuc-*ℤ-pos a p)
turned a zero false = ap pos (let e : suc a * 0 ≡ 0 = omega arith in e) ∙ sym (negsuc-*ℤ-pos a 0 ∙ ap (λ n. neg_ℤ (pos n)) (let e : suc a * 0 ≡ 0 = omega arith in e))
turned a (suc p) false = sym (negsuc-*ℤ-negsuc a p)

parity : (n : ℕ) → (suc n % 2 == 0) ≡ cond (n % 2 == 0) false true
parity n =
    elim (n % 2 == 0) as (λ b. (n % 2 == 0) ≡ b → (suc n % 2 == 0) ≡ cond b false true) [
      | true ↦ λ e. let z : n % 2 ≡ 0 = eqb-true (n % 2) 0 e in let o : suc n % 2 ≡ 1 = omega arith in ap (λ k. k == 0) o
      | false ↦ λ e. let z : n % 2 ≡ 1 = one (n % 2) (omega arith) e in let o : suc n % 2 ≡ 0 = omega arith in ap (λ k. k == 0) o
    ] refl
  where
    one : (k : ℕ) → k < 2 → (k == 0) ≡ false → k ≡ 1
    one zero l e = absurd (false≢true (sym e))
    one (suc zero) l e = refl
    one (suc (suc k)) l e = absurd (omega arith)

pub int_pow-suc : (z : ℤ) (n : ℕ) → int_pow z (suc n) ≡ z *ℤ int_pow z n
int_pow-suc (pos a) n = ap pos (pow-succ' a n) ∙ sym (pos-*ℤ-pos a (a ^ n))
int_pow-suc (negsuc a) n =
    ap (λ p. cond (suc n % 2 == 0) (pos p) (neg_ℤ (pos p))) (pow-succ' (suc a) n)
    ∙ ap (λ b. cond b (pos (suc a * suc a ^ n)) (neg_ℤ (pos (suc a * suc a ^ n)))) (parity n)
    ∙ flipped (n % 2 == 0) (pos (suc a * suc a ^ n)) (neg_ℤ (pos (suc a * suc a ^ n)))
    ∙ turned a (suc a ^ n) (n % 2 == 0)
  where
    flipped : (b : Bool) (x y : ℤ) → cond (cond b false true) x y ≡ cond b y x
    flipped true x y = refl
    flipped false x y = refl

int_pow-zero : (z : ℤ) → int_pow z 0 ≡ pos 1
int_pow-zero (pos a) = ap pos (pow-zero a)
int_pow-zero (negsuc a) = ap pos (pow-zero (suc a))

-- the digits of a power
pub digits_pow : (t : Elem) (z : ℤ) (n : ℕ) → digits t (int_pow z n) ≡ digits t z ^ n % size t
digits_pow t z zero = ap (digits t) (int_pow-zero z) ∙ ap (λ k. k % size t) (sym (pow-zero (digits t z)))
digits_pow t z (suc n) =
    ap (digits t) (int_pow-suc z n) ∙ digits_multiply t z (int_pow z n) ∙ ap (λ k. (digits t z * k) % size t) (digits_pow t z n)
    ∙ mul-mod_second (digits t z) (digits t z ^ n) (size t)
    ∙ ap (λ k. k % size t) (sym (pow-succ' (digits t z) n))

-- ---- the steps, on natural numbers modulo s

even_step : (d k : ℕ) → (d * d) ^ k ≡ d ^ (k + k)
even_step d k = mul-pow d d k ∙ sym (pow-add d k k)

-- what is left to multiply: the square stands in for the number twice
pub halved : (s p d rest : ℕ) → rest % 2 ≡ 0 → (p * (d * d % s) ^ (rest / 2)) % s ≡ (p * d ^ rest) % s
halved s p d rest e =
    sym (mul-mod_second p ((d * d % s) ^ (rest / 2)) s)
    ∙ ap (λ k. (p * k) % s) (pow-mod (d * d) (rest / 2) s ∙ ap (λ k. k % s) (even_step d (rest / 2) ∙ ap (λ k. d ^ k) (let h : rest / 2 + rest / 2 ≡ rest = omega arith in h)))
    ∙ mul-mod_second p (d ^ rest) s

pub taken : (s p d rest : ℕ) → rest % 2 ≡ 1 → ((p * d % s) * (d * d % s) ^ (rest / 2)) % s ≡ (p * d ^ rest) % s
taken s p d rest e =
    mul-mod_first (p * d) ((d * d % s) ^ (rest / 2)) s
    ∙ sym (mul-mod_second (p * d) ((d * d % s) ^ (rest / 2)) s)
    ∙ ap (λ k. (p * d * k) % s) (pow-mod (d * d) (rest / 2) s ∙ ap (λ k. k % s) (even_step d (rest / 2)))
    ∙ mul-mod_second (p * d) (d ^ (rest / 2 + rest / 2)) s
    ∙ ap (λ k. k % s) (grouped p d (d ^ (rest / 2 + rest / 2)) ∙ ap (λ k. p * k) (sym (pow-succ' d (rest / 2 + rest / 2)) ∙ ap (λ k. d ^ k) (let h : suc (rest / 2 + rest / 2) ≡ rest = omega arith in h)))
  where
    grouped : (a b c : ℕ) → a * b * c ≡ a * (b * c)
    grouped a b c = omega arith

-- nothing is left
pub finished : (t : Elem) (p z w : ℤ) (n : ℕ) → in_type t p ≡ true → (digits t p * digits t z ^ 0) % size t ≡ digits t w → p ≡ wrap t w
finished t p z w n h e =
    sym (wrap_same t p h)
    ∙ wrap_by_digits t p w (sym (mod-eq_of_lt (digits_below t p)) ∙ ap (λ k. k % size t) (sym (one (digits t p) (digits t z))) ∙ e)
  where
    one : (a b : ℕ) → a * b ^ 0 ≡ a
    one a b = ap (λ k. a * k) (pow-zero b) ∙ (let e : a * 1 ≡ a = omega arith in e)

-- nothing is multiplied yet
pub started : (t : Elem) (z : ℤ) (n : ℕ) → (1 % size t * digits t z ^ n) % size t ≡ digits t (int_pow z n)
started t z n =
    mul-mod_first 1 (digits t z ^ n) (size t) ∙ ap (λ k. k % size t) (let e : 1 * digits t z ^ n ≡ digits t z ^ n = omega arith in e)
    ∙ sym (digits_pow t z n)

pub one_inside : (t : Elem) → in_type t (pos 1) ≡ true
one_inside U8 = refl
one_inside I32 = refl
one_inside I64 = refl
one_inside U64 = refl

-- what stays the same over a round: p and d are the power and the square before it, q and f after it
abbrev pub Round : (t : Elem) (p d q f : ℤ) (rest : ℕ) → Type 0
Round t p d q f rest = (digits t q * digits t f ^ (rest / 2)) % size t ≡ (digits t p * digits t d ^ rest) % size t

pub odd_round : (t : Elem) (p d q f : ℤ) (rest : ℕ) → q ≡ wrap t (p *ℤ d) → f ≡ wrap t (d *ℤ d) → rest % 2 ≡ 1 → Round t p d q f rest
odd_round t p d q f rest e h o =
    ap₂ (λ a b. (a * b ^ (rest / 2)) % size t) (ap (digits t) e ∙ digits_wrap t (p *ℤ d) ∙ digits_multiply t p d) (ap (digits t) h ∙ digits_wrap t (d *ℤ d) ∙ digits_multiply t d d)
    ∙ taken (size t) (digits t p) (digits t d) rest o

pub even_round : (t : Elem) (p d q f : ℤ) (rest : ℕ) → q ≡ p → f ≡ wrap t (d *ℤ d) → rest % 2 ≡ 0 → Round t p d q f rest
even_round t p d q f rest e h o =
    ap₂ (λ a b. (a * b ^ (rest / 2)) % size t) (ap (digits t) e) (ap (digits t) h ∙ digits_wrap t (d *ℤ d) ∙ digits_multiply t d d)
    ∙ halved (size t) (digits t p) (digits t d) rest o
