-- The rows of Apart stand behind those of Same.
use Rattle.std.proofs.Common.{◌≡◌, ℕ, ◌+◌, ◌*◌, ◌/◌, ◌%◌, ◌<◌, ◌≤◌, List, Bool, true, false, get_or, take, drop, refl, ap, ◌∙◌, arith}
use Rattle.std.specs.Prelude.{◌==◌}
use Rattle.std.specs.Int.{bit_at}
use Rattle.std.proofs.lemmas.List.{get_or-take, get_or-drop}
use Rattle.std.proofs.Math.Nat.{mul-le-mul_right}
use Rattle.arr_law.specs.declared.fact.Fact.TheVariants.{Apart}
use Rattle.arr_law.specs.Facts.{Facts}
use Rattle.arr_state.specs.Rows.{AreApart, AreRowed, bit, row_of}

bit_one : (b : Bool) → (bit b == 1) ≡ b
bit_one true = refl
bit_one false = refl

-- a row ends before the next begins
inside : (n f g : ℕ) → f ≤ n → g ≤ n → f * (n / 64 + 1) + g / 64 < (n + 1) * (n / 64 + 1)
inside n f g lf lg = (let rows : f * (n / 64 + 1) ≤ n * (n / 64 + 1) = mul-le-mul_right (n / 64 + 1) lf in omega arith)

pub aparts : (n : ℕ) (test : ℕ → ℕ → Bool) (facts : Facts) (rows : List ℕ) (size : ℕ) → AreRowed n test rows facts → size ≡ (n + 1) * (n / 64 + 1) → AreApart n facts (take size (drop size rows))
aparts n test facts rows size r e f g lf lg =
    let at : ℕ = f * (n / 64 + 1) + g / 64 in
    let l : at < (n + 1) * (n / 64 + 1) = inside n f g lf lg in
    let within : at < size = omega arith in
    let there : get_or (take size (drop size rows)) at 0 ≡ get_or rows (size + at) 0 = get_or-take size (drop size rows) at 0 within ∙ get_or-drop size rows at 0 in
    let place : size + at ≡ (1 * (n + 1) + f) * (n / 64 + 1) + g / 64 = omega arith in
    ap (λ w. bit_at w (g % 64) == 1) (there ∙ ap (λ i. get_or rows i 0) place) ∙ ap (λ b. b == 1) (r.right 1 f g (omega arith) lf (omega arith)) ∙ bit_one (facts (Apart f g))

pub second_rows : (n : ℕ) → row_of n 1 0 ≡ (n + 1) * (n / 64 + 1)
second_rows n = ap (λ k. k * (n / 64 + 1)) (let e : 1 * (n + 1) + 0 ≡ n + 1 = omega arith in e)
