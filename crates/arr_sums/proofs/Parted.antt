-- What is carried, after a part of a lane.
use Rattle.std.proofs.Common.{◌≡◌, ℕ, ◌+◌, ◌-◌, ◌*◌, ◌/◌, ◌%◌, ◌≤◌, ◌<◌, suc, zero, ℤ, Bool, true, false, cond, refl, ap, sym, ◌∙◌, subst, arith}
use Rattle.std.proofs.Math.Nat.{mod-lt, div-add-mod}
use Rattle.std.proofs.lemmas.Bool.{eqb-false, ne_eqb}
use Rattle.std.specs.Prelude.{◌==◌}
use Rattle.arr_strips.specs.Columns.{fold_upto, scan_at}
use Rattle.arr_strips.proofs.Folds.{spot_of, upto_same}
use Rattle.arr_strips.proofs.Carries.{scan_step}
use Rattle.arr_sums.specs.Scanning.{Carried, ScansOn}
use Rattle.arr_sums.proofs.Rests.{column_on}

mod_one : (q : ℕ) → q % 1 ≡ 0
mod_one q = let l : q % 1 < 1 = mod-lt q (let o : 0 < 1 = omega arith in o) in omega arith

div_one : (q : ℕ) → q / 1 ≡ q
div_one q = let e : 1 * (q / 1) + q % 1 ≡ q = div-add-mod q 1 in let z : q % 1 ≡ 0 = mod_one q in omega arith

module _ (f : ℤ → ℤ → ℤ) (z : ℤ) (n outer : ℕ) (old : ℕ → ℤ) (p c : ℕ) (some : 1 ≤ n) (lane : p % n + c ≤ n) (inside : p + c ≤ outer * (n * 1)) (xs : ℕ → ℤ) (was : Carried f z n 1 xs p old) (first : ℤ)
    (begins : first ≡ cond (p % n == 0) z (old 0)) where
  -- a step of the lane
  step : (q : ℕ) → q < p + c → scan_at f z n 1 xs q ≡ f (cond (q % n == 0) z (scan_at f z n 1 xs (q - 1))) (xs q)
  step q l = scan_step n 1 outer q (spot_of n 1 outer q (omega arith)) f z xs ∙ ap (λ r. f (cond (r % n == 0) z (scan_at f z n 1 xs (q - 1))) (xs q)) (div_one q)

  starts : 0 < c → first ≡ cond (p % n == 0) z (scan_at f z n 1 xs (p - 1))
  starts l = begins ∙ at (p % n == 0) refl
    where
      at : (t : Bool) → (p % n == 0) ≡ t → cond t z (old 0) ≡ cond t z (scan_at f z n 1 xs (p - 1))
      at true e = refl
      at false e =
          let ne : p % n ≡ 0 → ⊥ = eqb-false (p % n) 0 e in
          let far : 1 ≤ p = at_least p ne in
          ap old (sym (mod_one (p - 1))) ∙ was (p - 1) (omega arith) (omega arith)
        where
          at_least : (k : ℕ) → (k % n ≡ 0 → ⊥) → 1 ≤ k
          at_least zero nz = absurd (nz (let m : 0 % n < n = mod-lt 0 (let o : 0 < n = omega arith in o) in let w : n * (0 / n) + 0 % n ≡ 0 = div-add-mod 0 n in omega arith))
          at_least (suc k) nz = omega arith

  so_far : (j : ℕ) → j < c → fold_upto f first (λ k. xs (p + k)) (suc j) ≡ scan_at f z n 1 xs (p + j)
  so_far zero l =
      ap (λ y. f y (xs (p + 0))) (starts l)
      ∙ ap (λ q. f (cond (q % n == 0) z (scan_at f z n 1 xs (q - 1))) (xs (p + 0))) (let e : p ≡ p + 0 = omega arith in e)
      ∙ sym (step (p + 0) (omega arith))
  so_far (suc j) l =
      let on : (p + suc j) % n ≡ p % n + suc j = column_on n p (suc j) (omega arith) (omega arith) in
      let other : ((p + suc j) % n == 0) ≡ false = ne_eqb ((p + suc j) % n) 0 (λ e. absurd (omega arith)) in
      ap (λ y. f y (xs (p + suc j))) (so_far j (omega arith) ∙ ap (scan_at f z n 1 xs) (let e : p + j ≡ p + suc j - 1 = omega arith in e))
      ∙ ap (λ t. f (cond t z (scan_at f z n 1 xs (p + suc j - 1))) (xs (p + suc j))) (sym other)
      ∙ sym (step (p + suc j) (omega arith))

lane_scans_one : (f : ℤ → ℤ → ℤ) (z : ℤ) (n outer : ℕ) (old new out source : ℕ → ℤ) (p from c : ℕ) (first : ℤ) → 1 ≤ n → 1 ≤ c → p % n + c ≤ n → p + c ≤ outer * (n * 1)
    → first ≡ cond (p % n == 0) z (old 0) → ((j : ℕ) → j < c → out (from + j) ≡ fold_upto f first (λ k. source (from + k)) (j + 1))
    → new 0 ≡ fold_upto f first (λ k. source (from + k)) c → ScansOn f z n 1 old new out source p from c
lane_scans_one f z n outer old new out source p from c first some run lane inside begins each last xs was reads = (
  (λ j l. each j l ∙ summed (j + 1) (omega arith) ∙ ap (fold_upto f first (λ k. xs (p + k))) (let e : j + 1 ≡ suc j = omega arith in e) ∙ so_far f z n outer old p c some lane inside xs was first begins j l),
  λ q l u.
      let e : q ≡ p + (c - 1) = omega arith in
      ap new (mod_one q) ∙ last ∙ summed c (omega arith) ∙ ap (fold_upto f first (λ k. xs (p + k))) (let e : c ≡ suc (c - 1) = omega arith in e)
      ∙ so_far f z n outer old p c some lane inside xs was first begins (c - 1) (omega arith) ∙ ap (scan_at f z n 1 xs) (sym e),
)
  where
    summed : (k : ℕ) → k ≤ c → fold_upto f first (λ k. source (from + k)) k ≡ fold_upto f first (λ k. xs (p + k)) k
    summed k l = upto_same f first (λ k. source (from + k)) (λ k. xs (p + k)) k (λ j u. reads j (omega arith))

pub lane_scans : (f : ℤ → ℤ → ℤ) (z : ℤ) (n inner outer : ℕ) (old new out source : ℕ → ℤ) (p from c : ℕ) (first : ℤ) → inner ≡ 1 → 1 ≤ n → 1 ≤ c → p % n + c ≤ n → p + c ≤ outer * (n * inner)
    → first ≡ cond (p % n == 0) z (old 0) → ((j : ℕ) → j < c → out (from + j) ≡ fold_upto f first (λ k. source (from + k)) (j + 1))
    → new 0 ≡ fold_upto f first (λ k. source (from + k)) c → ScansOn f z n inner old new out source p from c
lane_scans f z n inner outer old new out source p from c first one some run lane inside begins each last =
    subst (λ k. ScansOn f z n k old new out source p from c) (sym one)
    (lane_scans_one f z n outer old new out source p from c first some run lane (subst (λ k. p + c ≤ outer * (n * k)) one inside) begins each last)
