-- A scan goes on from the result one row before.
use Rattle.std.proofs.Common.{◌≡◌, ℕ, ◌+◌, ◌-◌, ◌*◌, ◌/◌, ◌%◌, ◌≤◌, ◌<◌, suc, zero, ℤ, cond, refl, ap, ap₂, sym, ◌∙◌, arith}
use Rattle.std.proofs.Math.Nat.{add-mul-mod_self_left, add-mul-div_left, div-eq_of_lt, mod-eq_of_lt, div-add-mod}
use Rattle.std.proofs.lemmas.Bool.{ne_eqb}
use Rattle.std.specs.Prelude.{◌==◌}
use Rattle.arr_strips.specs.Columns.{fold_upto, lane_place, scan_at}
use Rattle.arr_strips.proofs.Folds.{Spot, upto_same}

module _ (n inner outer p : ℕ) (s : Spot n inner outer p) where
  abbrev row : ℕ
  row = p / inner

  -- one row before
  module _ (k : ℕ) (is : row % n ≡ suc k) where
    some : 0 < inner
    some = s.some

    back_place : (p - inner) + inner * 1 ≡ p
    back_place =
        let e : inner * row + p % inner ≡ p = div-add-mod p inner in
        let d : n * (row / n) + row % n ≡ row = div-add-mod row n in
        let one : 1 ≤ row = omega arith in
        let m : inner * 1 ≤ inner * row = grind (arith) in
        omega arith

    row_before : (p - inner) / inner + 1 ≡ row
    row_before = sym (add-mul-div_left (p - inner) 1 some) ∙ ap (λ q. q / inner) back_place

    column_before : (p - inner) % inner ≡ p % inner
    column_before = sym (add-mul-mod_self_left (p - inner) inner 1) ∙ ap (λ q. q % inner) back_place

    parts : (p - inner) / inner ≡ k + n * (row / n)
    parts = let d : n * (row / n) + row % n ≡ row = div-add-mod row n in let r : (p - inner) / inner + 1 ≡ row = row_before in omega arith

    along_before : (p - inner) / inner % n ≡ k
    along_before = ap (λ q. q % n) parts ∙ add-mul-mod_self_left k n (row / n) ∙ mod-eq_of_lt (let a = s.along in omega arith)

    lane_before : (p - inner) / inner / n ≡ row / n
    lane_before = ap (λ q. q / n) parts ∙ add-mul-div_left k (row / n) s.length_some ∙ (let u : k < n = (let a = s.along in omega arith) in let d : k / n ≡ 0 = div-eq_of_lt u in let e : k / n + row / n ≡ row / n = omega arith in e)

  pub scan_step : (f : ℤ → ℤ → ℤ) (z : ℤ) (col : ℕ → ℤ) → scan_at f z n inner col p ≡ f (cond (row % n == 0) z (scan_at f z n inner col (p - inner))) (col p)
  scan_step f z col =
      ap₂ f (from (row % n) refl) (ap col s.back)
    where
      from : (k : ℕ) → row % n ≡ k → fold_upto f z (λ j. col (lane_place n inner p j)) k ≡ cond (k == 0) z (scan_at f z n inner col (p - inner))
      from zero e = refl
      from (suc k) e =
          sym (ap (λ j. fold_upto f z (λ j. col (lane_place n inner (p - inner) j)) (suc j)) (along_before k e)
          ∙ upto_same f z (λ j. col (lane_place n inner (p - inner) j)) (λ j. col (lane_place n inner p j)) (suc k)
          (λ j l. ap₂ (λ a b. col ((a * n + j) * inner + b)) (lane_before k e) (column_before k e)))
          ∙ sym (ap (λ t. cond t z (scan_at f z n inner col (p - inner))) (ne_eqb (suc k) 0 (λ d. absurd (omega arith))))
