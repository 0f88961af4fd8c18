-- A part of a lane, in the accumulators.
use Rattle.std.proofs.Common.{◌≡◌, ◌≢◌, ℕ, ◌+◌, ◌*◌, ◌/◌, ◌%◌, ◌≤◌, ◌<◌, ℤ, true, false, refl, ap, sym, ◌∙◌, subst, arith}
use Rattle.std.proofs.Math.Nat.{div-lt_iff_lt-mul}
use Rattle.std.proofs.lemmas.Bool.{eqb-true, eqb-false}
use Rattle.std.specs.Prelude.{◌==◌}
use Rattle.arr_strips.specs.Columns.{fold_upto}
use Rattle.arr_strips.specs.Sums.{gathered}
use Rattle.arr_sums.specs.Gathering.{Gathers}
use Rattle.arr_strips.proofs.Folds.{upto_same}
use Rattle.arr_strips.proofs.Sums.{segment_same, segment_other}

pub lane_inside : (n outer p : ℕ) → 1 ≤ n → p < outer * n → p / n < outer
lane_inside n outer p some inside = (div-lt_iff_lt-mul {k = n} {x = p} {y = outer} (let l : 0 < n = omega arith in l)).1 inside

pub segment_gathers : (f : ℤ → ℤ → ℤ) (z : ℤ) (n : ℕ) (xs : ℕ → ℤ) (size : ℕ) (old new source : ℕ → ℤ) (from p c : ℕ) → 1 ≤ n → p % n + c ≤ n → p / n < size
    → new (p / n) ≡ fold_upto f (old (p / n)) (λ j. source (from + j)) c
    → ((l : ℕ) → p / n ≢ l → new l ≡ old l)
    → ((l : ℕ) → l < size → old l ≡ gathered f z n 1 xs p l) → ((j : ℕ) → j < c → source (from + j) ≡ xs (p + j))
    → (l : ℕ) → l < size → new l ≡ gathered f z n 1 xs (p + c) l
segment_gathers f z n xs size old new source from p c some fits there lane others was reads l inside =
    let more : 0 < n = omega arith in
    elim (p / n == l) as (λ t. (p / n == l) ≡ t → new l ≡ gathered f z n 1 xs (p + c) l) [
      | true ↦ λ e.
          let same : p / n ≡ l = eqb-true (p / n) l e in
          ap (λ q. new q) (sym same) ∙ lane ∙ ap (λ y. fold_upto f y (λ j. source (from + j)) c) (was (p / n) there)
          ∙ upto_same f (gathered f z n 1 xs p (p / n)) (λ j. source (from + j)) (λ j. xs (p + j)) c reads
          ∙ sym (segment_same f z n more xs p c fits) ∙ ap (gathered f z n 1 xs (p + c)) same
      | false ↦ λ e.
          let ne : p / n ≢ l = eqb-false (p / n) l e in
          others l ne ∙ was l inside ∙ sym (segment_other f z n more xs p c l fits ne)
    ] refl

-- where the lane of a position stands, for an axis with nothing after it
pub lane_there : (n inner outer size p : ℕ) → inner ≡ 1 → 1 ≤ n → size ≡ outer * inner → p < outer * (n * inner) → p / n < size
lane_there n inner outer size p one some is inside =
    let a : outer * inner ≡ outer = ap (λ k. outer * k) one ∙ (let e : outer * 1 ≡ outer = omega arith in e) in
    let b : outer * (n * inner) ≡ outer * n = ap (λ k. outer * (n * k)) one ∙ ap (λ k. outer * k) (let e : n * 1 ≡ n = omega arith in e) in
    subst (λ k. p / n < k) (sym (is ∙ a)) (lane_inside n outer p some (subst (λ k. p < k) b inside))

pub lane_gathers : (f : ℤ → ℤ → ℤ) (n inner size : ℕ) (old new source : ℕ → ℤ) (p from c : ℕ) → inner ≡ 1 → 1 ≤ n → p % n + c ≤ n → p / n < size
    → new (p / n) ≡ fold_upto f (old (p / n)) (λ j. source (from + j)) c → ((l : ℕ) → p / n ≢ l → new l ≡ old l) → Gathers f n inner size old new source p from c
lane_gathers f n inner size old new source p from c one some fits there lane others =
    subst (λ k. Gathers f n k size old new source p from c) (sym one)
    (λ z xs was reads l inside. segment_gathers f z n xs size old new source from p c some fits there lane others was reads l inside)
