-- A part of a row, in the accumulators.
use Rattle.std.proofs.Common.{◌≡◌, ℕ, ◌+◌, ◌-◌, ◌*◌, ◌/◌, ◌%◌, ◌≤◌, ◌<◌, suc, ℤ, true, false, refl, ap, ap₂, sym, ◌∙◌, arith}
use Rattle.std.proofs.lemmas.Bool.{ltb-true, ltb-false}
use Rattle.std.specs.Prelude.{nat_lt}
use Rattle.arr_strips.specs.Sums.{lane_number, gathered}
use Rattle.arr_strips.proofs.Folds.{Spot, spot_of}
use Rattle.arr_strips.proofs.Sums.{run_each, run_other}

-- the accumulators of a run are there
pub run_inside : (n inner outer p c : ℕ) → 1 ≤ inner → p % inner + c ≤ inner → p < outer * (n * inner) → p / inner / n * inner + p % inner + c ≤ outer * inner
run_inside n inner outer p c some fits inside =
    let s : Spot n inner outer p = spot_of n inner outer p inside in
    let up : suc (p / inner / n) ≤ outer = (let l = s.lane_of in omega arith) in
    let most : suc (p / inner / n) * inner ≤ outer * inner = grind (arith) in
    let t : suc (p / inner / n) * inner ≡ p / inner / n * inner + inner = omega arith in
    omega arith

pub run_gathers : (f : ℤ → ℤ → ℤ) (z : ℤ) (n inner : ℕ) (xs : ℕ → ℤ) (size : ℕ) (old new source : ℕ → ℤ) (from p c : ℕ) → 1 ≤ inner → p % inner + c ≤ inner
    → ((j : ℕ) → j < c → new (lane_number n inner p + j) ≡ f (old (lane_number n inner p + j)) (source (from + j)))
    → ((l : ℕ) → l < lane_number n inner p → new l ≡ old l)
    → ((l : ℕ) → lane_number n inner p + c ≤ l → new l ≡ old l)
    → ((l : ℕ) → l < size → old l ≡ gathered f z n inner xs p l) → ((j : ℕ) → j < c → source (from + j) ≡ xs (p + j))
    → (l : ℕ) → l < size → new l ≡ gathered f z n inner xs (p + c) l
run_gathers f z n inner xs size old new source from p c some fits each before behind was reads l inside =
    elim (nat_lt l (lane_number n inner p)) as (λ t. nat_lt l (lane_number n inner p) ≡ t → new l ≡ gathered f z n inner xs (p + c) l) [
      | true ↦ λ e.
          let low : l < lane_number n inner p = ltb-true l (lane_number n inner p) e in
          before l low ∙ was l inside ∙ sym (run_other f z n inner xs p c l some fits (λ j u d. absurd (omega arith)))
      | false ↦ λ e.
          let high : lane_number n inner p ≤ l = ltb-false l (lane_number n inner p) e in
          elim (nat_lt l (lane_number n inner p + c)) as (λ t. nat_lt l (lane_number n inner p + c) ≡ t → new l ≡ gathered f z n inner xs (p + c) l) [
            | true ↦ λ d.
                let low : l < lane_number n inner p + c = ltb-true l (lane_number n inner p + c) d in
                let j : ℕ = l - lane_number n inner p in
                let at : lane_number n inner p + j ≡ l = omega arith in
                let below : j < c = omega arith in
                ap (λ q. new q) (sym at) ∙ each j below
                ∙ ap₂ f (ap (λ q. old q) at ∙ was l inside ∙ ap (gathered f z n inner xs p) (sym at)) (reads j below)
                ∙ sym (run_each f z n inner xs p c j some fits below) ∙ ap (gathered f z n inner xs (p + c)) at
            | false ↦ λ d.
                let beyond : lane_number n inner p + c ≤ l = ltb-false l (lane_number n inner p + c) d in
                behind l beyond ∙ was l inside ∙ sym (run_other f z n inner xs p c l some fits (λ j u d. absurd (omega arith)))
          ] refl
    ] refl
