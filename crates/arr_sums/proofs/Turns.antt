-- One number more of a fold.
use Rattle.std.proofs.Common.{◌≡◌, ◌≢◌, ℕ, suc, ◌+◌, ◌<◌, ℤ, List, true, false, refl, ap, sym, ◌∙◌, arith, length, set}
use Rattle.std.proofs.lemmas.Bool.{eqb-true, eqb-false}
use Rattle.std.specs.Prelude.{◌==◌}
use Rattle.arr_native.specs.Entries.{entry}
use Rattle.arr_native.proofs.Entries.{entry_set_same, entry_set_other}
use Rattle.arr_strips.specs.Columns.{fold_upto}

pub upto_more : (f : ℤ → ℤ → ℤ) (z : ℤ) (g : ℕ → ℤ) (i : ℕ) → fold_upto f z g (i + 1) ≡ f (fold_upto f z g i) (g i)
upto_more f z g i = ap (fold_upto f z g) (let e : i + 1 ≡ suc i = omega arith in e)

-- places from one on, filled one after another
pub record RunDone {T : Type 0} (f : T → ℤ) (wanted : ℕ → ℤ) (old : List T) (at i : ℕ) (now : List T) : Type 0 where
  pub each : (j : ℕ) → j < i → entry f now (at + j) ≡ wanted j
  pub before : (l : ℕ) → l < at → entry f now l ≡ entry f old l

pub run_begins : {T : Type 0} (f : T → ℤ) (wanted : ℕ → ℤ) (old : List T) (at : ℕ) → RunDone f wanted old at 0 old
run_begins f wanted old at = record { each = λ j u. absurd (omega arith); before = λ l u. refl }

pub run_more : {T : Type 0} (f : T → ℤ) (wanted : ℕ → ℤ) (old now : List T) (at i : ℕ) (r : T) → at + i < length now → f r ≡ wanted i
    → RunDone f wanted old at i now → RunDone f wanted old at (i + 1) (set now (at + i) r)
run_more f wanted old now at i r there is h =
    record {
      each = λ j u. elim (j == i) as (λ d. (j == i) ≡ d → entry f (set now (at + i) r) (at + j) ≡ wanted j) [
        | true ↦ λ d.
            let e : j ≡ i = eqb-true j i d in
            ap (λ k. entry f (set now (at + i) r) (at + k)) e ∙ entry_set_same f now (at + i) r there ∙ is ∙ ap wanted (sym e)
        | false ↦ λ d.
            let ne : j ≢ i = eqb-false j i d in
            entry_set_other f now (at + i) (at + j) r (λ e. ne (let k : j ≡ i = omega arith in k)) ∙ h.each j (omega arith)
      ] refl;
      before = λ l u. entry_set_other f now (at + i) l r (λ e. absurd (omega arith)) ∙ h.before l u;
    }
