-- What is carried, after a part of a row.
use Rattle.std.proofs.Common.{◌≡◌, ℕ, ◌+◌, ◌-◌, ◌*◌, ◌/◌, ◌%◌, ◌≤◌, ◌<◌, suc, zero, ℤ, Bool, true, false, cond, refl, ap, ap₂, sym, ◌∙◌, ◌⊎◌, inl, inr, arith}
use Rattle.std.proofs.Math.Nat.{add-mul-mod_self_left, add-mul-div_left, div-eq_of_lt, mod-eq_of_lt, div-add-mod, mod-lt, le-mul_of_pos_right}
use Rattle.std.proofs.lemmas.Bool.{ltb-true, ltb-false, eqb-false}
use Rattle.std.specs.Prelude.{◌==◌, nat_lt}
use Rattle.arr_strips.specs.Columns.{scan_at}
use Rattle.arr_strips.proofs.Folds.{spot_of}
use Rattle.arr_strips.proofs.Carries.{scan_step}
use Rattle.arr_sums.specs.Scanning.{Carried, ScansOn}

-- a position of the same row
module _ (inner p j : ℕ) (some : 0 < inner) (fits : p % inner + j < inner) where
  on_there : p + j ≡ p % inner + j + inner * (p / inner)
  on_there = let e : inner * (p / inner) + p % inner ≡ p = div-add-mod p inner in omega arith

  same_row : (p + j) / inner ≡ p / inner
  same_row =
      ap (λ q. q / inner) on_there ∙ add-mul-div_left (p % inner + j) (p / inner) some
      ∙ (let d : (p % inner + j) / inner ≡ 0 = div-eq_of_lt fits in let e : (p % inner + j) / inner + p / inner ≡ p / inner = omega arith in e)

  pub column_on : (p + j) % inner ≡ p % inner + j
  column_on = ap (λ q. q % inner) on_there ∙ add-mul-mod_self_left (p % inner + j) inner (p / inner) ∙ mod-eq_of_lt fits

-- one row before
back_column : (inner q : ℕ) → 0 < inner → inner ≤ q → (q - inner) % inner ≡ q % inner
back_column inner q some l = sym (add-mul-mod_self_left (q - inner) inner 1) ∙ ap (λ k. k % inner) (let e : (q - inner) + inner * 1 ≡ q = omega arith in e)

-- a position that is not of the part, less than a row before its end, stands elsewhere in its row
elsewhere : (inner p c q : ℕ) → 0 < inner → p % inner + c ≤ inner → q < p → p + c ≤ q + inner → (q % inner < p % inner) ⊎ (p % inner + c ≤ q % inner)
elsewhere inner p c q some fits low high =
    elim (nat_lt (p % inner + (q + inner - p)) inner) as (λ t. nat_lt (p % inner + (q + inner - p)) inner ≡ t → (q % inner < p % inner) ⊎ (p % inner + c ≤ q % inner)) [
      | true ↦ λ t.
          let u : p % inner + (q + inner - p) < inner = ltb-true (p % inner + (q + inner - p)) inner t in
          let e : (p + (q + inner - p)) % inner ≡ p % inner + (q + inner - p) = column_on inner p (q + inner - p) some u in
          let f : q % inner ≡ p % inner + (q + inner - p) = around ∙ e in
          inr (let g : c ≤ q + inner - p = omega arith in omega arith)
      | false ↦ λ t.
          let u : inner ≤ p % inner + (q + inner - p) = ltb-false (p % inner + (q + inner - p)) inner t in
          let whole : inner * (p / inner) + p % inner ≡ p = div-add-mod p inner in
          let e : q ≡ p % inner + (q + inner - p) - inner + inner * (p / inner) = omega arith in
          let small : p % inner + (q + inner - p) - inner < inner = let m : p % inner < inner = mod-lt p some in omega arith in
          let f : q % inner ≡ p % inner + (q + inner - p) - inner = ap (λ k. k % inner) e ∙ add-mul-mod_self_left (p % inner + (q + inner - p) - inner) inner (p / inner) ∙ mod-eq_of_lt small in
          inl (omega arith)
    ] refl
  where
    around : q % inner ≡ (p + (q + inner - p)) % inner
    around = sym (add-mul-mod_self_left q inner 1) ∙ ap (λ k. k % inner) (let e : q + inner * 1 ≡ p + (q + inner - p) = omega arith in e)

pub row_scans : (f : ℤ → ℤ → ℤ) (z : ℤ) (n inner outer : ℕ) (old new source : ℕ → ℤ) (p from c : ℕ) → 1 ≤ inner → p % inner + c ≤ inner → p + c ≤ outer * (n * inner)
    → ((j : ℕ) → j < c → new (p % inner + j) ≡ f (cond (p / inner % n == 0) z (old (p % inner + j))) (source (from + j)))
    → ((l : ℕ) → l < p % inner → new l ≡ old l) → ((l : ℕ) → p % inner + c ≤ l → new l ≡ old l)
    → (xs : ℕ → ℤ) → Carried f z n inner xs p old → ((j : ℕ) → j < c → source (from + j) ≡ xs (p + j))
    → ((j : ℕ) → j < c → new (p % inner + j) ≡ scan_at f z n inner xs (p + j)) × Carried f z n inner xs (p + c) new
row_scans f z n inner outer old new source p from c some fits inside each before behind xs was reads = (here, carried)
  where
    positive : 0 < inner
    positive = omega arith

    here : (j : ℕ) → j < c → new (p % inner + j) ≡ scan_at f z n inner xs (p + j)
    here j u =
        each j u ∙ ap₂ f (from_before (p / inner % n == 0) refl) (reads j u)
        ∙ sym (scan_step n inner outer (p + j) (spot_of n inner outer (p + j) (omega arith)) f z xs
        ∙ ap (λ r. f (cond (r % n == 0) z (scan_at f z n inner xs (p + j - inner))) (xs (p + j))) (same_row inner p j positive (omega arith)))
      where
        from_before : (t : Bool) → (p / inner % n == 0) ≡ t → cond t z (old (p % inner + j)) ≡ cond t z (scan_at f z n inner xs (p + j - inner))
        from_before true e = refl
        from_before false e =
            let ne : p / inner % n ≡ 0 → ⊥ = eqb-false (p / inner % n) 0 e in
            let row : 1 ≤ p / inner = at_least (p / inner) ne in
            let whole : inner * (p / inner) + p % inner ≡ p = div-add-mod p inner in
            let some_row : 0 < p / inner = omega arith in
            let m : inner ≤ inner * (p / inner) = le-mul_of_pos_right {m = p / inner} inner some_row in
            let far : inner ≤ p = omega arith in
            ap old (sym (column_on inner p j positive (omega arith)) ∙ sym (back_column inner (p + j) positive (omega arith))) ∙ was (p + j - inner) (omega arith) (omega arith)
          where
            at_least : (k : ℕ) → (k % n ≡ 0 → ⊥) → 1 ≤ k
            at_least zero nz = absurd (nz zero_mod)
              where
                zero_mod : 0 % n ≡ 0
                zero_mod = let w : n * (0 / n) + 0 % n ≡ 0 = div-add-mod 0 n in omega arith
            at_least (suc k) nz = omega arith

    carried : Carried f z n inner xs (p + c) new
    carried q low high =
        elim (nat_lt q p) as (λ t. nat_lt q p ≡ t → new (q % inner) ≡ scan_at f z n inner xs q) [
          | true ↦ λ t.
              let u : q < p = ltb-true q p t in
              elim (elsewhere inner p c q positive fits u high) [
                | inl l ↦ before (q % inner) l ∙ was q u (omega arith)
                | inr l ↦ behind (q % inner) l ∙ was q u (omega arith)
              ]
          | false ↦ λ t.
              let u : p ≤ q = ltb-false q p t in
              let e : p + (q - p) ≡ q = omega arith in
              ap (λ k. new (k % inner)) (sym e) ∙ ap new (column_on inner p (q - p) positive (omega arith)) ∙ here (q - p) (omega arith) ∙ ap (scan_at f z n inner xs) e
        ] refl

-- ---- one part after another

pub scans_none : (f : ℤ → ℤ → ℤ) (z : ℤ) (n inner : ℕ) (old out source : ℕ → ℤ) (p from : ℕ) → ScansOn f z n inner old old out source p from 0
scans_none f z n inner old out source p from xs was reads =
    ((λ j u. absurd (omega arith)), λ q l u. was q (omega arith) (omega arith))

pub scans_more : (f : ℤ → ℤ → ℤ) (z : ℤ) (n inner : ℕ) (old now new out later source : ℕ → ℤ) (p done run : ℕ) → ((l : ℕ) → l < done → later l ≡ out l)
    → ScansOn f z n inner old now out source p 0 done → ScansOn f z n inner now new later source (p + done) done run → ScansOn f z n inner old new later source p 0 (done + run)
scans_more f z n inner old now new out later source p done run stays first second xs was reads =
    let one = first xs was (λ j v. reads j (omega arith)) in
    let two = second xs one.1 (λ j v.
    ap source (let e : done + j ≡ 0 + (done + j) = omega arith in e) ∙ reads (done + j) (omega arith) ∙ ap xs (let e : p + (done + j) ≡ p + done + j = omega arith in e)) in (
      (λ j u. elim (nat_lt j done) as (λ t. nat_lt j done ≡ t → later (0 + j) ≡ scan_at f z n inner xs (p + j)) [
        | true ↦ λ t. let l : j < done = ltb-true j done t in stays (0 + j) (omega arith) ∙ one.0 j l
        | false ↦ λ t. let l : done ≤ j = ltb-false j done t in
            ap later (let e : 0 + j ≡ done + (j - done) = omega arith in e) ∙ two.0 (j - done) (omega arith)
            ∙ ap (scan_at f z n inner xs) (let e : p + done + (j - done) ≡ p + j = omega arith in e)
      ] refl),
      λ q l u. two.1 q (omega arith) (omega arith),
    )
