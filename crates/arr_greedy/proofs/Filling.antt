-- Rows filled from the last to the first.
use Rattle.std.proofs.Common.{◌≡◌, ℕ, ◌+◌, ◌≤◌, ◌<◌, zero, suc, Bool, true, false, cond, ◌||◌, ◌&&◌, refl, ap, ap₂, sym, ◌∙◌, arith, inl, inr}
use Rattle.std.proofs.lemmas.Bool.{false≢true, eq-eqb, lt-ltb, ne_eqb, cases_eq, cases_lt}
use Rattle.std.specs.Prelude.{◌==◌, nat_eq, nat_lt}
use Rattle.arr_greedy.proofs.Cells.{less_more}
use Rattle.arr_greedy.specs.Fast.{any_below, by_step}

pub below_same : (s t : ℕ → Bool) (n : ℕ) → ((k : ℕ) → k < n → s k ≡ t k) → any_below s n ≡ any_below t n
below_same s t zero h = refl
below_same s t (suc n) h = ap₂ (λ p q. p || q) (below_same s t n (λ k l. h k (omega arith))) (h n (omega arith))

below_more : (s : ℕ → Bool) (n : ℕ) → any_below s (n + 1) ≡ (any_below s n || s n)
below_more s n = ap (any_below s) (let e : n + 1 ≡ suc n = omega arith in e)

-- o: the rows at first; l, n: before and after the other is taken
pub fill_step : (deps o l n : ℕ → ℕ → Bool) (w v row other : ℕ) (take : Bool) → row < w → other < w → ((x y : ℕ) → x < w → y < w → y ≤ x → deps x y ≡ false)
    → ((x y : ℕ) → x < w → y < v → l x y ≡ cond (x == row) (by_step deps o other x y) (o x y))
    → take ≡ deps row other
    → ((x y : ℕ) → x < w → y < v → n x y ≡ cond (x == row) (l row y || (take && (other == y || l other y))) (l x y))
    → (x y : ℕ) → x < w → y < v → n x y ≡ cond (x == row) (by_step deps o (other + 1) x y) (o x y)
fill_step deps o l n w v row other take rm om forward inv e put x y xm ym =
    elim (cases_eq x row) as (λ _. n x y ≡ cond (x == row) (by_step deps o (other + 1) x y) (o x y)) [
      | inl f ↦
          put x y xm ym ∙ ap (λ t. cond t (l row y || (take && (other == y || l other y))) (l x y)) (eq-eqb x row f)
          ∙ ap₂ (λ p q. p || q) (inv row y rm ym ∙ ap (λ t. cond t (by_step deps o other row y) (o row y)) (eq-eqb row row refl))
          (ap (λ t. t && (other == y || l other y)) e ∙ taken (deps row other) refl)
          ∙ sym (below_more (λ k. deps row k && (k == y || o k y)) other)
          ∙ sym (ap (λ t. cond t (by_step deps o (other + 1) x y) (o x y)) (eq-eqb x row f) ∙ ap (λ z. by_step deps o (other + 1) z y) f)
      | inr f ↦
          put x y xm ym ∙ ap (λ t. cond t (l row y || (take && (other == y || l other y))) (l x y)) (ne_eqb x row f)
          ∙ inv x y xm ym ∙ ap (λ t. cond t (by_step deps o other x y) (o x y)) (ne_eqb x row f)
          ∙ sym (ap (λ t. cond t (by_step deps o (other + 1) x y) (o x y)) (ne_eqb x row f))
    ]
  where
    taken : (t : Bool) → deps row other ≡ t → (t && (other == y || l other y)) ≡ (t && (other == y || o other y))
    taken false g = refl
    taken true g =
        ap (λ q. other == y || q) (inv other y om ym ∙ ap (λ t. cond t (by_step deps o other other y) (o other y)) (ne_eqb other row (λ h. false≢true (sym (forward row row rm rm (omega arith)) ∙ sym (ap (deps row) h) ∙ g))))

pub rows_step : (deps l n : ℕ → ℕ → Bool) (w v row back : ℕ) → row + back + 1 ≡ w → ((x y : ℕ) → x < w → y < w → y ≤ x → deps x y ≡ false)
    → ((x y : ℕ) → x < w → y < v → w ≤ x + back → l x y ≡ by_step deps l w x y)
    → ((x y : ℕ) → x < w → y < v → n x y ≡ cond (x == row) (by_step deps l w x y) (l x y))
    → (x y : ℕ) → x < w → y < v → w ≤ x + (back + 1) → n x y ≡ by_step deps n w x y
rows_step deps l n w v row back e forward filled put x y xm ym far =
    elim (cases_eq x row) as (λ _. n x y ≡ by_step deps n w x y) [
      | inl f ↦ put x y xm ym ∙ ap (λ t. cond t (by_step deps l w x y) (l x y)) (eq-eqb x row f) ∙ later
      | inr f ↦ put x y xm ym ∙ ap (λ t. cond t (by_step deps l w x y) (l x y)) (ne_eqb x row f) ∙ filled x y xm ym (omega arith) ∙ later
    ]
  where
    after : (k : ℕ) → k < w → (t : Bool) → deps x k ≡ t → (t && (k == y || l k y)) ≡ (t && (k == y || n k y))
    after k m false g = refl
    after k m true g =
        elim (cases_lt x k) as (λ _. (k == y || l k y) ≡ (k == y || n k y)) [
          | inl h ↦ ap (λ q. k == y || q) (sym (put k y m ym ∙ ap (λ t. cond t (by_step deps l w k y) (l k y)) (ne_eqb k row (λ z. absurd (omega arith)))))
          | inr h ↦ absurd (false≢true (sym (forward x k xm m h) ∙ g))
        ]

    later : by_step deps l w x y ≡ by_step deps n w x y
    later = below_same (λ k. deps x k && (k == y || l k y)) (λ k. deps x k && (k == y || n k y)) w (λ k m. after k m (deps x k) refl)

pub clear_step : (deps l n : ℕ → ℕ → Bool) (w v row back : ℕ) → row + back + 1 ≡ w → ((x y : ℕ) → x < w → y < v → x + back < w → l x y ≡ false)
    → ((x y : ℕ) → x < w → y < v → n x y ≡ cond (x == row) (by_step deps l w x y) (l x y))
    → (x y : ℕ) → x < w → y < v → x + (back + 1) < w → n x y ≡ false
clear_step deps l n w v row back e clear put x y xm ym low =
    put x y xm ym ∙ ap (λ t. cond t (by_step deps l w x y) (l x y)) (ne_eqb x row (λ f. absurd (omega arith))) ∙ clear x y xm ym (omega arith)

-- R: the rows; o: the other table at first; l, n: before and after one flag more of a row
pub turn_step : (R o l n : ℕ → ℕ → Bool) (w v row column : ℕ) (value : Bool) → 0 < column → value ≡ R row column
    → ((y x : ℕ) → y < w → x < v → l y x ≡ cond ((nat_eq row x && nat_lt 0 y) && nat_lt y column) (R x y) (o y x))
    → ((y x : ℕ) → y < w → x < v → n y x ≡ cond (y == column && x == row) value (l y x))
    → (y x : ℕ) → y < w → x < v → n y x ≡ cond ((nat_eq row x && nat_lt 0 y) && nat_lt y (column + 1)) (R x y) (o y x)
turn_step R o l n w v row column value pos e inv put y x ym xm =
    put y x ym xm
    ∙ elim (cases_eq y column) as (λ _. cond (y == column && x == row) value (l y x) ≡ cond ((nat_eq row x && nat_lt 0 y) && nat_lt y (column + 1)) (R x y) (o y x)) [
      | inl f ↦ elim (cases_eq x row) as (λ _. cond (y == column && x == row) value (l y x) ≡ cond ((nat_eq row x && nat_lt 0 y) && nat_lt y (column + 1)) (R x y) (o y x)) [
        | inl g ↦
            ap₂ (λ s t. cond (s && t) value (l y x)) (eq-eqb y column f) (eq-eqb x row g) ∙ e ∙ ap₂ R (sym g) (sym f)
            ∙ sym (ap₂ (λ s t. cond (s && t) (R x y) (o y x)) (ap₂ (λ s t. s && t) (eq-eqb row x (sym g)) (lt-ltb 0 y (omega arith))) (lt-ltb y (column + 1) (omega arith)))
        | inr g ↦
            ap₂ (λ s t. cond (s && t) value (l y x)) (eq-eqb y column f) (ne_eqb x row g) ∙ inv y x ym xm
            ∙ ap (λ s. cond ((s && nat_lt 0 y) && nat_lt y column) (R x y) (o y x)) (ne_eqb row x (λ z. g (sym z)))
            ∙ sym (ap (λ s. cond ((s && nat_lt 0 y) && nat_lt y (column + 1)) (R x y) (o y x)) (ne_eqb row x (λ z. g (sym z))))
      ]
      | inr f ↦
          ap (λ s. cond (s && x == row) value (l y x)) (ne_eqb y column f) ∙ inv y x ym xm
          ∙ ap (λ t. cond ((nat_eq row x && nat_lt 0 y) && t) (R x y) (o y x)) (sym (less_more y column f))
    ]
