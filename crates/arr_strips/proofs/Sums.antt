-- Accumulators: by runs of a row, by segments of a lane, and at the end.
use Rattle.std.proofs.Common.{◌≡◌, ◌≢◌, ℕ, ◌+◌, ◌-◌, ◌*◌, ◌/◌, ◌%◌, ◌≤◌, ◌<◌, suc, zero, ℤ, pos, List, true, false, cond, refl, ap, ap₂, sym, ◌∙◌, subst, arith, map, length, get_or, take, drop}
use Rattle.std.proofs.Math.Nat.{div-lt_iff_lt-mul, div-add-mod, mod-lt, mul_assoc, add-mul-mod_self_left, add-mul-div_left, div-eq_of_lt, mod-eq_of_lt}
use Rattle.std.proofs.lemmas.Bool.{eq-eqb, ne_eqb, eqb-true, eqb-false}
use Rattle.std.proofs.lemmas.List.FromFn.{get_or-map-range_with_len}
use Rattle.std.specs.Prelude.{◌==◌}
use Rattle.std.specs.List.{range_with_len}
use Rattle.arr_view.specs.Views.{positions}
use Rattle.arr_num.specs.Numbers.{value, fold_start}
use Rattle.arr_ops.specs.declared.op.Op.{Op}
use Rattle.arr_ops.specs.Memory.{lengths_of, or_zero}
use Rattle.arr_ops.proofs.Lengths.{positions_at}
use Rattle.arr_strips.specs.Columns.{Columns, taken, fold_upto, results_at}
use Rattle.arr_strips.specs.Sums.{lane_number, gathered, gathered_by}
use Rattle.arr_strips.proofs.Folds.{upto_same, folded_at}

module _ (f : ℤ → ℤ → ℤ) (z : ℤ) (n inner : ℕ) (xs : ℕ → ℤ) where
  abbrev acc : ℕ → ℕ → ℤ
  acc p l = gathered f z n inner xs p l

  -- ---- positions that lie side by side in a row

  module _ (p c : ℕ) (some : 0 < inner) (fits : p % inner + c < inner) where
    there : p + c ≡ p % inner + c + inner * (p / inner)
    there = let e : inner * (p / inner) + p % inner ≡ p = div-add-mod p inner in omega arith

    same_row : (p + c) / inner ≡ p / inner
    same_row =
        ap (λ q. q / inner) there ∙ add-mul-div_left (p % inner + c) (p / inner) some
        ∙ (let d : (p % inner + c) / inner ≡ 0 = div-eq_of_lt fits in let e : (p % inner + c) / inner + p / inner ≡ p / inner = omega arith in e)

    column_on : (p + c) % inner ≡ p % inner + c
    column_on = ap (λ q. q % inner) there ∙ add-mul-mod_self_left (p % inner + c) inner (p / inner) ∙ mod-eq_of_lt fits

    pub number_on : lane_number n inner (p + c) ≡ lane_number n inner p + c
    number_on =
        ap₂ (λ a b. a / n * inner + b) same_row column_on
        ∙ (let e : p / inner / n * inner + (p % inner + c) ≡ p / inner / n * inner + p % inner + c = omega arith in e)

  -- one position more
  step_other : (p l : ℕ) → lane_number n inner p ≢ l → acc (suc p) l ≡ acc p l
  step_other p l ne = ap (λ t. cond t (f (acc p l) (xs p)) (acc p l)) (ne_eqb (lane_number n inner p) l ne)

  step_same : (p l : ℕ) → lane_number n inner p ≡ l → acc (suc p) l ≡ f (acc p l) (xs p)
  step_same p l e = ap (λ t. cond t (f (acc p l) (xs p)) (acc p l)) (eq-eqb (lane_number n inner p) l e)

  -- a run of a row leaves alone what it does not go into
  pub run_other : (p c l : ℕ) → 0 < inner → p % inner + c ≤ inner → ((j : ℕ) → j < c → lane_number n inner p + j ≢ l) → acc (p + c) l ≡ acc p l
  run_other p zero l some fits away = ap (λ q. acc q l) (let e : p + 0 ≡ p = omega arith in e)
  run_other p (suc c) l some fits away =
      ap (λ q. acc q l) (let e : p + suc c ≡ suc (p + c) = omega arith in e)
      ∙ step_other (p + c) l (λ e. away c (omega arith) (sym (number_on p c some (omega arith)) ∙ e))
      ∙ run_other p c l some (omega arith) (λ j u. away j (omega arith))

  -- and folds one number into each that it goes into
  pub run_each : (p c j : ℕ) → 0 < inner → p % inner + c ≤ inner → j < c → acc (p + c) (lane_number n inner p + j) ≡ f (acc p (lane_number n inner p + j)) (xs (p + j))
  run_each p zero j some fits l = absurd (omega arith)
  run_each p (suc c) j some fits l =
      ap (λ q. acc q (lane_number n inner p + j)) (let e : p + suc c ≡ suc (p + c) = omega arith in e)
      ∙ elim (j == c) as (λ t. (j == c) ≡ t → acc (suc (p + c)) (lane_number n inner p + j) ≡ f (acc p (lane_number n inner p + j)) (xs (p + j))) [
        | true ↦ λ e.
            let same : j ≡ c = eqb-true j c e in
            let here : lane_number n inner (p + c) ≡ lane_number n inner p + j = number_on p c some (omega arith) ∙ ap (λ q. lane_number n inner p + q) (sym same) in
            step_same (p + c) (lane_number n inner p + j) here
            ∙ ap₂ f (run_other p c (lane_number n inner p + j) some (omega arith) (λ k u d. absurd (omega arith))) (ap (λ q. xs (p + q)) (sym same))
        | false ↦ λ e.
            let ne : j ≢ c = eqb-false j c e in
            step_other (p + c) (lane_number n inner p + j) (λ d. let k : lane_number n inner (p + c) ≡ lane_number n inner p + c = number_on p c some (omega arith) in ne (omega arith))
            ∙ run_each p c j some (omega arith) (omega arith)
      ] refl

  -- ---- by rows

  module _ (o i : ℕ) (some : 0 < inner) (length_some : 0 < n) (col : i < inner) where
    abbrev g : ℕ → ℤ
    g j = xs ((o * n + j) * inner + i)

    row_zero : (r : ℕ) → (r * inner) % inner ≡ 0
    row_zero r = ap (λ q. q % inner) (let e : r * inner ≡ 0 + inner * r = omega arith in e) ∙ add-mul-mod_self_left 0 inner r ∙ mod-eq_of_lt some

    row_is : (r : ℕ) → (r * inner) / inner ≡ r
    row_is r =
        ap (λ q. q / inner) (let e : r * inner ≡ 0 + inner * r = omega arith in e) ∙ add-mul-div_left 0 r some
        ∙ (let d : 0 / inner ≡ 0 = div-eq_of_lt some in let e : 0 / inner + r ≡ r = omega arith in e)

    row_number : (r : ℕ) → lane_number n inner (r * inner) ≡ r / n * inner
    row_number r =
        ap₂ (λ a b. a / n * inner + b) (row_is r) (row_zero r) ∙ (let e : r / n * inner + 0 ≡ r / n * inner = omega arith in e)

    next_row : (r : ℕ) → suc r * inner ≡ r * inner + inner
    next_row r = let e : suc r * inner ≡ r * inner + inner = omega arith in e

    fits_row : (r : ℕ) → (r * inner) % inner + inner ≤ inner
    fits_row r = let e : (r * inner) % inner ≡ 0 = row_zero r in omega arith

    -- a row of the lane
    row_same : (r : ℕ) → r / n ≡ o → acc (suc r * inner) (o * inner + i) ≡ f (acc (r * inner) (o * inner + i)) (g (r % n))
    row_same r e =
        let number : lane_number n inner (r * inner) ≡ o * inner = row_number r ∙ ap (λ q. q * inner) e in
        let at : r * inner + i ≡ (o * n + r % n) * inner + i =
        ap (λ q. q * inner + i) (let d : n * (r / n) + r % n ≡ r = div-add-mod r n in let t : n * (r / n) ≡ o * n = ap (λ q. n * q) e ∙ (let s : n * o ≡ o * n = omega arith in s) in let b : r ≡ o * n + r % n = omega arith in b) in
        ap (λ q. acc q (o * inner + i)) (next_row r)
        ∙ ap (λ q. acc (r * inner + inner) (q + i)) (sym number)
        ∙ run_each (r * inner) inner i some (fits_row r) col
        ∙ ap₂ f (ap (λ q. acc (r * inner) (q + i)) number) (ap xs at)

    row_other : (r : ℕ) → r / n ≢ o → acc (suc r * inner) (o * inner + i) ≡ acc (r * inner) (o * inner + i)
    row_other r ne =
        ap (λ q. acc q (o * inner + i)) (next_row r)
        ∙ run_other (r * inner) inner (o * inner + i) some (fits_row r)
        (λ j u d.
        let number : lane_number n inner (r * inner) ≡ r / n * inner = row_number r in
        let meets : r / n * inner + j ≡ o * inner + i = omega arith in
        ne (same_lane (r / n) o j i u col meets))
      where
        same_lane : (a b j i : ℕ) → j < inner → i < inner → a * inner + j ≡ b * inner + i → a ≡ b
        same_lane a b j i u v e =
            let left : (j + inner * a) / inner ≡ j / inner + a = add-mul-div_left j a some in
            let right : (i + inner * b) / inner ≡ i / inner + b = add-mul-div_left i b some in
            let jz : j / inner ≡ 0 = div-eq_of_lt u in
            let iz : i / inner ≡ 0 = div-eq_of_lt v in
            let one : j + inner * a ≡ i + inner * b = omega arith in
            let whole : (j + inner * a) / inner ≡ (i + inner * b) / inner = ap (λ q. q / inner) one in
            omega arith

    -- after whole rows: the lane's numbers so far
    pub before : (r : ℕ) → r ≤ o * n → acc (r * inner) (o * inner + i) ≡ z
    before zero l = ap (λ q. acc q (o * inner + i)) (let e : 0 * inner ≡ 0 = omega arith in e)
    before (suc r) l =
        row_other r (λ e. let low : r / n < o = (div-lt_iff_lt-mul {k = n} {x = r} {y = o} length_some).1 (omega arith) in absurd (omega arith)) ∙ before r (omega arith)

    pub within : (k : ℕ) → k ≤ n → acc ((o * n + k) * inner) (o * inner + i) ≡ fold_upto f z g k
    within zero l = ap (λ q. acc (q * inner) (o * inner + i)) (let e : o * n + 0 ≡ o * n = omega arith in e) ∙ before (o * n) (omega arith)
    within (suc k) l =
        let turned : o * n + k ≡ k + n * o = omega arith in
        let lane : (o * n + k) / n ≡ o = ap (λ q. q / n) turned ∙ add-mul-div_left k o length_some ∙ (let d : k / n ≡ 0 = div-eq_of_lt (let u : k < n = omega arith in u) in let e : k / n + o ≡ o = omega arith in e) in
        let along : (o * n + k) % n ≡ k = ap (λ q. q % n) turned ∙ add-mul-mod_self_left k n o ∙ mod-eq_of_lt (let u : k < n = omega arith in u) in
        ap (λ q. acc (q * inner) (o * inner + i)) (let e : o * n + suc k ≡ suc (o * n + k) = omega arith in e)
        ∙ row_same (o * n + k) lane ∙ ap₂ f (within k (omega arith)) (ap g along)

    beyond : (k : ℕ) → acc ((o * n + n + k) * inner) (o * inner + i) ≡ fold_upto f z g n
    beyond zero = ap (λ q. acc (q * inner) (o * inner + i)) (let e : o * n + n + 0 ≡ o * n + n = omega arith in e) ∙ within n (omega arith)
    beyond (suc k) =
        ap (λ q. acc (q * inner) (o * inner + i)) (let e : o * n + n + suc k ≡ suc (o * n + n + k) = omega arith in e)
        ∙ row_other (o * n + n + k) (λ e. let low : o * n + n + k < suc o * n = (div-lt_iff_lt-mul {k = n} {x = o * n + n + k} {y = suc o} length_some).0 (omega arith) in let t : suc o * n ≡ o * n + n = omega arith in absurd (omega arith))
        ∙ beyond k

    -- at the end: the fold of the lane
    pub gathered_end : (outer : ℕ) → o < outer → acc (outer * n * inner) (o * inner + i) ≡ fold_upto f z g n
    gathered_end outer l =
        let most : suc o * n ≤ outer * n = (let u : suc o ≤ outer = omega arith in grind (arith)) in
        let t : suc o * n ≡ o * n + n = omega arith in
        ap (λ q. acc (q * inner) (o * inner + i)) (let e : outer * n ≡ o * n + n + (outer * n - (o * n + n)) = omega arith in e) ∙ beyond (outer * n - (o * n + n))

-- the first p numbers alone tell
pub gathered_same : (f : ℤ → ℤ → ℤ) (z : ℤ) (n inner : ℕ) (xs ys : ℕ → ℤ) (p l : ℕ) → ((q : ℕ) → q < p → xs q ≡ ys q) → gathered f z n inner xs p l ≡ gathered f z n inner ys p l
gathered_same f z n inner xs ys zero l e = refl
gathered_same f z n inner xs ys (suc p) l e =
    ap₂ (λ a b. cond (lane_number n inner p == l) (f a b) a) (gathered_same f z n inner xs ys p l (λ q u. e q (omega arith))) (e p (omega arith))

-- ---- along the last axis: segments of a lane

module _ (f : ℤ → ℤ → ℤ) (z : ℤ) (n : ℕ) (some : 0 < n) (xs : ℕ → ℤ) where
  last_number : (p : ℕ) → lane_number n 1 p ≡ p / n
  last_number p =
      let a : 1 * (p / 1) + p % 1 ≡ p = div-add-mod p 1 in
      let b : p % 1 < 1 = mod-lt p (omega arith) in
      ap₂ (λ x y. x / n * 1 + y) (let e : p / 1 ≡ p = omega arith in e) (let e : p % 1 ≡ 0 = omega arith in e) ∙ (let e : p / n * 1 + 0 ≡ p / n = omega arith in e)

  -- a segment goes into one accumulator, from what that holds
  pub segment_same : (p c : ℕ) → p % n + c ≤ n → gathered f z n 1 xs (p + c) (p / n) ≡ fold_upto f (gathered f z n 1 xs p (p / n)) (λ j. xs (p + j)) c
  segment_same p zero fits = ap (λ q. gathered f z n 1 xs q (p / n)) (let e : p + 0 ≡ p = omega arith in e)
  segment_same p (suc c) fits =
      ap (λ q. gathered f z n 1 xs q (p / n)) (let e : p + suc c ≡ suc (p + c) = omega arith in e)
      ∙ step_same f z n 1 xs (p + c) (p / n) (last_number (p + c) ∙ same_row f z n n xs p c some (omega arith))
      ∙ ap (λ y. f y (xs (p + c))) (segment_same p c (omega arith))

  pub segment_other : (p c l : ℕ) → p % n + c ≤ n → p / n ≢ l → gathered f z n 1 xs (p + c) l ≡ gathered f z n 1 xs p l
  segment_other p zero l fits ne = ap (λ q. gathered f z n 1 xs q l) (let e : p + 0 ≡ p = omega arith in e)
  segment_other p (suc c) l fits ne =
      ap (λ q. gathered f z n 1 xs q l) (let e : p + suc c ≡ suc (p + c) = omega arith in e)
      ∙ step_other f z n 1 xs (p + c) l (λ e. ne (sym (last_number (p + c) ∙ same_row f z n n xs p c some (omega arith)) ∙ e))
      ∙ segment_other p c l (omega arith) ne

  -- where a lane begins, its accumulator is fresh
  pub segment_fresh : (p : ℕ) → p % n ≡ 0 → gathered f z n 1 xs p (p / n) ≡ z
  segment_fresh p e =
      let d : n * (p / n) + p % n ≡ p = div-add-mod p n in
      let t : p / n * n ≡ n * (p / n) = omega arith in
      let one : 0 < 1 = omega arith in
      ap₂ (λ q l. gathered f z n 1 xs q l) (let k : p ≡ p * 1 = omega arith in k) (let k : p / n ≡ p / n * 1 + 0 = omega arith in k)
      ∙ before f z n 1 xs (p / n) 0 one some one p (omega arith)

-- ---- the results

inside_rows : (a b m i : ℕ) → a < b → i < m → a * m + i < b * m
inside_rows a b m i l u =
    let up : suc a ≤ b = omega arith in
    let most : suc a * m ≤ b * m = grind (arith) in
    let t : suc a * m ≡ a * m + m = omega arith in
    omega arith

-- after the walk each accumulator is the entry of the results
pub results_gathered : (count : ℕ) (op : Op) (h : Columns) → or_zero op.axis < length (lengths_of op.first) → positions (lengths_of op.first) ≡ count
    → (l : ℕ) → l < positions (take (or_zero op.axis) (lengths_of op.first)) * positions (drop (suc (or_zero op.axis)) (lengths_of op.first))
    → 0 < get_or (lengths_of op.first) (or_zero op.axis) 1 → get_or (results_at count op h) l (pos 0) ≡ gathered_by op h count l
results_gathered count op h inside size l below long =
    let lengths : List ℕ = lengths_of op.first in
    let axis : ℕ = or_zero op.axis in
    let n : ℕ = get_or lengths axis 1 in
    let inner : ℕ = positions (drop (suc axis) lengths) in
    let outer : ℕ = positions (take axis lengths) in
    let col : ℕ → ℤ = λ p. taken (h p) op.first in
    let some : 0 < inner = positive inner outer l below in
    let o : ℕ = l / inner in
    let i : ℕ = l % inner in
    let row : o < outer = (div-lt_iff_lt-mul {k = inner} {x = l} {y = outer} some).1 below in
    let column : i < inner = mod-lt l some in
    let back : l ≡ o * inner + i = (let d : inner * (l / inner) + l % inner ≡ l = div-add-mod l inner in let t : o * inner ≡ inner * (l / inner) = omega arith in omega arith) in
    let whole : count ≡ outer * n * inner = sym size ∙ positions_at lengths axis inside ∙ sym (mul_assoc outer n inner) in
    ap (λ q. get_or (results_at count op h) q (pos 0)) back
    ∙ folded_at (value op.code op.to) (fold_start op.code op.to) lengths axis (map col (range_with_len 0 count)) o i row column
    ∙ upto_same (value op.code op.to) (fold_start op.code op.to) (λ j. get_or (map col (range_with_len 0 count)) ((o * n + j) * inner + i) (pos 0)) (λ j. col ((o * n + j) * inner + i)) n
    (λ j u.
    let rows : o * n + j < outer * n = inside_rows o outer n j row u in
    let inside : (o * n + j) * inner + i < outer * n * inner = inside_rows (o * n + j) (outer * n) inner i rows column in
    get_or-map-range_with_len col 0 count ((o * n + j) * inner + i) ((o * n + j) * inner + i) (pos 0) (subst (λ k. (o * n + j) * inner + i < k) (sym whole) inside) (omega arith))
    ∙ sym (gathered_end (value op.code op.to) (fold_start op.code op.to) n inner col o i some long column outer row)
    ∙ ap₂ (λ p q. gathered (value op.code op.to) (fold_start op.code op.to) n inner col p q) (sym whole) (sym back)
  where
    positive : (inner outer l : ℕ) → l < outer * inner → 0 < inner
    positive zero outer l u = let e : outer * 0 ≡ 0 = omega arith in absurd (omega arith)
    positive (suc inner) outer l u = omega arith
