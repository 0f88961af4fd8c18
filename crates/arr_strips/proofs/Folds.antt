-- Scans and reductions, number by number.
use Rattle.std.proofs.Common.{◌≡◌, ℕ, ◌+◌, ◌-◌, ◌*◌, ◌/◌, ◌%◌, ◌≤◌, ◌<◌, suc, zero, ℤ, pos, List, cond, refl, ap, ap₂, sym, ◌∙◌, subst, arith, map, length, get_or, take, drop, length-append}
use Rattle.std.proofs.Math.Nat.{div-lt_iff_lt-mul, div-add-mod, mod-lt, mul_assoc}
use Rattle.std.proofs.Math.ListN.{get_or-append}
use Rattle.std.proofs.lemmas.List.{length-map, get_or-append_right, take_all}
use Rattle.std.proofs.lemmas.List.Sums.{fold_more}
use Rattle.std.proofs.lemmas.List.FromFn.{get_or-map-range_with_len, length-range_with_len}
use Rattle.std.specs.Prelude.{◌==◌}
use Rattle.std.specs.List.{range_with_len, flat_map, fold}
use Rattle.arr_view.specs.Views.{positions}
use Rattle.arr_ops.specs.Memory.{lane, folded, scanned}
use Rattle.arr_ops.proofs.Lengths.{positions_at}
use Rattle.arr_strips.specs.Columns.{fold_upto, lane_place, scan_at}

-- ---- pieces of one length, one after another

module _ (g : ℕ → List ℤ) (len : ℕ) (long : (a : ℕ) → length (g a) ≡ len) where
  pub piece : (s m a r : ℕ) → a < m → r < len → get_or (flat_map g (range_with_len s m)) (a * len + r) (pos 0) ≡ get_or (g (s + a)) r (pos 0)
  piece s zero a r l k = absurd (omega arith)
  piece s (suc m) zero r l k =
      let d : length (g s) ≡ len = long s in
      let z : s + 0 ≡ s = omega arith in
      let start : 0 * len + r ≡ r = omega arith in
      ap (λ q. get_or (flat_map g (range_with_len s (suc m))) q (pos 0)) start
      ∙ get_or-append (g s) (flat_map g (range_with_len (s + 1) m)) (pos 0) r (omega arith) ∙ ap (λ b. get_or (g b) r (pos 0)) (sym z)
  piece s (suc m) (suc a) r l k =
      let d : length (g s) ≡ len = long s in
      let back : len + a * len + r - len ≡ a * len + r = omega arith in
      let up : s + 1 + a ≡ s + suc a = omega arith in
      let front : suc a * len + r ≡ len + a * len + r = omega arith in
      ap (λ q. get_or (flat_map g (range_with_len s (suc m))) q (pos 0)) front
      ∙ get_or-append_right (g s) (flat_map g (range_with_len (s + 1) m)) len (len + a * len + r) (pos 0) d (omega arith)
      ∙ ap (λ q. get_or (flat_map g (range_with_len (s + 1) m)) q (pos 0)) back
      ∙ piece (s + 1) m a r (omega arith) k ∙ ap (λ b. get_or (g b) r (pos 0)) up

  pub piece_of : (m a r : ℕ) → a < m → r < len → get_or (flat_map g (range_with_len 0 m)) (a * len + r) (pos 0) ≡ get_or (g a) r (pos 0)
  piece_of m a r l k = piece 0 m a r l k ∙ ap (λ b. get_or (g b) r (pos 0)) (let e : 0 + a ≡ a = omega arith in e)

-- ---- folds

pub upto_same : (f : ℤ → ℤ → ℤ) (z : ℤ) (g h : ℕ → ℤ) (k : ℕ) → ((j : ℕ) → j < k → g j ≡ h j) → fold_upto f z g k ≡ fold_upto f z h k
upto_same f z g h zero e = refl
upto_same f z g h (suc k) e = ap₂ f (upto_same f z g h k (λ j l. e j (omega arith))) (e k (omega arith))

pub fold_front : (f : ℤ → ℤ → ℤ) (z : ℤ) (xs : List ℤ) (k : ℕ) → k ≤ length xs → fold f z (take k xs) ≡ fold_upto f z (λ j. get_or xs j (pos 0)) k
fold_front f z xs zero l = refl
fold_front f z xs (suc k) l =
    ap (λ m. fold f z (take m xs)) (let e : suc k ≡ k + 1 = omega arith in e) ∙ fold_more f z xs k (pos 0) (omega arith)
    ∙ ap (λ y. f y (get_or xs k (pos 0))) (fold_front f z xs k (omega arith))

length-lane : (xs : List ℤ) (n inner o i : ℕ) → length (lane xs n inner o i) ≡ n
length-lane xs n inner o i = length-map (range_with_len 0 n) (λ k. get_or xs ((o * n + k) * inner + i) (pos 0)) ∙ length-range_with_len 0 n

lane_fold : (f : ℤ → ℤ → ℤ) (z : ℤ) (xs : List ℤ) (n inner o i k : ℕ) → k ≤ n → fold f z (take k (lane xs n inner o i)) ≡ fold_upto f z (λ j. get_or xs ((o * n + j) * inner + i) (pos 0)) k
lane_fold f z xs n inner o i k l =
    let d : length (lane xs n inner o i) ≡ n = length-lane xs n inner o i in
    fold_front f z (lane xs n inner o i) k (omega arith)
    ∙ upto_same f z (λ j. get_or (lane xs n inner o i) j (pos 0)) (λ j. get_or xs ((o * n + j) * inner + i) (pos 0)) k
    (λ j u. get_or-map-range_with_len (λ k. get_or xs ((o * n + k) * inner + i) (pos 0)) 0 n j j (pos 0) (omega arith) (let e : 0 + j ≡ j = omega arith in e))

-- ---- where a position stands along an axis

pub record Spot (n inner outer p : ℕ) : Type 0 where
  pub some : 0 < inner
  pub length_some : 0 < n
  pub lane_of : p / inner / n < outer
  pub along : p / inner % n < n
  pub column : p % inner < inner
  pub back : (p / inner / n * n + p / inner % n) * inner + p % inner ≡ p
  pub row : p / inner / n * n + p / inner % n ≡ p / inner

pub spot_of : (n inner outer p : ℕ) → p < outer * (n * inner) → Spot n inner outer p
spot_of n inner outer p l =
    let whole : outer * (n * inner) ≡ outer * n * inner = sym (mul_assoc outer n inner) in
    let l2 : p < outer * n * inner = subst (λ k. p < k) whole l in
    let some : 0 < inner = positive inner outer n l in
    let row_low : p / inner < outer * n = (div-lt_iff_lt-mul {k = inner} {x = p} {y = outer * n} some).1 l2 in
    let length_some : 0 < n = positive_middle n outer row_low in
    let rows : n * (p / inner / n) + p / inner % n ≡ p / inner = div-add-mod (p / inner) n in
    let cols : inner * (p / inner) + p % inner ≡ p = div-add-mod p inner in
    let turned : p / inner / n * n ≡ n * (p / inner / n) = omega arith in
    let row : p / inner / n * n + p / inner % n ≡ p / inner = omega arith in
    record {
      some = some;
      length_some = length_some;
      lane_of = (div-lt_iff_lt-mul {k = n} {x = p / inner} {y = outer} length_some).1 row_low;
      along = mod-lt (p / inner) length_some;
      column = mod-lt p some;
      back = ap (λ q. q * inner + p % inner) row ∙ (let t : p / inner * inner ≡ inner * (p / inner) = omega arith in omega arith);
      row = row;
    }
  where
    positive : (inner outer n : ℕ) → p < outer * (n * inner) → 0 < inner
    positive zero outer n l = let a : n * 0 ≡ 0 = omega arith in let b : outer * (n * 0) ≡ outer * 0 = ap (λ k. outer * k) a in absurd (omega arith)
    positive (suc inner) outer n l = omega arith

    positive_middle : (n outer : ℕ) → p / inner < outer * n → 0 < n
    positive_middle zero outer l = absurd (omega arith)
    positive_middle (suc n) outer l = omega arith

-- places of a lane come before its position
pub lane_before : (n inner outer p j : ℕ) → Spot n inner outer p → j ≤ p / inner % n → lane_place n inner p j ≤ p
lane_before n inner outer p j s l =
    let q : ℕ = p / inner / n * n in
    let low : q + j ≤ q + p / inner % n = omega arith in
    let e : (q + p / inner % n) * inner + p % inner ≡ p = s.back in
    let m : (q + j) * inner ≤ (q + p / inner % n) * inner = grind (arith) in
    omega arith

-- ---- the lists of results, entry by entry

pub scanned_at : (f : ℤ → ℤ → ℤ) (z : ℤ) (lengths : List ℕ) (axis : ℕ) (xs : List ℤ) (col : ℕ → ℤ) (p : ℕ) → axis < length lengths → p < positions lengths
    → ((q : ℕ) → q ≤ p → get_or xs q (pos 0) ≡ col q)
    → get_or (scanned f z lengths axis xs) p (pos 0) ≡ scan_at f z (get_or lengths axis 1) (positions (drop (suc axis) lengths)) col p
scanned_at f z lengths axis xs col p a l h =
    let n : ℕ = get_or lengths axis 1 in
    let inner : ℕ = positions (drop (suc axis) lengths) in
    let outer : ℕ = positions (take axis lengths) in
    let s : Spot n inner outer p = spot_of n inner outer p (subst (λ k. p < k) (positions_at lengths axis a) l) in
    let o : ℕ = p / inner / n in
    let k : ℕ = p / inner % n in
    let i : ℕ = p % inner in
    let rows : ℕ → ℕ → List ℤ = λ o k. map (λ i. fold f z (take (suc k) (lane xs n inner o i))) (range_with_len 0 inner) in
    let row_long : (o k : ℕ) → length (rows o k) ≡ inner = λ o k. length-map (range_with_len 0 inner) (λ i. fold f z (take (suc k) (lane xs n inner o i))) ∙ length-range_with_len 0 inner in
    let block : ℕ → List ℤ = λ o. flat_map (λ k. rows o k) (range_with_len 0 n) in
    let block_long : (o : ℕ) → length (block o) ≡ n * inner = λ o. length-pieces (λ k. rows o k) inner (row_long o) 0 n in
    let here : o * (n * inner) + (k * inner + i) ≡ p = (let t : o * (n * inner) ≡ o * n * inner = sym (mul_assoc o n inner) in let b = s.back in grind (arith)) in
    let inside : k * inner + i < n * inner = (let x = s.along in let y = s.column in grind (arith)) in
    ap (λ q. get_or (flat_map block (range_with_len 0 outer)) q (pos 0)) (sym here)
    ∙ piece_of block (n * inner) block_long outer o (k * inner + i) s.lane_of inside
    ∙ piece_of (λ k. rows o k) inner (row_long o) n k i s.along s.column
    ∙ get_or-map-range_with_len (λ i. fold f z (take (suc k) (lane xs n inner o i))) 0 inner i i (pos 0) s.column (let e : 0 + i ≡ i = omega arith in e)
    ∙ lane_fold f z xs n inner o i (suc k) (let x = s.along in omega arith)
    ∙ upto_same f z (λ j. get_or xs ((o * n + j) * inner + i) (pos 0)) (λ j. col ((o * n + j) * inner + i)) (suc k)
    (λ j u. h ((o * n + j) * inner + i) (lane_before n inner outer p j s (omega arith)))
  where
    length-pieces : (g : ℕ → List ℤ) (len : ℕ) → ((a : ℕ) → length (g a) ≡ len) → (s m : ℕ) → length (flat_map g (range_with_len s m)) ≡ m * len
    length-pieces g len long s zero = omega arith
    length-pieces g len long s (suc m) =
        let a : length (g s) ≡ len = long s in
        let b : length (flat_map g (range_with_len (s + 1) m)) ≡ m * len = length-pieces g len long (s + 1) m in
        length-append (g s) (flat_map g (range_with_len (s + 1) m)) ∙ omega arith

-- a reduction's result number o * inner + i
pub folded_at : (f : ℤ → ℤ → ℤ) (z : ℤ) (lengths : List ℕ) (axis : ℕ) (xs : List ℤ) (o i : ℕ) → o < positions (take axis lengths) → i < positions (drop (suc axis) lengths)
    → get_or (folded f z lengths axis xs) (o * positions (drop (suc axis) lengths) + i) (pos 0)
    ≡ fold_upto f z (λ j. get_or xs ((o * get_or lengths axis 1 + j) * positions (drop (suc axis) lengths) + i) (pos 0)) (get_or lengths axis 1)
folded_at f z lengths axis xs o i a b =
    let n : ℕ = get_or lengths axis 1 in
    let inner : ℕ = positions (drop (suc axis) lengths) in
    let outer : ℕ = positions (take axis lengths) in
    let row : ℕ → List ℤ = λ o. map (λ i. fold f z (lane xs n inner o i)) (range_with_len 0 inner) in
    let d : length (lane xs n inner o i) ≡ n = length-lane xs n inner o i in
    piece_of row inner (λ o. length-map (range_with_len 0 inner) (λ i. fold f z (lane xs n inner o i)) ∙ length-range_with_len 0 inner) outer o i a b
    ∙ get_or-map-range_with_len (λ i. fold f z (lane xs n inner o i)) 0 inner i i (pos 0) b (let e : 0 + i ≡ i = omega arith in e)
    ∙ ap (fold f z) (sym (take_all n (lane xs n inner o i) (omega arith)))
    ∙ lane_fold f z xs n inner o i n (omega arith)

-- ---- accumulators

-- after the first p positions: the fold so far of the lane that the number l = o * inner + i stands for; a lane begins anew where its position along the axis is 0
abbrev pub accumulated : (ℤ → ℤ → ℤ) → ℤ → ℕ → ℕ → (ℕ → ℤ) → (ℕ → ℤ) → ℕ → ℕ → ℤ
accumulated f z n inner xs before zero l = before l
accumulated f z n inner xs before (suc p) l =
    cond (p / inner / n * inner + p % inner == l) (f (cond (p / inner % n == 0) z (accumulated f z n inner xs before p l)) (xs p)) (accumulated f z n inner xs before p l)

-- a fold goes on from what it had
pub fold_goes_on : (f : ℤ → ℤ → ℤ) (z : ℤ) (g : ℕ → ℤ) (a b : ℕ) → fold_upto f z g (a + b) ≡ fold_upto f (fold_upto f z g a) (λ j. g (a + j)) b
fold_goes_on f z g a zero = ap (fold_upto f z g) (let e : a + 0 ≡ a = omega arith in e)
fold_goes_on f z g a (suc b) =
    ap (fold_upto f z g) (let e : a + suc b ≡ suc (a + b) = omega arith in e) ∙ ap (λ y. f y (g (a + b))) (fold_goes_on f z g a b)
