-- How many indices a slice takes, and where they lie.
use Rattle.std.proofs.Common.{◌≡◌, ◌⊎◌, inl, inr, ℕ, zero, suc, ◌+◌, ◌-◌, ◌*◌, ◌/◌, ◌<◌, ◌≤◌, ℤ, pos, negsuc, ◌+ℤ◌, ◌*ℤ◌, List, [], ◌∷◌, Bool, true, false, cond, ◌||◌, length, refl, ap, ap₂, sym, ◌∙◌, arith}
use Rattle.std.specs.Prelude.{nat_le, nat_lt, ◌==◌, Option, Some, None, unwrap_or, Ok, Err}
use Rattle.std.proofs.Math.Nat.{add-div_right, div-eq_of_lt, div-mul-le_self, mul-le-mul_right, mul-le-mul_left}
use Rattle.std.proofs.Math.IntN.{zero-*ℤ, pos-*ℤ-pos, pos-*ℤ-negsuc}
use Rattle.std.proofs.Common.{neg_ℤ}
use Rattle.std.proofs.lemmas.Int.{ints}
use Rattle.std.proofs.lemmas.Bool.{le-leb, lt-ltb, le-ltb, lt-leb, leb-true, ltb-true, ltb-false, eqb-true}
use Rattle.arr_shape.specs.declared.bounds.Cut.{Cut}
use Rattle.arr_shape.specs.declared.fault.ShapeFault.TheVariants.{SliceRange}
use Rattle.arr_shape.specs.Slices.{rising, falling, cut_of, cut_up, cut_down, floor_of, lies_above, IsCut}

either : (a b : ℕ) → (a < b) ⊎ (b ≤ a)
either a b = elim (nat_lt a b) as (λ t. nat_lt a b ≡ t → (a < b) ⊎ (b ≤ a)) [ true ↦ λ e. inl (ltb-true a b e) | false ↦ λ e. inr (ltb-false a b e) ] refl

-- ---- how many

more_up : (a b d : ℕ) → 0 < d → (a + d) < b → (b - 1 - (a + d)) / d + 1 ≡ (b - 1 - a) / d
more_up a b d h l = sym (add-div_right (b - 1 - (a + d)) h) ∙ ap (λ k. k / d) (let e : (b - 1 - (a + d)) + d ≡ b - 1 - a = omega arith in e)

pub tail_up : (most a b d : ℕ) → 0 < d → a < b → b ≤ a + suc most → length (rising most (a + d) b d) ≡ (b - 1 - a) / d
tail_up zero a b d h l k = sym (div-eq_of_lt (let e : b - 1 - a < d = omega arith in e))
tail_up (suc most) a b d h l k =
    elim (either (a + d) b) [
      | inl m ↦
          ap (λ t. length (cond t ((a + d) ∷ rising most ((a + d) + d) b d) [])) (lt-ltb (a + d) b m)
          ∙ ap suc (tail_up most (a + d) b d h m (omega arith)) ∙ (let e : suc ((b - 1 - (a + d)) / d) ≡ (b - 1 - (a + d)) / d + 1 = omega arith in e) ∙ more_up a b d h m
      | inr m ↦ ap (λ t. length (cond t ((a + d) ∷ rising most ((a + d) + d) b d) [])) (le-ltb (a + d) b m) ∙ sym (div-eq_of_lt (let e : b - 1 - a < d = omega arith in e))
    ]

more_down : (a floor d : ℕ) → 0 < d → floor + d ≤ a → (a - d - floor) / d + 1 ≡ (a - floor) / d
more_down a floor d h l = sym (add-div_right (a - d - floor) h) ∙ ap (λ k. k / d) (let e : (a - d - floor) + d ≡ a - floor = omega arith in e)

abbrev below : ℕ → ℕ → ℕ → ℕ → List ℕ
below most i floor d = cond (nat_le d i) (falling most (i - d) floor d) []

pub tail_down : (most a floor d : ℕ) → 0 < d → floor ≤ a → a ≤ floor + most → length (below most a floor d) ≡ (a - floor) / d
tail_down zero a floor d h l k =
    ap (λ t. length (cond t (falling zero (a - d) floor d) [])) refl ∙ none (nat_le d a) ∙ sym (div-eq_of_lt (let e : a - floor < d = omega arith in e))
  where
    none : (t : Bool) → length (cond t (falling zero (a - d) floor d) []) ≡ 0
    none true = refl
    none false = refl
tail_down (suc most) a floor d h l k =
    elim (either a (floor + d)) [
      | inr m ↦
          ap (λ t. length (cond t (falling (suc most) (a - d) floor d) [])) (le-leb d a (omega arith))
          ∙ ap (λ t. length (cond t ((a - d) ∷ below most (a - d) floor d) [])) (le-leb floor (a - d) (omega arith))
          ∙ ap suc (tail_down most (a - d) floor d h (omega arith) (omega arith)) ∙ (let e : suc ((a - d - floor) / d) ≡ (a - d - floor) / d + 1 = omega arith in e) ∙ more_down a floor d h m
      | inl m ↦ few m (nat_le d a) refl ∙ sym (div-eq_of_lt (let e : a - floor < d = omega arith in e))
    ]
  where
    few : a < floor + d → (t : Bool) → nat_le d a ≡ t → length (cond t (falling (suc most) (a - d) floor d) []) ≡ 0
    few m true e =
        let low : d ≤ a = leb-true d a e in
        ap (λ t. length (cond t ((a - d) ∷ below most (a - d) floor d) [])) (lt-leb floor (a - d) (omega arith))
    few m false e = refl

-- ---- the cuts

abbrev pub stepped : ℕ → ℕ → ℤ → Cut
stepped first more z = record { first = first; count = suc more; step = cond (more == 0) (pos 0) z }

pub made_up : (n : ℕ) (start stop : Option ℕ) (d : ℕ) → 0 < d → unwrap_or start 0 ≤ n → unwrap_or stop n ≤ n → unwrap_or start 0 < unwrap_or stop n
    → cut_up n start stop d ≡ Ok (stepped (unwrap_or start 0) ((unwrap_or stop n - 1 - unwrap_or start 0) / d) (pos d))
made_up n start stop d h low high l =
    ap (λ t. cond t (Err SliceRange) (cut_of (rising n (unwrap_or start 0) (unwrap_or stop n) d) (pos d))) (ap₂ (λ x y. x || y) (not_above start low) (stop_inside stop high))
    ∙ from n refl
  where
    not_above : (o : Option ℕ) → unwrap_or o 0 ≤ n → lies_above n o ≡ false
    not_above None h = refl
    not_above (Some i) h = le-ltb n i h

    stop_inside : (o : Option ℕ) → unwrap_or o n ≤ n → lies_above n o ≡ false
    stop_inside None h = refl
    stop_inside (Some i) h = le-ltb n i h

    from : (m : ℕ) → n ≡ m → cut_of (rising m (unwrap_or start 0) (unwrap_or stop n) d) (pos d) ≡ Ok (stepped (unwrap_or start 0) ((unwrap_or stop n - 1 - unwrap_or start 0) / d) (pos d))
    from zero e = absurd (omega arith)
    from (suc m) e =
        ap (λ t. cut_of (cond t (unwrap_or start 0 ∷ rising m (unwrap_or start 0 + d) (unwrap_or stop n) d) []) (pos d)) (lt-ltb (unwrap_or start 0) (unwrap_or stop n) l)
        ∙ ap (λ k. Ok (stepped (unwrap_or start 0) k (pos d))) (tail_up m (unwrap_or start 0) (unwrap_or stop n) d h l (omega arith))

pub made_down : (n : ℕ) (start stop : Option ℕ) (k : ℕ) → 1 ≤ n → unwrap_or start (n - 1) ≤ n - 1 → lies_above (n - 1) stop ≡ false → floor_of stop ≤ unwrap_or start (n - 1)
    → cut_down n start stop k ≡ Ok (stepped (unwrap_or start (n - 1)) ((unwrap_or start (n - 1) - floor_of stop) / suc k) (negsuc k))
made_down n start stop k some low high l =
    ap (λ t. cond t (Err SliceRange) (cut_of (falling n (unwrap_or start (n - 1)) (floor_of stop) (suc k)) (negsuc k))) (ap₂ (λ x y. x || y) (not_above start low) high)
    ∙ from n refl
  where
    not_above : (o : Option ℕ) → unwrap_or o (n - 1) ≤ n - 1 → lies_above (n - 1) o ≡ false
    not_above None h = refl
    not_above (Some i) h = le-ltb (n - 1) i h

    from : (m : ℕ) → n ≡ m
        → cut_of (falling m (unwrap_or start (n - 1)) (floor_of stop) (suc k)) (negsuc k) ≡ Ok (stepped (unwrap_or start (n - 1)) ((unwrap_or start (n - 1) - floor_of stop) / suc k) (negsuc k))
    from zero e = absurd (omega arith)
    from (suc m) e =
        ap (λ t. cut_of (cond t (unwrap_or start (n - 1) ∷ below m (unwrap_or start (n - 1)) (floor_of stop) (suc k)) []) (negsuc k)) (le-leb (floor_of stop) (unwrap_or start (n - 1)) l)
        ∙ ap (λ j. Ok (stepped (unwrap_or start (n - 1)) j (negsuc k))) (tail_down m (unwrap_or start (n - 1)) (floor_of stop) (suc k) (omega arith) l (omega arith))

-- ---- where they lie

lone_first : (first : ℕ) (s : ℤ) → pos first ≡ pos first +ℤ (pos 0 *ℤ s)
lone_first first s = (let e : pos first ≡ pos first +ℤ pos 0 = omega (arith, ints) in e) ∙ ap (λ t. pos first +ℤ t) (sym (zero-*ℤ s))

lone_step : (more : ℕ) (z : ℤ) → suc more ≡ 1 → cond (more == 0) (pos 0) z ≡ pos 0
lone_step zero z e = refl
lone_step (suc more) z e = absurd (omega arith)

pub lawful_up : (n first span d : ℕ) → 0 < d → first + span < n → IsCut n (stepped first (span / d) (pos d))
lawful_up n first span d h l =
    let most : span / d * d ≤ span = div-mul-le_self span d in
    let wide : span / d * 1 ≤ span / d * d = mul-le-mul_left (span / d) (let o : 1 ≤ d = omega arith in o) in
    record { some = omega arith; few = omega arith; lone = lone_step (span / d) (pos d); within = λ j b. inside (span / d) j (omega arith) most (span / d == 0) refl }
  where
    inside : (more j : ℕ) → j ≤ more → more * d ≤ span → (t : Bool) → (more == 0) ≡ t → (i : ℕ) × (i < n) × (pos i ≡ pos first +ℤ (pos j *ℤ cond t (pos 0) (pos d)))
    inside more zero b m t e = (first, omega arith, lone_first first (cond t (pos 0) (pos d)))
    inside more (suc j) b m true e = absurd (let z : more ≡ 0 = eqb-true more 0 e in omega arith)
    inside more (suc j) b m false e =
        let up : suc j * d ≤ more * d = mul-le-mul_right d b in
        (first + suc j * d, omega arith, (let f : pos (first + suc j * d) ≡ pos first +ℤ pos (suc j * d) = omega (arith, ints) in f) ∙ ap (λ t. pos first +ℤ t) (sym (pos-*ℤ-pos (suc j) d)))

back : (first m : ℕ) → m ≤ first → pos (first - m) ≡ pos first +ℤ neg_ℤ (pos m)
back first m h = omega (arith, ints)

pub lawful_down : (n first span k : ℕ) → span ≤ first → first < n → IsCut n (stepped first (span / suc k) (negsuc k))
lawful_down n first span k h l =
    let most : span / suc k * suc k ≤ span = div-mul-le_self span (suc k) in
    let wide : span / suc k * 1 ≤ span / suc k * suc k = mul-le-mul_left (span / suc k) (let o : 1 ≤ suc k = omega arith in o) in
    record { some = omega arith; few = omega arith; lone = lone_step (span / suc k) (negsuc k); within = λ j b. inside (span / suc k) j (omega arith) most (span / suc k == 0) refl }
  where
    inside : (more j : ℕ) → j ≤ more → more * suc k ≤ span → (t : Bool) → (more == 0) ≡ t → (i : ℕ) × (i < n) × (pos i ≡ pos first +ℤ (pos j *ℤ cond t (pos 0) (negsuc k)))
    inside more zero b m t e = (first, omega arith, lone_first first (cond t (pos 0) (negsuc k)))
    inside more (suc j) b m true e = absurd (let z : more ≡ 0 = eqb-true more 0 e in omega arith)
    inside more (suc j) b m false e =
        let up : suc j * suc k ≤ more * suc k = mul-le-mul_right (suc k) b in
        (first - suc j * suc k, omega arith, back first (suc j * suc k) (omega arith) ∙ ap (λ t. pos first +ℤ t) (sym (pos-*ℤ-negsuc (suc j) k)))
