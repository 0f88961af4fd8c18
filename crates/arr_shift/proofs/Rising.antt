-- Places that rise, and those of a view some places before or behind another.
use Rattle.std.proofs.Common.{◌≡◌, ◌⊎◌, inl, inr, ℕ, suc, ◌+◌, ◌-◌, ◌*◌, ◌/◌, ◌%◌, ◌<◌, ◌≤◌, ℤ, pos, ◌+ℤ◌, ◌*ℤ◌, ◌≤ℤ◌, ◌<ℤ◌, List, [], ◌∷◌, Bool, true, false, ◌||◌, length, get_or, refl, ap, sym, ◌∙◌, subst, arith, leb-true}
use Rattle.std.specs.Prelude.{int_lt, nat_le, nat_lt}
use Rattle.std.specs.List.{list_all}
use Rattle.std.proofs.lemmas.Int.{ints}
use Rattle.std.proofs.lemmas.Bool.{and_parts, ltb-true, ltb-false}
use Rattle.std.proofs.lemmas.Nat.{div-add-mod', div_below, le-div, mod_below}
use Rattle.std.proofs.Math.Nat.{div-mul-le_self}
use Rattle.arr_view.specs.Views.{places, positions}
use Rattle.arr_view.proofs.Counting.{some_position}
use Rattle.arr_view.proofs.Places.{get_steps, length-places, steps, steps_is, steps_up}
use Rattle.arr_shift.specs.Shifts.{reach, rises}

less_of : (x y : ℤ) → int_lt x y ≡ true → x <ℤ y
less_of x y e = search (arith, ints)

-- a dimension is of length 1, or its step leads beyond the inner ones
leads : (n : ℕ) (far s : ℤ) → (nat_le n 1 || int_lt far s) ≡ true → (n ≤ 1) ⊎ (far <ℤ s)
leads n far s e = by (nat_le n 1) refl e
  where
    by : (b : Bool) → nat_le n 1 ≡ b → (b || int_lt far s) ≡ true → (n ≤ 1) ⊎ (far <ℤ s)
    by true k h = inl (leb-true n 1 k)
    by false k h = inr (less_of far s h)

abbrev spot : List ℕ → List ℤ → ℤ → ℕ → ℤ
spot ns ss z p = get_or (places ns ss z) p (pos 0)

-- a place by its step of the first dimension
first_step : (n : ℕ) (s : ℤ) (ns : List ℕ) (ss : List ℤ) (z : ℤ) (p : ℕ) → length ss ≡ length ns → 0 < positions ns → p < n * positions ns
    → spot (n ∷ ns) (s ∷ ss) z p ≡ spot ns ss (z +ℤ steps (p / positions ns) s) (p % positions ns)
first_step n s ns ss z p same some l =
    ap (λ k. get_or (places (n ∷ ns) (s ∷ ss) z) k (pos 0)) (sym (div-add-mod' p (positions ns)))
    ∙ get_steps (places ns ss) (positions ns) (λ y. length-places ns ss y same) n s z (p / positions ns) (p % positions ns) (pos 0) (div_below p (positions ns) n some l) (mod_below p (positions ns) some)

-- the reach of dimensions whose places rise, and their steps
sides : (n q : ℕ) (s far : ℤ) → (n ≤ 1) ⊎ (far <ℤ s) → pos 0 ≤ℤ far → q < n → (pos 0 ≤ℤ steps q s) × (steps q s ≤ℤ (pos (n - 1) *ℤ s))
sides n q s far (inl one) low l =
    let none : q ≡ 0 = omega arith in
    let last : n - 1 ≡ 0 = omega arith in
    let a : steps q s ≡ pos 0 = ap (λ k. steps k s) none in
    let b : pos (n - 1) *ℤ s ≡ pos 0 = ap (λ k. pos k *ℤ s) last ∙ sym (steps_is 0 s) in
    (omega (arith, ints), omega (arith, ints))
sides n q s far (inr beyond) low l =
    let above : pos 0 ≤ℤ s = omega (arith, ints) in
    let up = steps_up q (n - 1) s above (omega arith) in
    (up.0, subst (λ x. steps q s ≤ℤ x) (steps_is (n - 1) s) up.1)

nonneg : (x y : ℤ) → pos 0 ≤ℤ x → x ≤ℤ (pos 0 +ℤ y) → pos 0 ≤ℤ y
nonneg x y a b = omega (arith, ints)

-- places lie between the first and the last
bounds : (ns : List ℕ) (ss : List ℤ) (z : ℤ) → length ss ≡ length ns → list_all (nat_le 1) ns ≡ true → rises ns ss ≡ true → (p : ℕ) → p < positions ns
    → (z ≤ℤ spot ns ss z p) × (spot ns ss z p ≤ℤ (z +ℤ reach ns ss))
bounds [] ss z same all h p l =
    let at : p ≡ 0 = omega arith in
    let here : spot [] ss z p ≡ z = ap (λ k. get_or (z ∷ []) k (pos 0)) at in
    (omega (arith, ints), omega (arith, ints))
bounds (n ∷ ns) [] z same all h p l = absurd (omega arith)
bounds (n ∷ ns) (s ∷ ss) z same all h p l =
    let rest = (and_parts (nat_le 1 n) _ all).1 in
    let test = and_parts (nat_le n 1 || int_lt (reach ns ss) s) _ h in
    let long : length ss ≡ length ns = omega arith in
    let some : 0 < positions ns = some_position ns rest in
    let q : ℕ = p / positions ns in
    let r : ℕ = p % positions ns in
    let inner = bounds ns ss (z +ℤ steps q s) long rest test.1 r (mod_below p (positions ns) some) in
    let zeroth = bounds ns ss (pos 0) long rest test.1 0 some in
    let low : pos 0 ≤ℤ reach ns ss = nonneg (spot ns ss (pos 0) 0) (reach ns ss) zeroth.0 zeroth.1 in
    let side = sides n q s (reach ns ss) (leads n (reach ns ss) s test.0) low (div_below p (positions ns) n some l) in
    let here : spot (n ∷ ns) (s ∷ ss) z p ≡ spot ns ss (z +ℤ steps q s) r = first_step n s ns ss z p long some l in
    joined z (steps q s) (pos (n - 1) *ℤ s) (reach ns ss) (spot ns ss (z +ℤ steps q s) r) (spot (n ∷ ns) (s ∷ ss) z p) here inner.0 inner.1 side.0 side.1
  where
    joined : (z x most far at here : ℤ) → here ≡ at → (z +ℤ x) ≤ℤ at → at ≤ℤ ((z +ℤ x) +ℤ far) → pos 0 ≤ℤ x → x ≤ℤ most → (z ≤ℤ here) × (here ≤ℤ (z +ℤ (most +ℤ far)))
    joined z x most far at here e a b c d = (omega (arith, ints), omega (arith, ints))

-- places rise
pub order : (ns : List ℕ) (ss : List ℤ) (z : ℤ) → length ss ≡ length ns → list_all (nat_le 1) ns ≡ true → rises ns ss ≡ true → (p q : ℕ) → p < q → q < positions ns
    → spot ns ss z p <ℤ spot ns ss z q
order [] ss z same all h p q less l = absurd (omega arith)
order (n ∷ ns) [] z same all h p q less l = absurd (omega arith)
order (n ∷ ns) (s ∷ ss) z same all h p q less l = by (order ns ss) (nat_lt (p / m) (q / m)) refl
  where
    m : ℕ
    m = positions ns

    rest : list_all (nat_le 1) ns ≡ true
    rest = (and_parts (nat_le 1 n) _ all).1

    test : ((nat_le n 1 || int_lt (reach ns ss) s) ≡ true) × (rises ns ss ≡ true)
    test = and_parts (nat_le n 1 || int_lt (reach ns ss) s) _ h

    long : length ss ≡ length ns
    long = omega arith

    some : 0 < positions ns
    some = some_position ns rest

    p_there : p < n * m
    p_there = omega arith

    here : (k : ℕ) → k < n * m → spot (n ∷ ns) (s ∷ ss) z k ≡ spot ns ss (z +ℤ steps (k / m) s) (k % m)
    here k l = first_step n s ns ss z k long some l

    within : (k : ℕ) → ((z +ℤ steps (k / m) s) ≤ℤ spot ns ss (z +ℤ steps (k / m) s) (k % m)) × (spot ns ss (z +ℤ steps (k / m) s) (k % m) ≤ℤ ((z +ℤ steps (k / m) s) +ℤ reach ns ss))
    within k = bounds ns ss (z +ℤ steps (k / m) s) long rest test.1 (k % m) (mod_below k m some)

    low : pos 0 ≤ℤ reach ns ss
    low = nonneg (spot ns ss (pos 0) 0) (reach ns ss) (bounds ns ss (pos 0) long rest test.1 0 some).0 (bounds ns ss (pos 0) long rest test.1 0 some).1

    further : (a b : ℕ) → a < b → b < n → (n ≤ 1) ⊎ (reach ns ss <ℤ s) → ((z +ℤ steps a s) +ℤ reach ns ss) <ℤ (z +ℤ steps b s)
    further a b l k (inl one) = absurd (omega arith)
    further a b l k (inr beyond) =
        let above : pos 0 ≤ℤ s = omega (arith, ints, low, beyond) in
        let up : steps (suc a) s ≤ℤ steps b s = (steps_up (suc a) b s above (omega arith)).1 in
        apart z (steps a s) (steps b s) (reach ns ss) s beyond up
      where
        apart : (z x y far s : ℤ) → far <ℤ s → (s +ℤ x) ≤ℤ y → ((z +ℤ x) +ℤ far) <ℤ (z +ℤ y)
        apart z x y far s a b = omega (arith, ints)

    by : ((y : ℤ) → length ss ≡ length ns → list_all (nat_le 1) ns ≡ true → rises ns ss ≡ true → (i j : ℕ) → i < j → j < positions ns → spot ns ss y i <ℤ spot ns ss y j)
        → (b : Bool) → nat_lt (p / m) (q / m) ≡ b → spot (n ∷ ns) (s ∷ ss) z p <ℤ spot (n ∷ ns) (s ∷ ss) z q
    by ih true e =
        chain (spot (n ∷ ns) (s ∷ ss) z p) (spot (n ∷ ns) (s ∷ ss) z q) _ _ _ _ (here p p_there) (here q l) (within p).1 (within q).0
        (further (p / m) (q / m) (ltb-true (p / m) (q / m) e) (div_below q m n some l) (leads n (reach ns ss) s test.0))
      where
        chain : (x y x' y' top bottom : ℤ) → x ≡ x' → y ≡ y' → x' ≤ℤ top → bottom ≤ℤ y' → top <ℤ bottom → x <ℤ y
        chain x y x' y' top bottom a b c d e = omega (arith, ints)
    by ih false e =
        let down : q / m ≤ p / m = ltb-false (p / m) (q / m) e in
        let same : q / m ≡ p / m = level down in
        let a : p / m * m + p % m ≡ p = div-add-mod' p m in
        let b : q / m * m + q % m ≡ q = div-add-mod' q m in
        let c : q / m * m ≡ p / m * m = ap (λ k. k * m) same in
        let inner = ih (z +ℤ steps (p / m) s) long rest test.1 (p % m) (q % m) (omega arith) (mod_below q m some) in
        chain (spot (n ∷ ns) (s ∷ ss) z p) (spot (n ∷ ns) (s ∷ ss) z q) _ _ (here p p_there) (here q l ∙ ap (λ k. spot ns ss (z +ℤ steps k s) (q % m)) same) inner
      where
        chain : (x y x' y' : ℤ) → x ≡ x' → y ≡ y' → x' <ℤ y' → x <ℤ y
        chain x y x' y' a b c = omega (arith, ints)

        level : q / m ≤ p / m → q / m ≡ p / m
        level down =
            let back : p / m ≤ q / m = le-div (p / m) q m some (let whole : p / m * m ≤ p = div-mul-le_self p m in omega arith) in
            omega arith
