-- How the live elements change with the bases.
use Rattle.std.proofs.Common.{◌≡◌, refl, sym, ap, subst, ℕ, zero, suc, ◌+◌, ◌<◌, ◌≤◌, List, [], ◌∷◌, ◌++◌, true, nat_lt, length, get_or, set, arith}
use Rattle.arr_elab.specs.declared.bases.Base.{Base}
use Rattle.std.specs.Prelude.{IsTrue}
use Rattle.std.proofs.lemmas.List.{get_or_read}
use Rattle.arr_elab.specs.Totals.{Held, live_by, weight, may_hold, base_at, no_base}

-- a base at or past the first counts whole
pub weight_new : (f k : ℕ) (x : Base) → f ≤ k → weight f k x ≡ x.length
weight_new f k x le = grind arith

pub live_past : (f g k : ℕ) (xs : List Base) → f ≤ k → g ≤ k → live_by f k xs ≡ live_by g k xs
live_past f g k [] p q = refl
live_past f g k (x ∷ xs) p q =
    let a = weight_new f k x p in
    let b = weight_new g k x q in
    let c = live_past f g (suc k) xs (omega arith) (omega arith) in
    omega (arith, a, b, c)

pub live_make : (f k n : ℕ) (xs : List Base) → f ≤ k + length xs → live_by f k (xs ++ record { length = n; names = 0 } ∷ []) ≡ live_by f k xs + n
live_make f k n [] p = omega (arith, weight_new f k (record { length = n; names = 0 }) (omega arith))
live_make f k n (x ∷ xs) p = omega (arith, live_make f (suc k) n xs (omega arith))

pub live_set : (f k j i : ℕ) (xs : List Base) (y d : Base) → i < length xs → j ≡ k + i → live_by f k (set xs i y) + weight f j (get_or xs i d) ≡ live_by f k xs + weight f j y
live_set f k j i [] y d p e = absurd (omega arith)
live_set f k j zero (x ∷ xs) y d p e =
    let e' : k ≡ j = omega arith in
    subst (λ j. live_by f k (y ∷ xs) + weight f j x ≡ live_by f k (x ∷ xs) + weight f j y) e' (omega arith)
live_set f k j (suc i) (x ∷ xs) y d p e = omega (arith, live_set f (suc k) j i xs y d (omega arith) (omega arith))

-- an item is part of the total
pub live_part : (f k j i : ℕ) (xs : List Base) (d : Base) → i < length xs → j ≡ k + i → weight f j (get_or xs i d) ≤ live_by f k xs
live_part f k j i [] d p e = absurd (omega arith)
live_part f k j zero (x ∷ xs) d p e =
    let e' : k ≡ j = omega arith in
    subst (λ j. weight f j x ≤ live_by f k (x ∷ xs)) e' (omega arith)
live_part f k j (suc i) (x ∷ xs) d p e = omega (arith, live_part f (suc k) j i xs d (omega arith) (omega arith))

-- what counts of the first base of the statement once it is of an earlier one
pub live_age : (f k i : ℕ) (xs : List Base) (d : Base) → i < length xs → f ≡ k + i → live_by f k xs + weight (suc f) f (get_or xs i d) ≡ live_by (suc f) k xs + (get_or xs i d).length
live_age f k i [] d p e = absurd (omega arith)
live_age f k zero (x ∷ xs) d p e =
    let e' : k ≡ f = omega arith in
    let past = live_past f (suc f) (suc f) xs (omega arith) (omega arith) in
    let whole = weight_new f f x (omega arith) in
    subst (λ k. live_by f k (x ∷ xs) + weight (suc f) f x ≡ live_by (suc f) k (x ∷ xs) + x.length) (sym e') (omega (arith, past, whole))
live_age f k (suc i) (x ∷ xs) d p e =
    let rest = live_age f (suc k) i xs d (omega arith) (omega arith) in
    let early : weight f k x ≡ weight (suc f) k x = grind arith in
    omega (arith, rest, early)

pub weight_le : (f k : ℕ) (x : Base) → weight f k x ≤ x.length
weight_le f k x = grind arith

-- ---- as code reads an item

pub replaced : (f i : ℕ) (xs : List Base) (y x : Base) → i < length xs → x ≡ get_or xs i x → live_by f 0 (set xs i y) + weight f i x ≡ live_by f 0 xs + weight f i y
replaced f i xs y x p e = subst (λ z. live_by f 0 (set xs i y) + weight f i z ≡ live_by f 0 xs + weight f i y) (sym e) (live_set f 0 i i xs y x p (omega arith))

pub part : (f i : ℕ) (xs : List Base) (x : Base) → i < length xs → x ≡ get_or xs i x → weight f i x ≤ live_by f 0 xs
part f i xs x p e = subst (λ z. weight f i z ≤ live_by f 0 xs) (sym e) (live_part f 0 i i xs x p (omega arith))

pub aged : (f : ℕ) (xs : List Base) (x : Base) → f < length xs → x ≡ get_or xs f x → live_by f 0 xs + weight (f + 1) f x ≡ live_by (f + 1) 0 xs + x.length
aged f xs x p e =
    let at_suc : live_by f 0 xs + weight (suc f) f x ≡ live_by (suc f) 0 xs + x.length =
    subst (λ (z : Base). live_by f 0 xs + weight (suc f) f z ≡ live_by (suc f) 0 xs + z.length) (sym e) (live_age f 0 f xs x p (omega arith)) in
    let one : suc f ≡ f + 1 = omega arith in
    subst (λ g. live_by f 0 xs + weight g f x ≡ live_by g 0 xs + x.length) one at_suc

-- more names add at most the elements of the base
pub held : (f i : ℕ) (xs : List Base) (x : Base) (names : ℕ) → i < length xs → x ≡ get_or xs i x → live_by f 0 (set xs i (record { length = x.length; names = names })) ≤ live_by f 0 xs + x.length
held f i xs x names p e =
    let y : Base = record { length = x.length; names = names } in
    omega (arith, replaced f i xs y x p e, weight_le f i y)

pub hold_room : (h : Held) (b : ℕ) (x : Base) → b < length h.list → x ≡ get_or h.list b x → IsTrue (may_hold h b) → live_by h.first 0 (set h.list b (record { length = x.length; names = x.names + 1 })) < 18446744073709551616
hold_room h b x p e room =
    let at : x ≡ get_or h.list b no_base = get_or_read h.list b x p e no_base in
    let most = held h.first b h.list x (x.names + 1) p e in
    let long : x.length ≡ (base_at h b).length = ap (λ (y : Base). y.length) at in
    let test : nat_lt (live_by h.first 0 h.list + (base_at h b).length) 18446744073709551616 ≡ true = grind (arith, room) in
    grind arith

-- fewer names add nothing
weight_less : (f i m n k : ℕ) → k ≤ m → weight f i (record { length = n; names = k }) ≤ weight f i (record { length = n; names = m })
weight_less f i m n k p = grind arith

pub released : (f i : ℕ) (xs : List Base) (x : Base) (names : ℕ) → names ≤ x.names → i < length xs → x ≡ get_or xs i x → live_by f 0 (set xs i (record { length = x.length; names = names })) ≤ live_by f 0 xs
released f i xs x names q p e =
    let y : Base = record { length = x.length; names = names } in
    omega (arith, replaced f i xs y x p e, weight_less f i x.names x.length names q)
