-- The places of a view tell its start and strides.
use Rattle.std.proofs.Common.{Bool, false, ◌≡◌, ℕ, zero, suc, ℤ, pos, negsuc, ◌+ℤ◌, List, [], ◌∷◌, ◌++◌, true, length, map, refl, ap, ap₂, sym, ◌∙◌, arith}
use Rattle.std.specs.Prelude.{◌==◌, not, ◌||◌, nat_le}
use Rattle.std.specs.List.{list_all}
use Rattle.std.proofs.lemmas.Int.{ints}
use Rattle.std.proofs.lemmas.Bool.{and_parts, and_from, eqb-true, eq-eqb, false≢true}
use Rattle.arr_view.specs.Views.{places, is_place, is_zero, strides_kept, to_place, same_lists}
use Rattle.arr_view.proofs.Strides.{as_many}
use Rattle.arr_view.proofs.Places.{length-places}

-- ---- tests and equations

pub same_tests : (a b : Bool) → (a ≡ true → b ≡ true) → (b ≡ true → a ≡ true) → a ≡ b
same_tests true b f g = sym (f refl)
same_tests false true f g = g refl
same_tests false false f g = refl

pub same_lists-true : (xs ys : List ℕ) → same_lists xs ys ≡ true → xs ≡ ys
same_lists-true [] [] e = refl
same_lists-true (x ∷ xs) (y ∷ ys) e = let p = and_parts (x == y) _ e in ap₂ (λ a b. a ∷ b) (eqb-true x y p.0) (same_lists-true xs ys p.1)
same_lists-true [] (y ∷ ys) e = absurd (false≢true e)
same_lists-true (x ∷ xs) [] e = absurd (false≢true e)

pub same_lists-same : (xs : List ℕ) → same_lists xs xs ≡ true
same_lists-same [] = refl
same_lists-same (x ∷ xs) = and_from (x == x) _ (eq-eqb x x refl) (same_lists-same xs)

-- ---- from places to their start and strides

-- a start and strides
pub record SameWay (ss ts : List ℤ) (y z : ℤ) : Type 0 where
  pub start : y ≡ z
  pub strides : ss ≡ ts

fronts : (us vs cs ds : List ℤ) → length us ≡ length vs → us ++ cs ≡ vs ++ ds → (us ≡ vs) × (cs ≡ ds)
fronts [] [] cs ds l e = (refl, e)
fronts (a ∷ us) (b ∷ vs) cs ds l e =
    let head : a ≡ b = cc in
    let rest : us ++ cs ≡ vs ++ ds = cc in
    let ih = fronts us vs cs ds (omega arith) rest in
    (ap₂ (λ x xs. x ∷ xs) head ih.0, ih.1)
fronts [] (b ∷ vs) cs ds l e = absurd (omega arith)
fronts (a ∷ us) [] cs ds l e = absurd (omega arith)

pub is_zero-true : (s : ℤ) → is_zero s ≡ true → s ≡ pos 0
is_zero-true (pos zero) e = refl
is_zero-true (pos (suc n)) e = absurd (false≢true e)
is_zero-true (negsuc n) e = absurd (false≢true e)

pub same_way : (ns : List ℕ) (ss ts : List ℤ) (y z : ℤ) → list_all (nat_le 1) ns ≡ true → strides_kept ns ss ≡ true → strides_kept ns ts ≡ true → places ns ss y ≡ places ns ts z → SameWay ss ts y z
same_way [] [] [] y z one kept kept' e = record { start = cc; strides = refl }
same_way [] [] (t ∷ ts) y z one kept kept' e = absurd (false≢true kept')
same_way [] (s ∷ ss) ts y z one kept kept' e = absurd (false≢true kept)
same_way (n ∷ ns) [] ts y z one kept kept' e = absurd (false≢true kept)
same_way (n ∷ ns) (s ∷ ss) [] y z one kept kept' e = absurd (false≢true kept')
same_way (zero ∷ ns) (s ∷ ss) (t ∷ ts) y z one kept kept' e = absurd (false≢true one)
same_way (suc zero ∷ ns) (s ∷ ss) (t ∷ ts) y z one kept kept' e =
    let k = and_parts (is_zero s) _ kept in
    let k' = and_parts (is_zero t) _ kept' in
    let long : length (places ns ss y) ≡ length (places ns ts z) = length-places ns ss y (as_many ns ss k.1) ∙ sym (length-places ns ts z (as_many ns ts k'.1)) in
    let inner = same_way ns ss ts y z one k.1 k'.1 (fronts (places ns ss y) (places ns ts z) _ _ long e).0 in
    record { start = inner.start; strides = ap₂ (λ a us. a ∷ us) (is_zero-true s k.0 ∙ sym (is_zero-true t k'.0)) inner.strides }
same_way (suc (suc n) ∷ ns) (s ∷ ss) (t ∷ ts) y z one kept kept' e =
    let rest = (and_parts (nat_le 1 (suc (suc n))) (list_all (nat_le 1) ns) one).1 in
    let k = and_parts (not (suc (suc n) == 1) || is_zero s) _ kept in
    let k' = and_parts (not (suc (suc n) == 1) || is_zero t) _ kept' in
    let long : (a b : ℤ) → length (places ns ss a) ≡ length (places ns ts b) =
    λ a b. length-places ns ss a (as_many ns ss k.1) ∙ sym (length-places ns ts b (as_many ns ts k'.1)) in
    let first = fronts (places ns ss y) (places ns ts z) _ _ (long y z) e in
    let second = fronts (places ns ss (y +ℤ s)) (places ns ts (z +ℤ t)) _ _ (long (y +ℤ s) (z +ℤ t)) first.1 in
    let here = same_way ns ss ts y z rest k.1 k'.1 first.0 in
    let next = same_way ns ss ts (y +ℤ s) (z +ℤ t) rest k.1 k'.1 second.0 in
    let start : y ≡ z = here.start in
    let moved : y +ℤ s ≡ z +ℤ t = next.start in
    record { start = start; strides = ap₂ (λ a us. a ∷ us) (let same : s ≡ t = omega (arith, ints) in same) here.strides }

-- ---- from elements to places

to_place-same : (x y : ℤ) → is_place x ≡ true → is_place y ≡ true → to_place x ≡ to_place y → x ≡ y
to_place-same (pos m) (pos n) p q e = ap pos e
to_place-same (negsuc m) y p q e = absurd (false≢true p)
to_place-same (pos m) (negsuc n) p q e = absurd (false≢true q)

pub same_places : (xs ys : List ℤ) → list_all is_place xs ≡ true → list_all is_place ys ≡ true → map to_place xs ≡ map to_place ys → xs ≡ ys
same_places [] [] p q e = refl
same_places (x ∷ xs) (y ∷ ys) p q e =
    let a = and_parts (is_place x) _ p in
    let b = and_parts (is_place y) _ q in
    let head : to_place x ≡ to_place y = cc in
    let rest : map to_place xs ≡ map to_place ys = cc in
    ap₂ (λ c cs. c ∷ cs) (to_place-same x y a.0 b.0 head) (same_places xs ys a.1 b.1 rest)
same_places [] (y ∷ ys) p q e = absurd (cc)
same_places (x ∷ xs) [] p q e = absurd (cc)
