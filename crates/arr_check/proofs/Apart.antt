-- Views whose elements lie apart.
use Rattle.std.proofs.Common.{◌⊎◌, inl, inr, ◌<◌, ◌≡◌, ℕ, ◌≤◌, List, [], ◌∷◌, true, false, refl, ap, ap₂, ◌∙◌, arith, sym}
use Rattle.std.specs.Prelude.{nat_le, ◌==◌, ◌&&◌, ◌||◌}
use Rattle.std.specs.List.{list_all}
use Rattle.std.proofs.lemmas.Bool.{leb-true, and_parts, false_from_ne_true}
use Rattle.arr_view.specs.Strided.{Strided}
use Rattle.arr_view.specs.Views.{elements, has, lies, overlap, share}
use Rattle.arr_view.proofs.Ends.{passes}
use Rattle.arr_check.proofs.Loops.{and_false}

-- no number lies in both ranges, so none stands in both lists
pub apart : (l h l' h' : ℕ) (xs ys : List ℕ) → list_all (lies l h) xs ≡ true → list_all (lies l' h') ys ≡ true → (h < l') ⊎ (h' < l) → share xs ys ≡ false
apart l h l' h' [] ys a b o = refl
apart l h l' h' (x ∷ xs) ys a b o =
    let parts = and_parts (lies l h x) (list_all (lies l h) xs) a in
    ap₂ (λ c d. c || d) (false_from_ne_true (has ys x) (λ k. never o (and_parts (nat_le l x) (nat_le x h) parts.0) (and_parts (nat_le l' x) (nat_le x h') (passes (lies l' h') ys x b k)))) (apart l h l' h' xs ys parts.1 b o)
  where
    never : (h < l') ⊎ (h' < l) → (nat_le l x ≡ true) × (nat_le x h ≡ true) → (nat_le l' x ≡ true) × (nat_le x h' ≡ true) → ⊥
    never o p q =
        let p0 : l ≤ x = leb-true l x p.0 in
        let p1 : x ≤ h = leb-true x h p.1 in
        let q0 : l' ≤ x = leb-true l' x q.0 in
        let q1 : x ≤ h' = leb-true x h' q.1 in
        elim o [ inl k ↦ omega arith | inr k ↦ omega arith ]

pub no_overlap : (v w : Strided) → share (elements v) (elements w) ≡ false → false ≡ overlap v w
no_overlap v w e = sym (ap (λ b. (v.base == w.base) && b) e ∙ and_false (v.base == w.base))
