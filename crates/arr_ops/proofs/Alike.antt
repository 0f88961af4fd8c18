-- Identical is an equivalence, and identical views weigh the same.
use Rattle.std.proofs.Common.{◌≡◌, ℕ, List, [], ◌∷◌, true, ◌&&◌, refl, ap, ap₂, sym, ◌∙◌}
use Rattle.std.proofs.lemmas.Bool.{eqb-true, eq-eqb}
use Rattle.std.specs.Prelude.{◌==◌}
use Rattle.arr_view.specs.Strided.{Strided}
use Rattle.arr_view.specs.Views.{elements, identical, same_lists}
use Rattle.arr_ops.specs.declared.op.Op.{Op}
use Rattle.arr_ops.specs.Costs.{weight}
use Rattle.arr_ops.proofs.Tests.{both_left, both_right, same_from_test}

pub same_list : (xs : List ℕ) → same_lists xs xs ≡ true
same_list [] = refl
same_list (x ∷ xs) = ap₂ (λ a b. a && b) (eq-eqb x x refl) (same_list xs)

pub same_from : (xs ys : List ℕ) → xs ≡ ys → same_lists xs ys ≡ true
same_from xs ys e = ap (same_lists xs) (sym e) ∙ same_list xs

pub record Alike (v w : Strided) : Type 0 where
  pub base : v.base ≡ w.base
  pub lengths : v.lengths ≡ w.lengths
  pub places : elements v ≡ elements w

pub alike : (v w : Strided) → identical v w ≡ true → Alike v w
alike v w e =
    let rest = both_right (v.base == w.base) _ e in
    record {
      base = eqb-true v.base w.base (both_left (v.base == w.base) _ e);
      lengths = same_from_test v.lengths w.lengths (both_left (same_lists v.lengths w.lengths) _ rest);
      places = same_from_test (elements v) (elements w) (both_right (same_lists v.lengths w.lengths) _ rest);
    }

pub identical_if : (v w : Strided) → Alike v w → identical v w ≡ true
identical_if v w a = ap₂ (λ x y. x && y) (eq-eqb v.base w.base a.base) (ap₂ (λ x y. x && y) (same_from v.lengths w.lengths a.lengths) (same_from (elements v) (elements w) a.places))

pub identical_symm : (v w : Strided) → identical v w ≡ true → identical w v ≡ true
identical_symm v w e = let a : Alike v w = alike v w e in identical_if w v (record { base = sym a.base; lengths = sym a.lengths; places = sym a.places })

pub identical_trans : (u v w : Strided) → identical u v ≡ true → identical v w ≡ true → identical u w ≡ true
identical_trans u v w e d =
    let a : Alike u v = alike u v e in
    let b : Alike v w = alike v w d in
    identical_if u w (record { base = a.base ∙ b.base; lengths = a.lengths ∙ b.lengths; places = a.places ∙ b.places })

pub same_weight : (list : List Op) (v w : Strided) → identical v w ≡ true → weight list v ≡ weight list w
same_weight list v w e = let a : Alike v w = alike v w e in ap₂ (λ l b. weight list (record { base = b; start = 0; lengths = l; strides = [] })) a.lengths a.base
