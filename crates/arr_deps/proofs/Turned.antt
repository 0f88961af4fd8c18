-- Of two operations, each depends on the other or neither does, and so with sharing a block.
use Rattle.std.proofs.Common.{◌≡◌, ℕ, List, [], ◌∷◌, Bool, true, false, not, ◌||◌, ◌&&◌, refl, ap, ap₂, sym, ◌∙◌, ⊎_elim}
use Rattle.std.specs.Prelude.{◌==◌}
use Rattle.std.proofs.Math.Bool.{and_comm, or_comm}
use Rattle.std.proofs.lemmas.Bool.{cases_eq, eq-eqb, ne_eqb}
use Rattle.arr_view.specs.Views.{same_lists}
use Rattle.arr_ops.specs.declared.op.Op.{Op}
use Rattle.arr_ops.specs.Ops.{crosses, dep, disturbs, fusible, is_free, same_walk, serial, walked}

pub dep_turned : (f g : Op) → dep f g ≡ dep g f
dep_turned f g = or_comm (disturbs f g) (disturbs g f)

equal_turned : (m n : ℕ) → (m == n) ≡ (n == m)
equal_turned m n = ⊎_elim (λ e. eq-eqb m n e ∙ sym (eq-eqb n m (sym e))) (λ ne. ne_eqb m n ne ∙ sym (ne_eqb n m (λ e. ne (sym e)))) (cases_eq m n)

lists_turned : (ms ns : List ℕ) → same_lists ms ns ≡ same_lists ns ms
lists_turned [] [] = refl
lists_turned [] (n ∷ ns) = refl
lists_turned (m ∷ ms) [] = refl
lists_turned (m ∷ ms) (n ∷ ns) = ap₂ (λ a b. a && b) (equal_turned m n) (lists_turned ms ns)

walk_turned : (ms ns : List (List ℕ)) → same_walk ms ns ≡ same_walk ns ms
walk_turned [] [] = refl
walk_turned [] (n ∷ ns) = refl
walk_turned (m ∷ ms) [] = refl
walk_turned (m ∷ ms) (n ∷ ns) = lists_turned m n

both_turned : (a b rest : Bool) → (a && (b && rest)) ≡ (b && (a && rest))
both_turned true b rest = refl
both_turned false true rest = refl
both_turned false false rest = refl

pub fusible_turned : (f g : Op) → fusible f g ≡ fusible g f
fusible_turned f g =
    let apart = ap₂ (λ a b. a && b) (walk_turned (walked f) (walked g)) (and_comm (not (crosses f g)) (not (crosses g f))) in
    ap₂ (λ a b. a || b) (or_comm (is_free f) (is_free g))
    (ap (λ b. not (serial f) && (not (serial g) && b)) apart ∙ both_turned (not (serial f)) (not (serial g)) _)
