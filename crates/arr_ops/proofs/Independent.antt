-- Laws over a formed list, from what it says of its operations.
use Rattle.std.proofs.Common.{◌≡◌, ◌∷◌, ◌++◌, true, Option, Some, None, refl, ap, sym, ◌∙◌, subst}
use Rattle.std.proofs.lemmas.Bool.{and_from}
use Rattle.std.specs.List.{AllByRecursion}
use Rattle.arr_num.specs.declared.elem.Elem.{Elem}
use Rattle.arr_num.specs.Numbers.{in_type}
use Rattle.arr_view.specs.Strided.{Strided}
pub use Rattle.arr_num.specs.Types.{same_elem_refl}
use Rattle.arr_ops.specs.Ops.{inputs}
use Rattle.arr_ops.specs.Memory.{Cell, eager}
use Rattle.arr_ops.specs.Formed.{same_elem}
use Rattle.arr_ops.specs.Laws.{IndependentCommute, NumbersStayTyped, holds_type}
use Rattle.arr_ops.proofs.Pairs.{All_weaker}
use Rattle.arr_ops.proofs.Plans.{Beside, beside_all, commute_beside}
use Rattle.arr_ops.proofs.Spots.{all_right, pairs_after, formed_of, held}
use Rattle.arr_ops.proofs.Tests.{test_all}
use Rattle.arr_ops.proofs.Typed.{CellFits, AllIn}

pub independent_commute : IndependentCommute
independent_commute front between back f g m formed apart =
    let beside : AllByRecursion (Beside f) (between ++ g ∷ back) = pairs_after Beside front f (between ++ g ∷ back) (beside_all (front ++ f ∷ (between ++ g ∷ back)) formed) in
    commute_beside f g (all_right (Beside f) between (g ∷ back) beside).0 apart m

cell_test : (t : Elem) (c : Option Cell) → CellFits t c → holds_type t c ≡ true
cell_test t None h = refl
cell_test t (Some c) h =
    and_from (same_elem c.elem t) _ (ap (λ u. same_elem u t) h.0 ∙ same_elem_refl t)
    (test_all (in_type c.elem) c.numbers (subst (λ u. AllIn u c.numbers) (sym h.0) h.1))

pub numbers_stay : NumbersStayTyped
numbers_stay front back op m formed fit =
    test_all (λ (v : Strided). holds_type op.from ((eager m front).bases v.base)) (inputs op)
    (All_weaker (λ (v : Strided). CellFits op.from ((eager m front).bases v.base)) (λ (v : Strided). holds_type op.from ((eager m front).bases v.base) ≡ true)
    (λ v h. cell_test op.from ((eager m front).bases v.base) h) (inputs op) (held m front back op (formed_of (front ++ op ∷ back) formed) fit))
