-- What the forms of expressions give, one step of a definition at a time.
use Rattle.std.proofs.Common.{◌≡◌, sym, ◌∙◌, ap, subst, ℕ, List, true, Some, None}
use Rattle.std.specs.Prelude.{Ok, Err, Result}
use Rattle.arr_num.specs.declared.code.Code.{Code}
use Rattle.arr_num.specs.Types.{same_elem}
use Rattle.arr_ops.specs.declared.op.Operand.TheVariants as operand
use Rattle.arr_view.specs.Strided.{Strided}
use Rattle.arr_shape.specs.Shapes.{broadcast}
use Rattle.arr_shape.specs.Views.{spread}
use Rattle.arr_tree.specs.declared.refusal.Place.{Place}
use Rattle.arr_elab.specs.declared.value.Array.{Array}
use Rattle.arr_elab.specs.declared.value.Value.TheVariants as value
use Rattle.arr_elab.specs.declared.value.Prepared.{Prepared}
use Rattle.arr_elab.specs.declared.value.Prepared.TheVariants.{Open}
use Rattle.arr_elab.specs.declared.fault.ElabFault.{ElabFault}
use Rattle.arr_elab.specs.Contract.{Reads}
use Rattle.arr_elab.specs.State.{State, Checked, and_then}
use Rattle.arr_elab.specs.Codes.{result_type}
use Rattle.arr_elab.specs.Expressions.{joined, operation}

pub arrays_joined : (at : Place) (code : Code) (a b : Array) (lengths shape shape' : List ℕ) (x y : Strided) (p : Prepared) (s : State) →
    true ≡ same_elem a.elem b.elem → Ok lengths ≡ broadcast a.view.lengths b.view.lengths → shape ≡ lengths → Ok x ≡ spread a.view shape → shape' ≡ lengths → Ok y ≡ spread b.view shape' →
    p ≡ Open (record { at = at; shape = lengths; op = operation code (result_type code a.elem) a.elem (Some (operand.Array x)) (Some (operand.Array y)) None }) →
    joined at code (value.Array a) (value.Array b) s ≡ Ok (p, s)
arrays_joined at code a b lengths shape shape' x y p s e h i j k l q =
    let j' : spread a.view lengths ≡ Ok x = ap (spread a.view) (sym i) ∙ sym j in
    let l' : spread b.view lengths ≡ Ok y = ap (spread b.view) (sym k) ∙ sym l in
    rw (sym e) (rw (sym h) (rw j' (rw l' (ap (λ p. Ok (p, s)) (sym q)))))

-- what refuses a part refuses the whole
pub refused_by : {A B : Type 0} (got : Checked (A × State)) (f : A × State → Checked (B × State)) (whole : Checked (B × State)) (x : Result A ElabFault) (y : Result B ElabFault) (e : ElabFault) (s : State)
    → whole ≡ and_then got f → x ≡ Err e → y ≡ Err e → Reads got x s → Reads whole y s
refused_by {A} {B} got f whole x y e s w h k g =
    subst (λ (r : Result B ElabFault). Reads whole r s) (sym k) (λ r i. w ∙ ap (λ o. and_then o f) (subst (λ (r : Result A ElabFault). Reads got r s) h g r i))
