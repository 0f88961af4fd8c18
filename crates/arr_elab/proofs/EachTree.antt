-- Every expression keeps a scene.
use Rattle.std.proofs.Common.{sym, subst}
use Rattle.arr_tree.specs.declared.refusal.Place.{Place}
use Rattle.arr_tree.specs.declared.tree.Expr.{Expr}
use Rattle.arr_tree.specs.declared.tree.ExprForm.{ExprForm}
use Rattle.arr_tree.specs.declared.tree.ExprForm.TheOpen.{ExprForm-F}
use Rattle.arr_tree.specs.declared.tree.ExprForm.TheFolds.{map-ExprForm, fold-ExprForm, fold-roll-ExprForm, fold-roll-Expr, ind-Expr}
use Rattle.arr_elab.specs.declared.value.Prepared.{Prepared}
use Rattle.arr_elab.specs.State.{Reading}
use Rattle.arr_elab.specs.Outcome.{by_form, prepared}
use Rattle.arr_elab.proofs.Sound.{Sound, IsPrepared}
use Rattle.arr_elab.proofs.EachForm.{named_sound, literal_sound, unary_sound, cast_sound, power_sound, fold_sound, binary_sound, range_sound, full_sound, index_sound, broadcasted_sound, transposed_sound, reshaped_sound, strided_sound}

-- the form of an expression, once its place is known
abbrev prepared_form : ExprForm → Place → Reading Prepared
prepared_form = fold-ExprForm (Place → Reading Prepared) (Reading Prepared) by_form (λ e. e.form e.at)

abbrev IsSoundForm : ExprForm → Type 0
IsSoundForm f = (at : Place) → Sound IsPrepared (prepared_form f at)

abbrev IsSound : Expr → Type 0
IsSound e = Sound IsPrepared (prepared e)

-- one layer, with a proof beside each argument
layer_sound : (y : ExprForm-F ((f : ExprForm) × IsSoundForm f) ((e : Expr) × IsSound e)) (at : Place)
    → Sound IsPrepared (by_form (map-ExprForm ExprForm Expr (Place → Reading Prepared) (Reading Prepared) prepared_form prepared (map-ExprForm ((f : ExprForm) × IsSoundForm f) ((e : Expr) × IsSound e) ExprForm Expr (λ f. f.0) (λ e. e.0) y)) at)
layer_sound (ExprForm-F.Literal negative size) at = literal_sound at negative size
layer_sound (ExprForm-F.Name word) at = named_sound word
layer_sound (ExprForm-F.Unary c of) at = unary_sound at c (prepared of.0) of.1
layer_sound (ExprForm-F.Binary c left right) at = binary_sound at c (prepared left.0) (prepared right.0) left.1 right.1
layer_sound (ExprForm-F.Power of exponent) at = power_sound at (prepared of.0) exponent of.1
layer_sound (ExprForm-F.Fold c of axis axis_at) at = fold_sound at c (prepared of.0) axis axis_at of.1
layer_sound (ExprForm-F.Cast to of) at = cast_sound at to (prepared of.0) of.1
layer_sound (ExprForm-F.Range count count_at to) at = range_sound at count count_at to
layer_sound (ExprForm-F.Full shape number to) at = full_sound at shape (prepared number.0) to number.1
layer_sound (ExprForm-F.Index of slices) at = index_sound at (prepared of.0) slices of.1
layer_sound (ExprForm-F.Broadcast of shape) at = broadcasted_sound at (prepared of.0) shape of.1
layer_sound (ExprForm-F.Transpose of) at = transposed_sound (prepared of.0) of.1
layer_sound (ExprForm-F.Reshape of shape) at = reshaped_sound at (prepared of.0) shape of.1
layer_sound (ExprForm-F.Strided of start shape strides) at = strided_sound at (prepared of.0) start shape strides of.1

-- y is x with a proof beside each argument
pub prepared_sound : (e : Expr) → Sound IsPrepared (prepared e)
prepared_sound = ind-Expr IsSoundForm IsSound
    (λ x y is at.
    subst (λ read. Sound IsPrepared (read at)) (sym (fold-roll-ExprForm (Place → Reading Prepared) (Reading Prepared) by_form (λ e. e.form e.at) x))
    (subst (λ z. Sound IsPrepared (by_form (map-ExprForm ExprForm Expr (Place → Reading Prepared) (Reading Prepared) prepared_form prepared z) at)) is (layer_sound y at)))
    (λ x y is.
    subst (Sound IsPrepared) (sym (fold-roll-Expr (Place → Reading Prepared) (Reading Prepared) by_form (λ e. e.form e.at) x))
    (subst (λ z. Sound IsPrepared (prepared_form z.form z.at)) is (y.form.1 y.at)))
