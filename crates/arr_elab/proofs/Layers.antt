-- An expression by its outermost form.
use Rattle.std.proofs.Common.{◌≡◌, sym, ◌∙◌, ap, ℕ}
use Rattle.arr_tree.specs.declared.refusal.Place.{Place}
use Rattle.arr_tree.specs.declared.tree.Type4.{Type4}
use Rattle.arr_tree.specs.declared.tree.Expr.{Expr, fold_out-Expr}
use Rattle.arr_tree.specs.declared.tree.ExprForm.TheFolds.{fold-ExprForm, fold-roll-ExprForm}
use Rattle.arr_tree.specs.declared.tree.ExprForm.TheOpen.{ExprForm-F}
use Rattle.arr_tree.specs.declared.tree.ExprForm.TheVariants as form
use Rattle.arr_elab.specs.declared.value.Prepared.{Prepared}
use Rattle.arr_elab.specs.State.{Reading}
use Rattle.arr_elab.specs.Expressions.{range}
use Rattle.arr_elab.specs.Outcome.{by_form, prepared}

pub prepared_range : (e : Expr) (n : ℕ) (n_at : Place) (to : Type4) → e.form ≡ form.Range n n_at to → prepared e ≡ range e.at n n_at to
prepared_range e n n_at to h =
    fold_out-Expr (Place → Reading Prepared) (Reading Prepared) by_form (λ e. e.form e.at) e
    ∙ ap (λ f. fold-ExprForm (Place → Reading Prepared) (Reading Prepared) by_form (λ e. e.form e.at) f e.at) (h ∙ sym (form.rolls-Range n n_at to))
    ∙ ap (λ (f : Place → Reading Prepared). f e.at) (fold-roll-ExprForm (Place → Reading Prepared) (Reading Prepared) by_form (λ e. e.form e.at) (ExprForm-F.Range n n_at to))
