-- An expression by its outermost form, for the forms that a script of the demo has.
use Rattle.std.proofs.Common.{◌≡◌, sym, ◌∙◌, ap, ℕ, Bool, List}
use Rattle.arr_tree.specs.declared.refusal.Place.{Place}
use Rattle.arr_tree.specs.declared.tree.Type4.{Type4}
use Rattle.arr_tree.specs.declared.tree.Code16.{Code16}
use Rattle.arr_tree.specs.declared.tree.Cut.{Cut}
use Rattle.arr_tree.specs.declared.tree.Word.{Word}
use Rattle.arr_tree.specs.declared.tree.Lengths.{Lengths}
use Rattle.arr_tree.specs.declared.tree.Expr.{Expr, fold_out-Expr}
use Rattle.arr_tree.specs.declared.tree.ExprForm.{ExprForm, roll-ExprForm}
use Rattle.arr_tree.specs.declared.tree.ExprForm.TheFolds.{fold-ExprForm, fold-roll-ExprForm}
use Rattle.arr_tree.specs.declared.tree.ExprForm.TheOpen.{ExprForm-F}
use Rattle.arr_tree.specs.declared.tree.ExprForm.TheVariants as form
use Rattle.arr_tree.specs.Trees.{name_of, literal_at, binary_at, fold_at, range_at, index_at, reshape_at}
use Rattle.arr_elab.specs.Expressions.{named, literal, binary, fold, range, index, reshaped}
use Rattle.arr_elab.specs.Outcome.{by_form, prepared}

by : (at : Place) (x : ExprForm) (y : ExprForm-F ExprForm Expr) → roll-ExprForm y ≡ x → prepared (record { at = at; form = x }) ≡ fold-ExprForm _ _ by_form (λ e. e.form e.at) (roll-ExprForm y) at
by at x y h =
    fold_out-Expr _ _ by_form (λ e. e.form e.at) (record { at = at; form = x })
    ∙ ap (λ f. fold-ExprForm _ _ by_form (λ e. e.form e.at) f at) (sym h)

pub prepared_name : (word : Word) → prepared (name_of word) ≡ named word
prepared_name word =
    by word.at (form.Name word) (ExprForm-F.Name word) (form.rolls-Name word) ∙ ap (λ f. f word.at) (fold-roll-ExprForm _ _ by_form (λ e. e.form e.at) (ExprForm-F.Name word))

pub prepared_literal : (at : Place) (negative : Bool) (size : ℕ) → prepared (literal_at at negative size) ≡ literal at negative size
prepared_literal at negative size =
    by at (form.Literal negative size) (ExprForm-F.Literal negative size) (form.rolls-Literal negative size) ∙ ap (λ f. f at) (fold-roll-ExprForm _ _ by_form (λ e. e.form e.at) (ExprForm-F.Literal negative size))

pub prepared_binary : (at : Place) (code : Code16) (left right : Expr) → prepared (binary_at at code left right) ≡ binary at code (prepared left) (prepared right)
prepared_binary at code left right =
    by at (form.Binary code left right) (ExprForm-F.Binary code left right) (form.rolls-Binary code left right) ∙ ap (λ f. f at) (fold-roll-ExprForm _ _ by_form (λ e. e.form e.at) (ExprForm-F.Binary code left right))

pub prepared_fold : (at : Place) (code : Code16) (of : Expr) (axis : ℕ) (axis_at : Place) → prepared (fold_at at code of axis axis_at) ≡ fold at code (prepared of) axis axis_at
prepared_fold at code of axis axis_at =
    by at (form.Fold code of axis axis_at) (ExprForm-F.Fold code of axis axis_at) (form.rolls-Fold code of axis axis_at) ∙ ap (λ f. f at) (fold-roll-ExprForm _ _ by_form (λ e. e.form e.at) (ExprForm-F.Fold code of axis axis_at))

pub prepared_range : (at : Place) (count : ℕ) (count_at : Place) (to : Type4) → prepared (range_at at count count_at to) ≡ range at count count_at to
prepared_range at count count_at to =
    by at (form.Range count count_at to) (ExprForm-F.Range count count_at to) (form.rolls-Range count count_at to) ∙ ap (λ f. f at) (fold-roll-ExprForm _ _ by_form (λ e. e.form e.at) (ExprForm-F.Range count count_at to))

pub prepared_index : (at : Place) (of : Expr) (cuts : List Cut) → prepared (index_at at of cuts) ≡ index at (prepared of) cuts
prepared_index at of cuts =
    by at (form.Index of cuts) (ExprForm-F.Index of cuts) (form.rolls-Index of cuts) ∙ ap (λ f. f at) (fold-roll-ExprForm _ _ by_form (λ e. e.form e.at) (ExprForm-F.Index of cuts))

pub prepared_reshape : (at : Place) (of : Expr) (shape : Lengths) → prepared (reshape_at at of shape) ≡ reshaped at (prepared of) shape
prepared_reshape at of shape =
    by at (form.Reshape of shape) (ExprForm-F.Reshape of shape) (form.rolls-Reshape of shape) ∙ ap (λ f. f at) (fold-roll-ExprForm _ _ by_form (λ e. e.form e.at) (ExprForm-F.Reshape of shape))
