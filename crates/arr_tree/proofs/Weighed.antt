-- The weight of each form.
use Rattle.std.proofs.Common.{◌≡◌, ℕ, ◌+◌, Bool, List, ap, sym, ◌∙◌}
use Rattle.arr_tree.specs.declared.refusal.Place.{Place}
use Rattle.arr_tree.specs.declared.tree.Code16.{Code16}
use Rattle.arr_tree.specs.declared.tree.Type4.{Type4}
use Rattle.arr_tree.specs.declared.tree.Cut.{Cut}
use Rattle.arr_tree.specs.declared.tree.Word.{Word}
use Rattle.arr_tree.specs.declared.tree.Lengths.{Lengths}
use Rattle.arr_tree.specs.declared.tree.Steps.{Steps}
use Rattle.arr_tree.specs.declared.tree.Expr.{Expr}
use Rattle.arr_tree.specs.declared.tree.ExprForm.{ExprForm, roll-ExprForm}
use Rattle.arr_tree.specs.declared.tree.ExprForm.TheOpen.{ExprForm-F}
use Rattle.arr_tree.specs.declared.tree.ExprForm.TheFolds.{map-ExprForm, fold-ExprForm, fold-roll-ExprForm, fold-roll-Expr}
use Rattle.arr_tree.specs.declared.tree.ExprForm.TheVariants as expr
use Rattle.arr_tree.specs.Trees.{literal_at, unary_at, binary_at, power_at, fold_at, cast_at, range_at, full_at, index_at, broadcast_at, transpose_at, reshape_at, strided_at}
use Rattle.arr_tree.specs.Weights.{weight_of, weight}

abbrev pub weight_form : ExprForm → ℕ
weight_form = fold-ExprForm ℕ ℕ weight_of (λ e. e.form)

pub weighs : (at : Place) (y : ExprForm-F ExprForm Expr) (f : ExprForm) → roll-ExprForm y ≡ f → weight (record { at = at; form = f }) ≡ weight_of (map-ExprForm ExprForm Expr ℕ ℕ weight_form weight y)
weighs at y f e = fold-roll-Expr ℕ ℕ weight_of (λ e. e.form) (record { at = at; form = f }) ∙ ap weight_form (sym e) ∙ fold-roll-ExprForm ℕ ℕ weight_of (λ e. e.form) y

module _ (at : Place) where
  pub weighs_literal : (negative : Bool) (size : ℕ) → weight (literal_at at negative size) ≡ 0
  weighs_literal negative size = weighs at (ExprForm-F.Literal negative size) _ (expr.rolls-Literal negative size)

  pub weighs_name : (word : Word) → weight (record { at = at; form = expr.Name word }) ≡ 0
  weighs_name word = weighs at (ExprForm-F.Name word) _ (expr.rolls-Name word)

  pub weighs_unary : (c : Code16) (of : Expr) → weight (unary_at at c of) ≡ weight of + 1
  weighs_unary c of = weighs at (ExprForm-F.Unary c of) _ (expr.rolls-Unary c of)

  pub weighs_binary : (c : Code16) (left right : Expr) → weight (binary_at at c left right) ≡ weight left + weight right + 1
  weighs_binary c left right = weighs at (ExprForm-F.Binary c left right) _ (expr.rolls-Binary c left right)

  pub weighs_power : (of : Expr) (exponent : ℕ) → weight (power_at at of exponent) ≡ weight of + 1
  weighs_power of exponent = weighs at (ExprForm-F.Power of exponent) _ (expr.rolls-Power of exponent)

  pub weighs_fold : (c : Code16) (of : Expr) (axis : ℕ) (axis_at : Place) → weight (fold_at at c of axis axis_at) ≡ weight of + 1
  weighs_fold c of axis axis_at = weighs at (ExprForm-F.Fold c of axis axis_at) _ (expr.rolls-Fold c of axis axis_at)

  pub weighs_cast : (to : Type4) (of : Expr) → weight (cast_at at to of) ≡ weight of + 1
  weighs_cast to of = weighs at (ExprForm-F.Cast to of) _ (expr.rolls-Cast to of)

  pub weighs_range : (count : ℕ) (count_at : Place) (to : Type4) → weight (range_at at count count_at to) ≡ 1
  weighs_range count count_at to = weighs at (ExprForm-F.Range count count_at to) _ (expr.rolls-Range count count_at to)

  pub weighs_full : (shape : Lengths) (number : Expr) (to : Type4) → weight (full_at at shape number to) ≡ weight number + 1
  weighs_full shape number to = weighs at (ExprForm-F.Full shape number to) _ (expr.rolls-Full shape number to)

  pub weighs_index : (of : Expr) (cuts : List Cut) → weight (index_at at of cuts) ≡ weight of
  weighs_index of cuts = weighs at (ExprForm-F.Index of cuts) _ (expr.rolls-Index of cuts)

  pub weighs_broadcast : (of : Expr) (shape : Lengths) → weight (broadcast_at at of shape) ≡ weight of
  weighs_broadcast of shape = weighs at (ExprForm-F.Broadcast of shape) _ (expr.rolls-Broadcast of shape)

  pub weighs_transpose : (of : Expr) → weight (transpose_at at of) ≡ weight of
  weighs_transpose of = weighs at (ExprForm-F.Transpose of) _ (expr.rolls-Transpose of)

  pub weighs_reshape : (of : Expr) (shape : Lengths) → weight (reshape_at at of shape) ≡ weight of
  weighs_reshape of shape = weighs at (ExprForm-F.Reshape of shape) _ (expr.rolls-Reshape of shape)

  pub weighs_strided : (of : Expr) (start : ℕ) (shape : Lengths) (strides : Steps) → weight (strided_at at of start shape strides) ≡ weight of
  weighs_strided of start shape strides = weighs at (ExprForm-F.Strided of start shape strides) _ (expr.rolls-Strided of start shape strides)
