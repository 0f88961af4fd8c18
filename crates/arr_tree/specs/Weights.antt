-- The most operations that a tree records: its weight.
use Rattle.std.specs.Prelude.{ℕ, ◌+◌, List, [], ◌∷◌}
use Rattle.arr_tree.specs.declared.tree.Expr.{Expr, fold-Expr}
use Rattle.arr_tree.specs.declared.tree.ExprForm.TheOpen.{ExprForm-F}
use Rattle.arr_tree.specs.declared.tree.Form.{Form}
use Rattle.arr_tree.specs.declared.tree.Form.TheVariants as form
use Rattle.arr_tree.specs.declared.tree.Statement.{Statement}

-- one for each form that makes an operation, and those of the arguments
abbrev pub weight_of : ExprForm-F ℕ ℕ → ℕ
weight_of (ExprForm-F.Literal negative size) = 0
weight_of (ExprForm-F.Name word) = 0
weight_of (ExprForm-F.Unary code of) = of + 1
weight_of (ExprForm-F.Binary code left right) = left + right + 1
weight_of (ExprForm-F.Power of exponent) = of + 1
weight_of (ExprForm-F.Fold code of axis axis_at) = of + 1
weight_of (ExprForm-F.Cast to of) = of + 1
weight_of (ExprForm-F.Range count count_at to) = 1
weight_of (ExprForm-F.Full shape number to) = number + 1
weight_of (ExprForm-F.Index of slices) = of
weight_of (ExprForm-F.Broadcast of shape) = of
weight_of (ExprForm-F.Transpose of) = of
weight_of (ExprForm-F.Reshape of shape) = of
weight_of (ExprForm-F.Strided of start shape strides) = of

abbrev pub weight : Expr → ℕ
weight = fold-Expr ℕ ℕ weight_of (λ e. e.form)

-- a print and an assignment may add one of their own
abbrev pub form_weight : Form → ℕ
form_weight (form.Print e) = weight e + 1
form_weight (form.Del word) = 0
form_weight form.Flush = 0
form_weight (form.Bind word e) = weight e
form_weight (form.Assign target equals e) = weight target + weight e + 1
form_weight (form.Gather word at source index) = weight source + weight index + 1
form_weight (form.Scatter at target index values) = weight target + weight index + weight values + 1

abbrev pub script_weight : List Statement → ℕ
script_weight [] = 0
script_weight (s ∷ ss) = form_weight s.form + script_weight ss
