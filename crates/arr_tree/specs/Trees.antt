-- The trees of a script, each with the place that it bears.
use Rattle.std.specs.Prelude.{ℕ, ℤ, pos, neg_ℤ, Bool, true, false, List, Option}
use Rattle.arr_tree.specs.declared.refusal.Place.{Place}
use Rattle.arr_tree.specs.declared.tree.Code16.{Code16}
use Rattle.arr_tree.specs.declared.tree.Type4.{Type4}
use Rattle.arr_tree.specs.declared.tree.Cut.{Cut}
use Rattle.arr_tree.specs.declared.tree.Lengths.{Lengths}
use Rattle.arr_tree.specs.declared.tree.Steps.{Steps}
use Rattle.arr_tree.specs.declared.tree.Word.{Word}
use Rattle.arr_tree.specs.declared.tree.Expr.{Expr}
use Rattle.arr_tree.specs.declared.tree.ExprForm.TheVariants as expr
use Rattle.arr_tree.specs.declared.tree.Form.TheVariants as form
use Rattle.arr_tree.specs.declared.tree.Statement.{Statement}

-- the number of a literal
abbrev pub signed : Bool → ℕ → ℤ
signed false n = pos n
signed true n = neg_ℤ (pos n)

-- expressions, and what stands in them

abbrev pub literal_at : Place → Bool → ℕ → Expr
literal_at at negative size = record { at = at; form = expr.Literal negative size }

abbrev pub word_at : Place → List ℕ → Word
word_at at text = record { text = text; at = at }

abbrev pub name_of : Word → Expr
name_of w = record { at = w.at; form = expr.Name w }

abbrev pub unary_at : Place → Code16 → Expr → Expr
unary_at at c of = record { at = at; form = expr.Unary c of }

abbrev pub binary_at : Place → Code16 → Expr → Expr → Expr
binary_at at c left right = record { at = at; form = expr.Binary c left right }

abbrev pub power_at : Place → Expr → ℕ → Expr
power_at at of n = record { at = at; form = expr.Power of n }

abbrev pub fold_at : Place → Code16 → Expr → ℕ → Place → Expr
fold_at at c of axis axis_at = record { at = at; form = expr.Fold c of axis axis_at }

abbrev pub cast_at : Place → Type4 → Expr → Expr
cast_at at to of = record { at = at; form = expr.Cast to of }

abbrev pub range_at : Place → ℕ → Place → Type4 → Expr
range_at at count count_at to = record { at = at; form = expr.Range count count_at to }

abbrev pub lengths_at : Place → List ℕ → Lengths
lengths_at at list = record { at = at; list = list }

abbrev pub steps_at : Place → List ℤ → Steps
steps_at at list = record { at = at; list = list }

abbrev pub full_at : Place → Lengths → Expr → Type4 → Expr
full_at at shape literal to = record { at = at; form = expr.Full shape literal to }

abbrev pub index_at : Place → Expr → List Cut → Expr
index_at at of slices = record { at = at; form = expr.Index of slices }

abbrev pub broadcast_at : Place → Expr → Lengths → Expr
broadcast_at at of shape = record { at = at; form = expr.Broadcast of shape }

abbrev pub transpose_at : Place → Expr → Expr
transpose_at at of = record { at = at; form = expr.Transpose of }

abbrev pub reshape_at : Place → Expr → Lengths → Expr
reshape_at at of shape = record { at = at; form = expr.Reshape of shape }

abbrev pub strided_at : Place → Expr → ℕ → Lengths → Steps → Expr
strided_at at of start shape strides = record { at = at; form = expr.Strided of start shape strides }

abbrev pub cut : Option ℕ → Option ℕ → Option ℤ → Cut
cut start stop step = record { start = start; stop = stop; step = step }

-- statements

abbrev pub print_of : Expr → Statement
print_of value = record { form = form.Print value }

abbrev pub delete_of : Word → Statement
delete_of name = record { form = form.Del name }

abbrev pub flush_of : Statement
flush_of = record { form = form.Flush }

abbrev pub bind_of : Word → Expr → Statement
bind_of name value = record { form = form.Bind name value }

abbrev pub assign_of : Expr → Place → Expr → Statement
assign_of target equals value = record { form = form.Assign target equals value }

abbrev pub gather_of : Word → Place → Expr → Expr → Statement
gather_of name at source index = record { form = form.Gather name at source index }

abbrev pub scatter_of : Place → Expr → Expr → Expr → Statement
scatter_of at target index values = record { form = form.Scatter at target index values }
