-- What a script does: its steps, or the first refusal.
use Rattle.std.specs.Prelude.{◌≡◌, ℕ, List, [], ◌∷◌, Bool, false, not, ◌||◌, nat_lt, length, if◌then◌else◌, Option, Some, None, is_some, Ok}
use Rattle.std.specs.List.{count_by}
use Rattle.arr_num.specs.declared.code.Code.TheVariants as code
use Rattle.arr_num.specs.Numbers.{in_type}
use Rattle.arr_num.specs.Types.{same_elem}
use Rattle.arr_view.specs.Strided.{Strided}
use Rattle.arr_view.specs.Views.{repeats, same_lists}
use Rattle.arr_ops.specs.declared.op.Operand.TheVariants as operand
use Rattle.arr_shape.specs.Views.{spread}
use Rattle.arr_tree.specs.declared.refusal.Place.{Place}
use Rattle.arr_tree.specs.declared.refusal.Kind.TheVariants.{TypeMismatch, LiteralRange, ShapeMismatch, OutputRepeats, TooManyNames}
use Rattle.arr_tree.specs.declared.tree.Expr.{Expr, fold-Expr}
use Rattle.arr_tree.specs.declared.tree.ExprForm.TheOpen.{ExprForm-F}
use Rattle.arr_tree.specs.declared.tree.Word.{Word}
use Rattle.arr_tree.specs.declared.tree.Form.{Form}
use Rattle.arr_tree.specs.declared.tree.Form.TheVariants as form
use Rattle.arr_tree.specs.declared.tree.Statement.{Statement}
use Rattle.arr_elab.specs.declared.value.Array.{Array}
use Rattle.arr_elab.specs.declared.value.Value.TheVariants as value
use Rattle.arr_elab.specs.declared.value.Prepared.{Prepared}
use Rattle.arr_elab.specs.declared.value.Prepared.TheVariants.{Ready, Open}
use Rattle.arr_elab.specs.declared.step.Step.{Step}
use Rattle.arr_elab.specs.declared.step.Step.TheVariants.{Name, Forget, Done, Cut, Gather, Scatter}
use Rattle.arr_elab.specs.State.{State, Names, Reading, Checked, and_then, ◌>>=◌, ◌>>◌, pure, require, ruled, known, step, act, fresh, stands_for, number_of, with_name, is_bound, most_names, nothing_yet}
use Rattle.arr_elab.specs.Expressions.{operation, onto, taken, written, settled, array_of, array, lookup, named, literal, unary, cast, power, binary, fold, range, full, index, broadcasted, transposed, reshaped, strided_anew}

-- ---- an expression, by its form

-- one layer, with what each argument stands for in its place
abbrev pub by_form : ExprForm-F (Place → Reading Prepared) (Reading Prepared) → Place → Reading Prepared
by_form (ExprForm-F.Literal negative size) at = literal at negative size
by_form (ExprForm-F.Name word) at = named word
by_form (ExprForm-F.Unary code of) at = unary at code of
by_form (ExprForm-F.Binary code left right) at = binary at code left right
by_form (ExprForm-F.Power of exponent) at = power at of exponent
by_form (ExprForm-F.Fold code of axis axis_at) at = fold at code of axis axis_at
by_form (ExprForm-F.Cast to of) at = cast at to of
by_form (ExprForm-F.Range count count_at to) at = range at count count_at to
by_form (ExprForm-F.Full shape number to) at = full at shape number to
by_form (ExprForm-F.Index of slices) at = index at of slices
by_form (ExprForm-F.Broadcast of shape) at = broadcasted at of shape
by_form (ExprForm-F.Transpose of) at = transposed of
by_form (ExprForm-F.Reshape of shape) at = reshaped at of shape
by_form (ExprForm-F.Strided of start shape strides) at = strided_anew at of start shape strides

abbrev pub prepared : Expr → Reading Prepared
prepared = fold-Expr (Place → Reading Prepared) (Reading Prepared) by_form (λ e. e.form e.at)

-- ---- targets

abbrev pub copied : Array → Strided → Array → Place → Reading (Unit {0})
copied target view source equals =
    require (not (repeats target.view)) equals OutputRepeats
    >> act (onto (operation code.Identity target.elem source.elem (taken view) None None) target.view false)

-- an array is spread to the target
abbrev pub assigned : Array → Place → Array → Reading (Unit {0})
assigned target equals source = do
  require (same_elem target.elem source.elem) equals TypeMismatch
  view ← ruled equals (spread source.view target.view.lengths)
  copied target view source equals

-- the outermost operation writes the target itself where its shape is the target's
abbrev pub stored : Array → Place → Prepared → Reading (Unit {0})
stored target equals (Ready (value.Literal at number)) = do
  require (in_type target.elem number) at LiteralRange
  require (not (repeats target.view)) equals OutputRepeats
  act (onto (operation code.Identity target.elem target.elem (Some (operand.Number number)) None None) target.view false)
stored target equals (Ready (value.Array source)) = assigned target equals source
stored target equals (Open p) =
    if same_lists p.shape target.view.lengths
    then (require (same_elem target.elem p.op.to) equals TypeMismatch >> require (not (repeats target.view)) equals OutputRepeats >> act (onto p.op target.view false))
    else (written p >>= assigned target equals)

-- ---- names

-- the names that are bound
abbrev pub bound : Names → ℕ
bound names = count_by is_bound names

abbrev pub set_name : List ℕ → Option Array → Reading (Unit {0})
set_name name array = λ s. Ok (tt, record s { names = with_name s.names name array })

-- the name is bound, or fewer than so many are
abbrev pub may_bind : Names → List ℕ → Bool
may_bind names name = is_some (stands_for names name) || nat_lt (bound names) most_names

-- no more than so many names are bound at once
abbrev pub bind : Word → Array → Reading (Unit {0})
bind word array = do
  s ← known
  require (may_bind s.names word.text) word.at TooManyNames
  set_name word.text (Some array)
  step (Name (number_of s.names word.text) array.view.base)

abbrev pub forget : Word → Reading (Unit {0})
forget word = do
  s ← known
  old ← lookup word
  set_name word.text None
  step (Forget (number_of s.names word.text))

-- ---- gathers and scatters

-- a fresh base of the index's shape takes numbers of the source, and the name stands for it
abbrev pub gather_arrays : Word → Place → Array → Array → Reading (Unit {0})
gather_arrays word at source index = do
  out ← fresh at index.view.lengths
  step (Gather (record { out = out; source = source.view; index = index.view; to = source.elem; of = index.elem }))
  bind word (record { view = out; elem = source.elem })

abbrev pub scatter_arrays : Place → Array → Array → Array → Reading (Unit {0})
scatter_arrays at target index values = do
  require (same_elem target.elem values.elem) at TypeMismatch
  require (same_lists index.view.lengths values.view.lengths) at ShapeMismatch
  require (not (repeats target.view)) at OutputRepeats
  step (Scatter (record { target = target.view; index = index.view; values = values.view; to = target.elem; of = index.elem }))

-- whether an argument is an array is asked when all of them are read
abbrev pub gather : Word → Place → Reading Prepared → Reading Prepared → Reading (Unit {0})
gather word at source index = do
  x ← source >>= settled
  y ← index >>= settled
  a ← array_of x
  b ← array_of y
  gather_arrays word at a b

abbrev pub scatter : Place → Reading Prepared → Reading Prepared → Reading Prepared → Reading (Unit {0})
scatter at target index values = do
  x ← target >>= settled
  y ← index >>= settled
  z ← values >>= settled
  a ← array_of x
  b ← array_of y
  c ← array_of z
  scatter_arrays at a b c

-- ---- statements

abbrev pub effect : Form → Reading (Unit {0})
effect (form.Print e) = do
  x ← array (prepared e)
  act (operation code.Sync x.elem x.elem (taken x.view) None None)
effect (form.Del word) = forget word
effect form.Flush = step Cut
effect (form.Bind word e) = array (prepared e) >>= bind word
effect (form.Assign target equals e) = do
  place ← array (prepared target)
  p ← prepared e
  stored place equals p
effect (form.Gather word at source index) = gather word at (prepared source) (prepared index)
effect (form.Scatter at target index values) = scatter at (prepared target) (prepared index) (prepared values)

-- a statement begins: the bases from here on are its own
abbrev pub begin : Reading (Unit {0})
begin = λ s. Ok (tt, record s { first = length s.bases })

abbrev pub statement : Statement → Reading (Unit {0})
statement s = do
  begin
  effect s.form
  step Done

abbrev pub statements : List Statement → Reading (Unit {0})
statements [] = pure tt
statements (s ∷ ss) = statement s >> statements ss

-- the steps of a script, or its first refusal
abbrev pub outcome : List Statement → Checked (List Step)
outcome script = and_then (statements script nothing_yet) (λ done. Ok done.1.steps)

-- ---- on the way

-- where some statements lead
abbrev pub IsReached : State → Type 0
IsReached s = (read : List Statement) × (statements read nothing_yet ≡ Ok (tt, s))

-- where one more begins
abbrev pub IsBegun : State → Type 0
IsBegun s = (old : State) × IsReached old × (begin old ≡ Ok (tt, s))
