-- An accepted script records no more operations than its trees weigh.
use Rattle.std.proofs.Common.{◌≡◌, ℕ, ◌+◌, ◌≤◌, List, [], ◌∷◌, ◌++◌, Bool, true, false, cond, not, ◌||◌, length, refl, ap, sym, subst, arith}
use Rattle.std.specs.Prelude.{nat_lt, Option, Some, None, is_some, Ok, Err}
use Rattle.arr_num.specs.declared.code.Code.TheVariants as code
use Rattle.arr_num.specs.Numbers.{in_type}
use Rattle.arr_view.specs.Views.{repeats, same_lists}
use Rattle.arr_ops.specs.declared.op.Op.{Op}
use Rattle.arr_ops.specs.declared.op.Operand.TheVariants as operand
use Rattle.arr_num.specs.Types.{same_elem}
use Rattle.arr_shape.specs.Views.{spread}
use Rattle.arr_tree.specs.declared.refusal.Place.{Place}
use Rattle.arr_tree.specs.declared.refusal.Kind.TheVariants.{TypeMismatch, LiteralRange, ShapeMismatch, UnknownName, OutputRepeats, TooManyNames}
use Rattle.arr_tree.specs.declared.tree.Word.{Word}
use Rattle.arr_tree.specs.declared.tree.Expr.{Expr}
use Rattle.arr_tree.specs.declared.tree.ExprForm.{ExprForm, roll-ExprForm}
use Rattle.arr_tree.specs.declared.tree.ExprForm.TheOpen.{ExprForm-F}
use Rattle.arr_tree.specs.declared.tree.ExprForm.TheFolds.{map-ExprForm, fold-ExprForm, fold-roll-ExprForm, fold-roll-Expr, ind-Expr}
use Rattle.arr_tree.specs.declared.tree.Form.{Form}
use Rattle.arr_tree.specs.declared.tree.Form.TheVariants as form
use Rattle.arr_tree.specs.declared.tree.Statement.{Statement}
use Rattle.arr_elab.specs.declared.value.Array.{Array}
use Rattle.arr_elab.specs.declared.value.Value.TheVariants as value
use Rattle.arr_elab.specs.declared.value.Prepared.{Prepared}
use Rattle.arr_elab.specs.declared.value.Prepared.TheVariants.{Ready, Open}
use Rattle.arr_elab.specs.declared.step.Step.{Step}
use Rattle.arr_elab.specs.declared.step.Step.TheVariants.{Act, Gather, Scatter, Name, Forget, Done, Cut}
use Rattle.arr_elab.specs.State.{State, Reading, Checked, and_then, ◌>>=◌, ◌>>◌, pure, require, act, fresh, stands_for, number_of, with_name, most_names, nothing_yet}
use Rattle.arr_elab.specs.Steps.{deeds}
use Rattle.arr_elab.specs.Expressions.{operation, onto, settled, array_of, array, written, taken, found}
use Rattle.arr_elab.specs.Outcome.{by_form, prepared, assigned, stored, bound, bind, forget, gather_arrays, scatter_arrays, effect, begin, statement, statements, outcome}
use Rattle.arr_elab.proofs.Sound.{needed, by_rule}
use Rattle.arr_tree.specs.Weights.{weight_of, weight, form_weight, script_weight}
use Rattle.arr_tree.proofs.Weighed.{weight_form}
use Rattle.arr_elab.proofs.Adding.{count, waits, nothing, Adds, in_turn, at_once, deeds_join, fresh_adds, written_adds, value_adds, array_of_adds, array_adds, named_adds, literal_adds, unary_adds, cast_adds, power_adds, fold_adds, binary_adds, range_adds, full_adds, index_adds, broadcasted_adds, transposed_adds, reshaped_adds, strided_adds}

-- ---- expressions

-- the form of an expression, once its place is known
abbrev prepared_form : ExprForm → Place → Reading Prepared
prepared_form = fold-ExprForm (Place → Reading Prepared) (Reading Prepared) by_form (λ e. e.form e.at)

abbrev FormAdds : ExprForm → Type 0
FormAdds f = (at : Place) → Adds waits (weight_form f) (prepared_form f at)

abbrev ExprAdds : Expr → Type 0
ExprAdds e = Adds waits (weight e) (prepared e)

-- what a layer adds at most
abbrev LayerAdds : ExprForm-F ExprForm Expr → Place → Type 0
LayerAdds y at =
    Adds waits (weight_of (map-ExprForm ExprForm Expr ℕ ℕ weight_form weight y))
    (by_form (map-ExprForm ExprForm Expr (Place → Reading Prepared) (Reading Prepared) prepared_form prepared y) at)

-- with a proof beside each argument
layer_adds : (y : ExprForm-F ((f : ExprForm) × FormAdds f) ((e : Expr) × ExprAdds e)) (at : Place) → LayerAdds (map-ExprForm ((f : ExprForm) × FormAdds f) ((e : Expr) × ExprAdds e) ExprForm Expr (λ f. f.0) (λ e. e.0) y) at
layer_adds (ExprForm-F.Literal negative size) at = literal_adds at negative size
layer_adds (ExprForm-F.Name word) at = named_adds word
layer_adds (ExprForm-F.Unary c of) at = unary_adds at c (prepared of.0) (weight of.0) of.1
layer_adds (ExprForm-F.Binary c left right) at = binary_adds at c (prepared left.0) (prepared right.0) (weight left.0) (weight right.0) left.1 right.1
layer_adds (ExprForm-F.Power of exponent) at = power_adds at (prepared of.0) exponent (weight of.0) of.1
layer_adds (ExprForm-F.Fold c of axis axis_at) at = fold_adds at c (prepared of.0) axis axis_at (weight of.0) of.1
layer_adds (ExprForm-F.Cast to of) at = cast_adds at to (prepared of.0) (weight of.0) of.1
layer_adds (ExprForm-F.Range number number_at to) at = range_adds at number number_at to
layer_adds (ExprForm-F.Full shape number to) at = full_adds at shape (prepared number.0) to (weight number.0) number.1
layer_adds (ExprForm-F.Index of slices) at = index_adds at (prepared of.0) slices (weight of.0) of.1
layer_adds (ExprForm-F.Broadcast of shape) at = broadcasted_adds at (prepared of.0) shape (weight of.0) of.1
layer_adds (ExprForm-F.Transpose of) at = transposed_adds (prepared of.0) (weight of.0) of.1
layer_adds (ExprForm-F.Reshape of shape) at = reshaped_adds at (prepared of.0) shape (weight of.0) of.1
layer_adds (ExprForm-F.Strided of start shape strides) at = strided_adds at (prepared of.0) start shape strides (weight of.0) of.1

-- y is x with a proof beside each argument
prepared_adds : (e : Expr) → ExprAdds e
prepared_adds = ind-Expr FormAdds ExprAdds
    (λ x y is at.
    subst (λ n. Adds waits n (prepared_form (roll-ExprForm x) at)) (sym (fold-roll-ExprForm ℕ ℕ weight_of (λ e. e.form) x))
    (subst (λ read. Adds waits (weight_of (map-ExprForm ExprForm Expr ℕ ℕ weight_form weight x)) (read at)) (sym (fold-roll-ExprForm (Place → Reading Prepared) (Reading Prepared) by_form (λ e. e.form e.at) x))
    (subst (λ z. LayerAdds z at) is (layer_adds y at))))
    (λ x y is.
    subst (λ n. Adds waits n (prepared (record { at = x.at; form = x.form }))) (sym (fold-roll-Expr ℕ ℕ weight_of (λ e. e.form) x))
    (subst (Adds waits (weight_form x.form)) (sym (fold-roll-Expr (Place → Reading Prepared) (Reading Prepared) by_form (λ e. e.form e.at) x))
    (subst (λ z. Adds waits (weight_form z.form) (prepared_form z.form z.at)) is (y.form.1 y.at))))

-- ---- targets

-- after one more step
stepped : (new : Step) (s t : State) (n : ℕ) (r : Unit {0} × State) → t.steps ≡ s.steps ++ new ∷ [] → pure tt t ≡ Ok r → count s + deeds (new ∷ []) ≤ n → 0 + count r.1 ≤ n
stepped new s t n r e f h =
    let more = deeds_join s.steps (new ∷ []) in
    let same : count t ≡ deeds (s.steps ++ new ∷ []) = ap (λ xs. deeds xs) e in
    at_once nothing n t tt r f (omega arith)

act_adds : (op : Op) → Adds nothing 1 (act op)
act_adds op s r e = stepped (Act op) s _ (count s + 1) r refl e (omega arith)

assigned_adds : (target : Array) (equals : Place) (source : Array) → Adds nothing 1 (assigned target equals source)
assigned_adds target equals source s r e =
    let types = needed (same_elem target.elem source.elem) equals TypeMismatch s _ r e in
    let view = by_rule equals (spread source.view target.view.lengths) s _ r types.1 in
    let once = needed (not (repeats target.view)) equals OutputRepeats s _ r view.2 in
    act_adds (onto (operation code.Identity target.elem source.elem (taken view.0) None None) target.view false) s r once.1

stored_adds : (target : Array) (equals : Place) (p : Prepared) → Adds nothing (waits p + 1) (stored target equals p)
stored_adds target equals (Ready (value.Literal at z)) s r e =
    let fits = needed (in_type target.elem z) at LiteralRange s _ r e in
    let once = needed (not (repeats target.view)) equals OutputRepeats s _ r fits.1 in
    let one = act_adds (onto (operation code.Identity target.elem target.elem (Some (operand.Number z)) None None) target.view false) s r once.1 in
    omega arith
stored_adds target equals (Ready (value.Array source)) s r e = let one = assigned_adds target equals source s r e in omega arith
stored_adds target equals (Open p) s r e = by (same_lists p.shape target.view.lengths) e
  where
    direct : Reading (Unit {0})
    direct = require (same_elem target.elem p.op.to) equals TypeMismatch >> require (not (repeats target.view)) equals OutputRepeats >> act (onto p.op target.view false)

    apart : Reading (Unit {0})
    apart = written p >>= assigned target equals

    by : (b : Bool) → cond b direct apart s ≡ Ok r → 0 + count r.1 ≤ count s + (1 + 1)
    by true e =
        let both = in_turn ((require (same_elem target.elem p.op.to) equals TypeMismatch >> require (not (repeats target.view)) equals OutputRepeats) s) _ r e in
        let types = needed (same_elem target.elem p.op.to) equals TypeMismatch s _ both.0 both.1 in
        let once = needed (not (repeats target.view)) equals OutputRepeats s (λ (a : Unit {0} × State). Ok a) both.0 (once_alone (not (repeats target.view)) both.0 types.1) in
        let is : (tt, s) ≡ both.0 = (let f : Ok (tt, s) ≡ Ok both.0 = once.1 in cc) in
        let one = act_adds (onto p.op target.view false) both.0.1 r both.2 in
        let same : count s ≡ count both.0.1 = ap (λ a. count a.1) is in
        omega arith
      where
        once_alone : (b : Bool) (a : Unit {0} × State) → require b equals OutputRepeats s ≡ Ok a → and_then (require b equals OutputRepeats s) (λ (a : Unit {0} × State). Ok a) ≡ Ok a
        once_alone true a f = f
        once_alone false a f = f
    by false e =
        let a = in_turn (written p s) _ r e in
        let one = written_adds p s a.0 a.1 in
        let two = assigned_adds target equals a.0.0 a.0.1 r a.2 in
        omega arith

-- ---- names

bind_adds : (word : Word) (a : Array) → Adds nothing 0 (bind word a)
bind_adds word a s r e =
    let few = needed (is_some (stands_for s.names word.text) || nat_lt (bound s.names) most_names) word.at TooManyNames s _ r e in
    stepped (Name (number_of s.names word.text) a.view.base) s _ (count s + 0) r refl few.1 (omega arith)

forget_adds : (word : Word) → Adds nothing 0 (forget word)
forget_adds word s r e = by (stands_for s.names word.text) e
  where
    rest : Array × State → Checked (Unit {0} × State)
    rest a = Ok (tt, record a.1 { names = with_name a.1.names word.text None; steps = a.1.steps ++ Forget (number_of s.names word.text) ∷ [] })

    by : (o : Option Array) → and_then (found word.at o s) rest ≡ Ok r → 0 + count r.1 ≤ count s + 0
    by None e = absurd (let g : Err (record { at = word.at; kind = UnknownName }) ≡ Ok r = e in cc)
    by (Some a) e = stepped (Forget (number_of s.names word.text)) s _ (count s + 0) r refl e (omega arith)

-- ---- gathers and scatters

gather_adds : (word : Word) (at : Place) (source index : Array) → Adds nothing 1 (gather_arrays word at source index)
gather_adds word at source index s r e =
    let out = in_turn (fresh at index.view.lengths s) _ r e in
    let one = fresh_adds at index.view.lengths s out.0 out.1 in
    let new : Step = Gather (record { out = out.0.0; source = source.view; index = index.view; to = source.elem; of = index.elem }) in
    let more = deeds_join out.0.1.steps (new ∷ []) in
    let two = bind_adds word (record { view = out.0.0; elem = source.elem }) (record out.0.1 { steps = out.0.1.steps ++ new ∷ [] }) r out.2 in
    omega arith

scatter_adds : (at : Place) (target index values : Array) → Adds nothing 1 (scatter_arrays at target index values)
scatter_adds at target index values s r e =
    let types = needed (same_elem target.elem values.elem) at TypeMismatch s _ r e in
    let shapes = needed (same_lists index.view.lengths values.view.lengths) at ShapeMismatch s _ r types.1 in
    let once = needed (not (repeats target.view)) at OutputRepeats s _ r shapes.1 in
    stepped (Scatter (record { target = target.view; index = index.view; values = values.view; to = target.elem; of = index.elem })) s _ (count s + 1) r refl once.1 (omega arith)

-- ---- statements

effect_adds : (f : Form) → Adds nothing (form_weight f) (effect f)
effect_adds (form.Print x) s r e =
    let a = in_turn (array (prepared x) s) _ r e in
    let one = array_adds (prepared x) (weight x) (prepared_adds x) s a.0 a.1 in
    let two = act_adds (operation code.Sync a.0.0.elem a.0.0.elem (taken a.0.0.view) None None) a.0.1 r a.2 in
    omega arith
effect_adds (form.Del word) s r e = forget_adds word s r e
effect_adds form.Flush s r e = stepped Cut s _ (count s + 0) r refl e (omega arith)
effect_adds (form.Bind word x) s r e =
    let a = in_turn (array (prepared x) s) _ r e in
    let one = array_adds (prepared x) (weight x) (prepared_adds x) s a.0 a.1 in
    let two = bind_adds word a.0.0 a.0.1 r a.2 in
    omega arith
effect_adds (form.Assign target equals x) s r e =
    let a = in_turn (array (prepared target) s) _ r e in
    let one = array_adds (prepared target) (weight target) (prepared_adds target) s a.0 a.1 in
    let p = in_turn (prepared x a.0.1) _ r a.2 in
    let two = prepared_adds x a.0.1 p.0 p.1 in
    let last = stored_adds a.0.0 equals p.0.0 p.0.1 r p.2 in
    omega arith
effect_adds (form.Gather word at source index) s r e =
    let x = in_turn ((prepared source >>= settled) s) _ r e in
    let one = value_adds (prepared source) (weight source) (prepared_adds source) s x.0 x.1 in
    let y = in_turn ((prepared index >>= settled) x.0.1) _ r x.2 in
    let two = value_adds (prepared index) (weight index) (prepared_adds index) x.0.1 y.0 y.1 in
    let a = in_turn (array_of x.0.0 y.0.1) _ r y.2 in
    let three = array_of_adds x.0.0 y.0.1 a.0 a.1 in
    let b = in_turn (array_of y.0.0 a.0.1) _ r a.2 in
    let four = array_of_adds y.0.0 a.0.1 b.0 b.1 in
    let last = gather_adds word at a.0.0 b.0.0 b.0.1 r b.2 in
    omega arith
effect_adds (form.Scatter at target index values) s r e =
    let x = in_turn ((prepared target >>= settled) s) _ r e in
    let one = value_adds (prepared target) (weight target) (prepared_adds target) s x.0 x.1 in
    let y = in_turn ((prepared index >>= settled) x.0.1) _ r x.2 in
    let two = value_adds (prepared index) (weight index) (prepared_adds index) x.0.1 y.0 y.1 in
    let z = in_turn ((prepared values >>= settled) y.0.1) _ r y.2 in
    let three = value_adds (prepared values) (weight values) (prepared_adds values) y.0.1 z.0 z.1 in
    let a = in_turn (array_of x.0.0 z.0.1) _ r z.2 in
    let four = array_of_adds x.0.0 z.0.1 a.0 a.1 in
    let b = in_turn (array_of y.0.0 a.0.1) _ r a.2 in
    let five = array_of_adds y.0.0 a.0.1 b.0 b.1 in
    let c = in_turn (array_of z.0.0 b.0.1) _ r b.2 in
    let six = array_of_adds z.0.0 b.0.1 c.0 c.1 in
    let last = scatter_adds at a.0.0 b.0.0 c.0.0 c.0.1 r c.2 in
    omega arith

statement_adds : (x : Statement) → Adds nothing (form_weight x.form) (statement x)
statement_adds x s r e =
    let a = in_turn (and_then (begin s) (λ b. effect x.form b.1)) _ r e in
    let one = effect_adds x.form (record s { first = length s.bases }) a.0 a.1 in
    let two = stepped Done a.0.1 _ (count a.0.1 + 0) r refl a.2 (omega arith) in
    omega arith

statements_add : (xs : List Statement) → Adds nothing (script_weight xs) (statements xs)
statements_add [] s r e = at_once nothing (count s + 0) s tt r e (omega arith)
statements_add (x ∷ xs) s r e =
    let a = in_turn (statement x s) _ r e in
    let one = statement_adds x s a.0 a.1 in
    let two = statements_add xs a.0.1 r a.2 in
    omega arith

abbrev steps_of : Unit {0} × State → Checked (List Step)
steps_of done = Ok done.1.steps

by_state : (o : Checked (Unit {0} × State)) (steps : List Step) (n : ℕ) → and_then o steps_of ≡ Ok steps → ((r : Unit {0} × State) → o ≡ Ok r → 0 + count r.1 ≤ 0 + n) → deeds steps ≤ n
by_state (Err x) steps n e h = absurd (let f : and_then (Err x) steps_of ≡ Ok steps = e in cc)
by_state (Ok r) steps n e h =
    let few = h r refl in
    let is : r.1.steps ≡ steps = (let f : steps_of r ≡ Ok steps = e in cc) in
    subst (λ xs. deeds xs ≤ n) is (omega arith)

pub few_deeds : (ss : List Statement) (steps : List Step) → outcome ss ≡ Ok steps → deeds steps ≤ script_weight ss
few_deeds ss steps e = by_state (statements ss nothing_yet) steps (script_weight ss) e (λ r f. statements_add ss nothing_yet r f)
