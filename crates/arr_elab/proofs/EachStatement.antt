-- Every statement keeps a scene.
use Rattle.std.proofs.Common.{◌≡◌, ℕ, ◌+◌, List, [], ◌∷◌, ◌++◌, Bool, true, false, cond, not, ◌||◌, length, refl, ap, sym, ◌∙◌, subst}
use Rattle.std.specs.Prelude.{nat_lt, Option, Some, None, is_some, Ok, Err}
use Rattle.std.specs.List.{list_all}
use Rattle.std.proofs.lemmas.Bool.{and_from, eq-eqb}
use Rattle.std.proofs.lemmas.List.{length-map}
use Rattle.arr_num.specs.declared.elem.Elem.{Elem}
use Rattle.arr_num.specs.declared.code.Code.TheVariants as code
use Rattle.arr_num.specs.Numbers.{in_type}
use Rattle.arr_view.specs.Strided.{Strided}
use Rattle.arr_view.specs.Views.{is_view, repeats, same_lists, positions, whole_view}
use Rattle.arr_ops.specs.declared.op.Op.{Op}
use Rattle.arr_ops.specs.declared.op.Operand.TheVariants as operand
use Rattle.arr_ops.specs.declared.gather.Gather.{Gather as GatherOp}
use Rattle.arr_ops.specs.declared.gather.Scatter.{Scatter as ScatterOp}
use Rattle.arr_ops.specs.Gathers.{is_gather, is_scatter}
use Rattle.arr_num.specs.Types.{same_elem, same_elem_is, same_elem_refl}
use Rattle.arr_shape.specs.Views.{spread}
use Rattle.arr_shape.proofs.Consecutive.{lists_same}
use Rattle.arr_tree.specs.declared.refusal.Place.{Place}
use Rattle.arr_tree.specs.declared.refusal.Kind.{Kind}
use Rattle.arr_tree.specs.declared.refusal.Kind.TheVariants.{TypeMismatch, LiteralRange, ShapeMismatch, OutputRepeats, TooManyNames, TooMuchLive, UnknownName}
use Rattle.arr_tree.specs.declared.tree.Word.{Word}
use Rattle.arr_tree.specs.declared.tree.Form.{Form}
use Rattle.arr_tree.specs.declared.tree.Form.TheVariants as form
use Rattle.arr_tree.specs.declared.tree.Statement.{Statement}
use Rattle.arr_elab.specs.declared.value.Array.{Array}
use Rattle.arr_elab.specs.declared.value.Value.TheVariants as value
use Rattle.arr_elab.specs.declared.value.Prepared.{Prepared}
use Rattle.arr_elab.specs.declared.value.Prepared.TheVariants.{Ready, Open}
use Rattle.arr_elab.specs.declared.step.Step.TheVariants.{Act, Gather, Scatter, Forget}
use Rattle.arr_elab.specs.State.{State, Reading, Checked, and_then, ◌>>=◌, ◌>>◌, pure, require, act, stands_for, number_of, with_name, most_names, fresh, live, most_live}
use Rattle.arr_elab.specs.Expressions.{operation, onto, taken, written, settled, array_of, array, found}
use Rattle.arr_elab.specs.Outcome.{prepared, assigned, stored, bound, bind, forget, gather_arrays, scatter_arrays, effect, begin, statement, statements}
use Rattle.arr_elab.specs.Recording.{Scene, stands, may_act, may_gather, may_scatter}
use Rattle.arr_elab.proofs.Derived.{not_true, derived_spread}
use Rattle.arr_elab.proofs.Scenes.{Grows, Stands, with_base, grows_on, stands_on, stands_derived, stands_test}
use Rattle.arr_elab.proofs.Keeping.{Keeps, keeps_act, keeps_gather, keeps_scatter, keeps_done, keeps_cut, keeps_begun, keeps_name, keeps_forgotten}
use Rattle.arr_elab.proofs.Shaped.{view_shape}
use Rattle.arr_elab.proofs.Waiting.{Pends, pends_copy, pends_number, may_store}
use Rattle.arr_elab.proofs.Sound.{Reads, needed, by_rule, IsArray, IsValue, IsPrepared, value_on, value_sound, array_of_reads, array_sound, written_reads}
use Rattle.arr_elab.proofs.KindsKept.{lists_test}
use Rattle.arr_elab.proofs.Wholes.{whole_is, whole_lawful, stands_new}
use Rattle.arr_elab.proofs.EachTree.{prepared_sound}

-- what a statement leaves keeps some scene
pub record Leaves (r : Unit {0} × State) : Type 0 where
  pub scene : Scene
  pub keeps : Keeps r.1 scene

left : (s : State) (scene : Scene) (r : Unit {0} × State) → Keeps s scene → pure tt s ≡ Ok r → Leaves r
left s scene r k e =
    let is : (tt, s) ≡ r = cc in
    subst Leaves is (record { scene = scene; keeps = k })

after : {X : Type 0} (P : Scene → X → Type 0) (scene : Scene) (got : Checked (X × State)) (f : X × State → Checked (Unit {0} × State)) (r : Unit {0} × State) → and_then got f ≡ Ok r
    → ((a : X × State) → got ≡ Ok a → Reads P scene a) → ((a : X × State) (next : Scene) → Grows scene next → Keeps a.1 next → P next a.0 → f a ≡ Ok r → Leaves r) → Leaves r
after P scene (Err x) f r e first then = absurd (let g : Err x ≡ Ok r = e in cc)
after P scene (Ok a) f r e first then =
    let one = first a refl in
    then a one.next one.grows one.keeps one.holds e

-- ---- targets

-- two tests that pass
both_needed : (a b : Bool) (at : Place) (first second : Kind) (s : State) (f : Unit {0} × State → Checked (Unit {0} × State)) (r : Unit {0} × State)
    → and_then ((require a at first >> require b at second) s) f ≡ Ok r → (a ≡ true) × (b ≡ true) × (f (tt, s) ≡ Ok r)
both_needed true true at first second s f r e = (refl, refl, e)
both_needed true false at first second s f r e = absurd (let g : Err (record { at = at; kind = second }) ≡ Ok r = e in cc)
both_needed false b at first second s f r e = absurd (let g : Err (record { at = at; kind = first }) ≡ Ok r = e in cc)

-- an operation writes a target
stores : (shape : List ℕ) (op : Op) (target : Array) (scene : Scene) (s : State) (r : Unit {0} × State) → Keeps s scene → Pends scene shape op → IsArray scene target → target.elem ≡ op.to → target.view.lengths ≡ shape
    → not (repeats target.view) ≡ true → act (onto op target.view false) s ≡ Ok r → Leaves r
stores shape op target scene s r k h t same fits once e =
    left (record s { steps = s.steps ++ Act (onto op target.view false) ∷ [] }) scene r
    (keeps_act s scene (onto op target.view false) k (may_store scene shape op target.view h (subst (λ u. Stands scene u target.view) same t) fits (not_true (repeats target.view) once)) refl) e

assigned_leaves : (target : Array) (equals : Place) (source : Array) (scene : Scene) (s : State) (r : Unit {0} × State) → Keeps s scene → IsArray scene target → IsArray scene source → assigned target equals source s ≡ Ok r → Leaves r
assigned_leaves target equals source scene s r k t h e =
    let types = needed (same_elem target.elem source.elem) equals TypeMismatch s _ r e in
    let view = by_rule equals (spread source.view target.view.lengths) s _ r types.1 in
    let wide = derived_spread source.view target.view.lengths view.0 h.placed.lawful (view_shape target.view t.placed.lawful) view.1 in
    let once = needed (not (repeats target.view)) equals OutputRepeats s _ r view.2 in
    stores view.0.lengths (operation code.Identity target.elem source.elem (taken view.0) None None) target scene s r k
    (pends_copy scene target.elem source.elem view.0 (stands_derived scene source.elem source.view view.0 h wide.0)) t refl (sym wide.1) once.0 once.1

stored_leaves : (target : Array) (equals : Place) (p : Prepared) (scene : Scene) (s : State) (r : Unit {0} × State) → Keeps s scene → IsArray scene target → IsPrepared scene p → stored target equals p s ≡ Ok r → Leaves r
stored_leaves target equals (Ready (value.Literal at z)) scene s r k t h e =
    let fits = needed (in_type target.elem z) at LiteralRange s _ r e in
    let once = needed (not (repeats target.view)) equals OutputRepeats s _ r fits.1 in
    stores target.view.lengths (operation code.Identity target.elem target.elem (Some (operand.Number z)) None None) target scene s r k
    (pends_number scene target.elem target.view.lengths z (view_shape target.view t.placed.lawful) fits.0) t refl refl once.0 once.1
stored_leaves target equals (Ready (value.Array source)) scene s r k t h e = assigned_leaves target equals source scene s r k t h e
stored_leaves target equals (Open p) scene s r k t h e = by (same_lists p.shape target.view.lengths) refl e
  where
    direct : Reading (Unit {0})
    direct = require (same_elem target.elem p.op.to) equals TypeMismatch >> require (not (repeats target.view)) equals OutputRepeats >> act (onto p.op target.view false)

    apart : Reading (Unit {0})
    apart = written p >>= assigned target equals

    by : (b : Bool) → same_lists p.shape target.view.lengths ≡ b → cond b direct apart s ≡ Ok r → Leaves r
    by true f e =
        let tests = both_needed (same_elem target.elem p.op.to) (not (repeats target.view)) equals TypeMismatch OutputRepeats s _ r e in
        stores p.shape p.op target scene s r k h t (same_elem_is target.elem p.op.to tests.0) (sym (lists_same p.shape target.view.lengths f)) tests.1 tests.2
    by false f e =
        after IsArray scene (written p s) _ r e (λ a f. written_reads p scene s a k h f)
        (λ a next g j i e. assigned_leaves target equals a.0 next a.1 r j (stands_on scene next target.elem target.view g t) i e)

-- ---- names

pub bind_leaves : (word : Word) (a : Array) (scene : Scene) (s : State) (r : Unit {0} × State) → Keeps s scene → IsArray scene a → bind word a s ≡ Ok r → Leaves r
bind_leaves word a scene s r k h e =
    let few = needed (is_some (stands_for s.names word.text) || nat_lt (bound s.names) most_names) word.at TooManyNames s _ r e in
    left _ _ r (keeps_name s scene word.text a k h) few.1

pub forget_leaves : (word : Word) (scene : Scene) (s : State) (r : Unit {0} × State) → Keeps s scene → forget word s ≡ Ok r → Leaves r
forget_leaves word scene s r k e = by (stands_for s.names word.text) e
  where
    rest : Array × State → Checked (Unit {0} × State)
    rest a = Ok (tt, record a.1 { names = with_name a.1.names word.text None; steps = a.1.steps ++ Forget (number_of s.names word.text) ∷ [] })

    by : (o : Option Array) → and_then (found word.at o s) rest ≡ Ok r → Leaves r
    by None e = absurd (let g : Err (record { at = word.at; kind = UnknownName }) ≡ Ok r = e in cc)
    by (Some a) e = left _ _ r (keeps_forgotten s scene word.text k) e

-- ---- gathers and scatters

abbrev gather_of : ℕ → Array → Array → GatherOp
gather_of base source index = record { out = whole_view base index.view.lengths; source = source.view; index = index.view; to = source.elem; of = index.elem }

abbrev scatter_of : Array → Array → Array → ScatterOp
scatter_of target index values = record { target = target.view; index = index.view; values = values.view; to = target.elem; of = index.elem }

three_views : (u v w : Strided) → is_view u ≡ true → is_view v ≡ true → is_view w ≡ true → list_all is_view (u ∷ v ∷ w ∷ []) ≡ true
three_views u v w a b c = and_from (is_view u) _ a (and_from (is_view v) _ b (and_from (is_view w) true c refl))

gather_may : (scene : Scene) (source index : Array) → IsArray scene source → IsArray scene index → may_gather scene (gather_of (length scene.bases) source index) ≡ true
gather_may scene source index h i =
    let g : GatherOp = gather_of (length scene.bases) source index in
    and_from (is_gather g) _
    (and_from (list_all is_view (g.out ∷ g.source ∷ g.index ∷ [])) _
    (three_views g.out g.source g.index (whole_lawful (length scene.bases) index.view.lengths (view_shape index.view i.placed.lawful)) h.placed.lawful i.placed.lawful)
    (and_from (same_lists g.out.lengths g.index.lengths) _ (lists_test index.view.lengths index.view.lengths refl) (whole_is (length scene.bases) index.view.lengths)))
    (and_from (stands scene source.elem source.view) _ (stands_test scene source.elem source.view h)
    (and_from (stands scene index.elem index.view) _ (stands_test scene index.elem index.view i) (eq-eqb (length scene.bases) (length scene.bases) refl)))

gather_leaves : (word : Word) (at : Place) (source index : Array) (scene : Scene) (s : State) (r : Unit {0} × State) → Keeps s scene → IsArray scene source → IsArray scene index
    → gather_arrays word at source index s ≡ Ok r → Leaves r
unfolding fresh
gather_leaves word at source index scene s r k h i e = by (nat_lt most_live (live s + positions index.view.lengths)) e
  where
    lengths : List ℕ
    lengths = index.view.lengths

    made : Strided × State
    made = (whole_view (length s.bases) lengths, record s { bases = s.bases ++ positions lengths ∷ [] })

    rest : Strided × State → Checked (Unit {0} × State)
    rest a = bind word (record { view = a.0; elem = source.elem })
        (record a.1 { steps = a.1.steps ++ Gather (record { out = a.0; source = source.view; index = index.view; to = source.elem; of = index.elem }) ∷ [] })

    same : length scene.bases ≡ length s.bases
    same = sym (length-map scene.bases (λ (b : ℕ × Elem). b.0)) ∙ ap length k.lengths

    bound_to : ℕ → Checked (Unit {0} × State)
    bound_to n = bind word (record { view = whole_view n lengths; elem = source.elem }) (record s { bases = s.bases ++ positions lengths ∷ []; steps = s.steps ++ Gather (gather_of n source index) ∷ [] })

    by : (b : Bool) → and_then (cond b (Err (record { at = at; kind = TooMuchLive })) (Ok made)) rest ≡ Ok r → Leaves r
    by true e = absurd (let g : Err (record { at = at; kind = TooMuchLive }) ≡ Ok r = e in cc)
    by false e =
        let own : bound_to (length scene.bases) ≡ Ok r = subst (λ n. bound_to n ≡ Ok r) (sym same) e in
        bind_leaves word (record { view = whole_view (length scene.bases) lengths; elem = source.elem }) (with_base scene (positions lengths) source.elem)
        (record s { bases = s.bases ++ positions lengths ∷ []; steps = s.steps ++ Gather (gather_of (length scene.bases) source index) ∷ [] }) r
        (keeps_gather s scene (gather_of (length scene.bases) source index) k (gather_may scene source index h i))
        (stands_new scene lengths source.elem (view_shape index.view i.placed.lawful) k.reached) own

scatter_leaves : (at : Place) (target index values : Array) (scene : Scene) (s : State) (r : Unit {0} × State) → Keeps s scene → IsArray scene target → IsArray scene index → IsArray scene values
    → scatter_arrays at target index values s ≡ Ok r → Leaves r
scatter_leaves at target index values scene s r k h i j e =
    let types = needed (same_elem target.elem values.elem) at TypeMismatch s _ r e in
    let shapes = needed (same_lists index.view.lengths values.view.lengths) at ShapeMismatch s _ r types.1 in
    let once = needed (not (repeats target.view)) at OutputRepeats s _ r shapes.1 in
    let g : ScatterOp = scatter_of target index values in
    let there : Stands scene target.elem values.view = subst (λ t. Stands scene t values.view) (sym (same_elem_is target.elem values.elem types.0)) j in
    let may : may_scatter scene g ≡ true =
    and_from (is_scatter g) _
    (and_from (list_all is_view (g.target ∷ g.index ∷ g.values ∷ [])) _ (three_views g.target g.index g.values h.placed.lawful i.placed.lawful j.placed.lawful)
    (and_from (same_lists g.index.lengths g.values.lengths) _ shapes.0 once.0))
    (and_from (stands scene target.elem target.view) _ (stands_test scene target.elem target.view h)
    (and_from (stands scene index.elem index.view) _ (stands_test scene index.elem index.view i) (stands_test scene target.elem values.view there))) in
    left (record s { steps = s.steps ++ Scatter g ∷ [] }) scene r (keeps_scatter s scene g k may) once.1

-- ---- statements

may_print : (scene : Scene) (t : Elem) (v : Strided) → Stands scene t v → may_act scene (operation code.Sync t t (taken v) None None) ≡ true
may_print scene t v h =
    let self : same_elem t t ≡ true = same_elem_refl t in
    let lawful : is_view v ≡ true = h.placed.lawful in
    let here : stands scene t v ≡ true = stands_test scene t v h in
    rw (self, lawful, here)

effect_leaves : (f : Form) (scene : Scene) (s : State) (r : Unit {0} × State) → Keeps s scene → effect f s ≡ Ok r → Leaves r
effect_leaves (form.Print x) scene s r k e =
    after IsArray scene (array (prepared x) s) _ r e (λ a f. array_sound (prepared x) (prepared_sound x) scene s a k f)
    (λ a next g j i e. left _ _ r (keeps_act a.1 next (operation code.Sync a.0.elem a.0.elem (taken a.0.view) None None) j (may_print next a.0.elem a.0.view i) refl) e)
effect_leaves (form.Del word) scene s r k e = forget_leaves word scene s r k e
effect_leaves form.Flush scene s r k e = left _ _ r (keeps_cut s scene k) e
effect_leaves (form.Bind word x) scene s r k e =
    after IsArray scene (array (prepared x) s) _ r e (λ a f. array_sound (prepared x) (prepared_sound x) scene s a k f) (λ a next g j i e. bind_leaves word a.0 next a.1 r j i e)
effect_leaves (form.Assign target equals x) scene s r k e =
    after IsArray scene (array (prepared target) s) _ r e (λ a f. array_sound (prepared target) (prepared_sound target) scene s a k f) (λ a next g j i e.
    after IsPrepared next (prepared x a.1) _ r e (λ p f. prepared_sound x next a.1 p j f) (λ p last l m q e. stored_leaves a.0 equals p.0 last p.1 r m (stands_on next last a.0.elem a.0.view l i) q e))
effect_leaves (form.Gather word at source index) scene s r k e =
    after IsValue scene ((prepared source >>= settled) s) _ r e (λ a f. value_sound (prepared source) (prepared_sound source) scene s a k f) (λ x one g j p e.
    after IsValue one ((prepared index >>= settled) x.1) _ r e (λ a f. value_sound (prepared index) (prepared_sound index) one x.1 a j f) (λ y two h k q e.
    after IsArray two (array_of x.0 y.1) _ r e (λ a f. array_of_reads x.0 two y.1 a k (value_on one two x.0 h p) f) (λ a three i l v e.
    after IsArray three (array_of y.0 a.1) _ r e (λ b f. array_of_reads y.0 three a.1 b l (value_on two three y.0 i q) f) (λ b four u m w e.
    gather_leaves word at a.0 b.0 four b.1 r m (stands_on three four a.0.elem a.0.view u v) w e))))
effect_leaves (form.Scatter at target index values) scene s r k e =
    after IsValue scene ((prepared target >>= settled) s) _ r e (λ a f. value_sound (prepared target) (prepared_sound target) scene s a k f) (λ x one g j p e.
    after IsValue one ((prepared index >>= settled) x.1) _ r e (λ a f. value_sound (prepared index) (prepared_sound index) one x.1 a j f) (λ y two h k q e.
    after IsValue two ((prepared values >>= settled) y.1) _ r e (λ a f. value_sound (prepared values) (prepared_sound values) two y.1 a k f) (λ z three i l v e.
    after IsArray three (array_of x.0 z.1) _ r e (λ a f. array_of_reads x.0 three z.1 a l (value_on two three x.0 i (value_on one two x.0 h p)) f) (λ a four u m w e.
    after IsArray four (array_of y.0 a.1) _ r e (λ b f. array_of_reads y.0 four a.1 b m (value_on three four y.0 u (value_on two three y.0 i q)) f) (λ b five n o t e.
    after IsArray five (array_of z.0 b.1) _ r e (λ c f. array_of_reads z.0 five b.1 c o (value_on four five z.0 n (value_on three four z.0 u v)) f) (λ c six d last x e.
    scatter_leaves at a.0 b.0 c.0 six c.1 r last (stands_on four six a.0.elem a.0.view (grows_on four five six n d) w) (stands_on five six b.0.elem b.0.view d t) x e))))))

chain : (got : Checked (Unit {0} × State)) (f : Unit {0} × State → Checked (Unit {0} × State)) (r : Unit {0} × State) → and_then got f ≡ Ok r
    → ((a : Unit {0} × State) → got ≡ Ok a → Leaves a) → ((a : Unit {0} × State) (next : Scene) → Keeps a.1 next → f a ≡ Ok r → Leaves r) → Leaves r
chain (Err x) f r e first then = absurd (let g : Err x ≡ Ok r = e in cc)
chain (Ok a) f r e first then =
    let one = first a refl in
    then a one.scene one.keeps e

statement_leaves : (x : Statement) (scene : Scene) (s : State) (r : Unit {0} × State) → Keeps s scene → statement x s ≡ Ok r → Leaves r
statement_leaves x scene s r k e =
    chain (and_then (begin s) (λ a. effect x.form a.1)) _ r e (λ a f. effect_leaves x.form scene _ a (keeps_begun s scene (length s.bases) k) f)
    (λ a next j e. left _ _ r (keeps_done a.1 next j) e)

pub statements_leave : (xs : List Statement) (scene : Scene) (s : State) (r : Unit {0} × State) → Keeps s scene → statements xs s ≡ Ok r → Leaves r
statements_leave [] scene s r k e = left s scene r k e
statements_leave (x ∷ xs) scene s r k e = chain (statement x s) _ r e (λ a f. statement_leaves x scene s a k f) (λ a next j e. statements_leave xs next a.1 r j e)
