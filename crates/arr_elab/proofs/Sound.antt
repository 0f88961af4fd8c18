-- What a reading leaves: a scene that grew, and something that stands in it.
use Rattle.std.proofs.Common.{◌≡◌, ℕ, ◌+◌, [], ◌∷◌, ◌++◌, Bool, true, false, cond, length, refl, ap, sym, ◌∙◌, subst}
use Rattle.std.specs.Prelude.{nat_lt, Option, Some, None, Result, Ok, Err}
use Rattle.std.proofs.lemmas.List.{length-map}
use Rattle.arr_num.specs.declared.elem.Elem.{Elem}
use Rattle.arr_view.specs.Strided.{Strided}
use Rattle.arr_view.specs.Views.{positions, whole_view}
use Rattle.arr_shape.specs.declared.fault.ShapeFault.{ShapeFault}
use Rattle.arr_tree.specs.declared.refusal.Place.{Place}
use Rattle.arr_tree.specs.declared.refusal.Kind.{Kind}
use Rattle.arr_tree.specs.declared.refusal.Kind.TheVariants.{TypeMismatch, UnknownName, TooMuchLive}
use Rattle.arr_tree.specs.declared.tree.Word.{Word}
use Rattle.arr_elab.specs.declared.value.Array.{Array}
use Rattle.arr_elab.specs.declared.value.Value.{Value}
use Rattle.arr_elab.specs.declared.value.Value.TheVariants as value
use Rattle.arr_elab.specs.declared.value.Pending.{Pending}
use Rattle.arr_elab.specs.declared.value.Prepared.{Prepared}
use Rattle.arr_elab.specs.declared.value.Prepared.TheVariants.{Ready, Open}
use Rattle.arr_elab.specs.declared.step.Step.TheVariants.{Act}
use Rattle.arr_elab.specs.State.{State, Reading, Checked, and_then, ◌>>=◌, pure, require, ruled, kind_of, stands_for, fresh, live, most_live}
use Rattle.arr_elab.specs.Expressions.{onto, written, settled, array_of, array, found, lookup}
use Rattle.arr_elab.specs.Recording.{Scene}
use Rattle.arr_elab.proofs.Scenes.{Grows, grows_none, grows_on, Stands, stands_on, with_base, grows_base}
use Rattle.arr_elab.proofs.Keeping.{Keeps, keeps_made, stands_named}
use Rattle.arr_elab.proofs.Wholes.{stands_new}
use Rattle.arr_elab.proofs.Waiting.{Pends, pends_on, may_make}

-- ---- readings

pub record Reads {X : Type 0} (P : Scene → X → Type 0) (scene : Scene) (r : X × State) : Type 0 where
  pub next : Scene
  pub grows : Grows scene next
  pub keeps : Keeps r.1 next
  pub holds : P next r.0

-- from each state that keeps a scene, what is read stands in one that grew
abbrev pub Sound : {X : Type 0} → (Scene → X → Type 0) → Reading X → Type 0
Sound {X} P p = (scene : Scene) (s : State) (r : X × State) → Keeps s scene → p s ≡ Ok r → Reads P scene r

pub at_once : {X : Type 0} (P : Scene → X → Type 0) (scene : Scene) (s : State) (x : X) (r : X × State) → Keeps s scene → P scene x → pure x s ≡ Ok r → Reads P scene r
at_once P scene s x r k h e =
    let is : (x, s) ≡ r = cc in
    subst (Reads P scene) is (record { next = scene; grows = grows_none scene; keeps = k; holds = h })

pub in_turn : {X Y : Type 0} (P : Scene → X → Type 0) (Q : Scene → Y → Type 0) (scene : Scene) (got : Checked (X × State)) (f : X × State → Checked (Y × State)) (r : Y × State) → and_then got f ≡ Ok r
    → ((a : X × State) → got ≡ Ok a → Reads P scene a) → ((a : X × State) (next : Scene) → Grows scene next → Keeps a.1 next → P next a.0 → f a ≡ Ok r → Reads Q next r) → Reads Q scene r
in_turn P Q scene (Err x) f r e first then = absurd (let g : Err x ≡ Ok r = e in cc)
in_turn P Q scene (Ok a) f r e first then =
    let one = first a refl in
    let two = then a one.next one.grows one.keeps one.holds e in
    record { next = two.next; grows = grows_on scene one.next two.next one.grows two.grows; keeps = two.keeps; holds = two.holds }

-- a test that passes
pub needed : {Y : Type 0} (b : Bool) (at : Place) (kind : Kind) (s : State) (f : Unit {0} × State → Checked (Y × State)) (r : Y × State) → and_then (require b at kind s) f ≡ Ok r → (b ≡ true) × (f (tt, s) ≡ Ok r)
needed true at kind s f r e = (refl, e)
needed false at kind s f r e = absurd (let g : Err (record { at = at; kind = kind }) ≡ Ok r = e in cc)

-- a rule that gives an answer
pub by_rule : {A Y : Type 0} (at : Place) (o : Result A ShapeFault) (s : State) (f : A × State → Checked (Y × State)) (r : Y × State) → and_then (ruled at o s) f ≡ Ok r → (a : A) × (o ≡ Ok a) × (f (a, s) ≡ Ok r)
by_rule at (Ok a) s f r e = (a, refl, e)
by_rule at (Err x) s f r e = absurd (let g : Err (record { at = at; kind = kind_of x }) ≡ Ok r = e in cc)

-- ---- what is read

abbrev pub IsArray : Scene → Array → Type 0
IsArray scene a = Stands scene a.elem a.view

abbrev pub IsValue : Scene → Value → Type 0
IsValue scene (value.Literal at number) = Unit {0}
IsValue scene (value.Array a) = IsArray scene a

abbrev pub IsPrepared : Scene → Prepared → Type 0
IsPrepared scene (Ready v) = IsValue scene v
IsPrepared scene (Open p) = Pends scene p.shape p.op

pub value_on : (a b : Scene) (v : Value) → Grows a b → IsValue a v → IsValue b v
value_on a b (value.Literal at number) g h = tt
value_on a b (value.Array x) g h = stands_on a b x.elem x.view g h

pub prepared_on : (a b : Scene) (p : Prepared) → Grows a b → IsPrepared a p → IsPrepared b p
prepared_on a b (Ready v) g h = value_on a b v g h
prepared_on a b (Open p) g h = pends_on a b p.shape p.op g h

-- ---- an operation writes a base of its own

abbrev left_by : Pending → State → ℕ → Array × State
left_by p s n = (
  record { view = whole_view n p.shape; elem = p.op.to },
  record s { bases = s.bases ++ positions p.shape ∷ []; steps = s.steps ++ Act (onto p.op (whole_view n p.shape) true) ∷ [] },
)

abbrev too_much : {X : Type 0} → Pending → Checked X
too_much p = Err (record { at = p.at; kind = TooMuchLive })

abbrev left_if : Bool → Pending → State → Checked (Array × State)
left_if b p s = cond b (too_much p) (Ok (left_by p s (length s.bases)))

abbrev fresh_if : Bool → Pending → State → Checked (Strided × State)
fresh_if b p s = cond b (too_much p) (Ok (whole_view (length s.bases) p.shape, record s { bases = s.bases ++ positions p.shape ∷ [] }))

abbrev goes_on : Pending → Strided × State → Checked (Array × State)
goes_on p r = Ok (record { view = r.0; elem = p.op.to }, record r.1 { steps = r.1.steps ++ Act (onto p.op r.0 true) ∷ [] })

written_by : (b : Bool) (p : Pending) (s : State) (r : Array × State) → left_if b p s ≡ Ok r → left_by p s (length s.bases) ≡ r
written_by true p s r e = absurd (let f : too_much p ≡ Ok r = e in cc)
written_by false p s r e = let f : Ok (left_by p s (length s.bases)) ≡ Ok r = e in cc

written_is : (p : Pending) (s : State) → written p s ≡ left_if (nat_lt most_live (live s + positions p.shape)) p s
unfolding written fresh
written_is p s = by (nat_lt most_live (live s + positions p.shape))
  where
    by : (b : Bool) → and_then (fresh_if b p s) (goes_on p) ≡ left_if b p s
    by true = refl
    by false = refl

pub written_reads : (p : Pending) (scene : Scene) (s : State) (r : Array × State) → Keeps s scene → Pends scene p.shape p.op → written p s ≡ Ok r → Reads IsArray scene r
written_reads p scene s r k h e =
    let is : left_by p s (length s.bases) ≡ r = written_by (nat_lt most_live (live s + positions p.shape)) p s r (sym (written_is p s) ∙ e) in
    let same : length scene.bases ≡ length s.bases = sym (length-map scene.bases (λ (b : ℕ × Elem). b.0)) ∙ ap length k.lengths in
    let own : Reads IsArray scene (left_by p s (length scene.bases)) = record {
      next = with_base scene (positions p.shape) p.op.to;
      grows = grows_base scene (positions p.shape) p.op.to;
      keeps = keeps_made s scene (onto p.op (whole_view (length scene.bases) p.shape) true) (positions p.shape) p.op.to k (may_make scene p.shape p.op h) refl;
      holds = stands_new scene p.shape p.op.to h.shaped k.reached;
    } in
    subst (Reads IsArray scene) is (subst (λ n. Reads IsArray scene (left_by p s n)) same own)

-- ---- values and arrays

pub settled_reads : (x : Prepared) (scene : Scene) (s : State) (r : Value × State) → Keeps s scene → IsPrepared scene x → settled x s ≡ Ok r → Reads IsValue scene r
settled_reads (Ready v) scene s r k h e = at_once IsValue scene s v r k h e
settled_reads (Open p) scene s r k h e =
    in_turn IsArray IsValue scene (written p s) (λ a. Ok (value.Array a.0, a.1)) r e (λ a f. written_reads p scene s a k h f) (λ a next g j i f. at_once IsValue next a.1 (value.Array a.0) r j i f)

pub value_sound : (of : Reading Prepared) → Sound IsPrepared of → Sound IsValue (of >>= settled)
value_sound of h scene s r k e = in_turn IsPrepared IsValue scene (of s) (λ a. settled a.0 a.1) r e (λ a f. h scene s a k f) (λ a next g j i f. settled_reads a.0 next a.1 r j i f)

pub array_of_reads : (v : Value) (scene : Scene) (s : State) (r : Array × State) → Keeps s scene → IsValue scene v → array_of v s ≡ Ok r → Reads IsArray scene r
array_of_reads (value.Literal at number) scene s r k h e = absurd (let f : Err (record { at = at; kind = TypeMismatch }) ≡ Ok r = e in cc)
array_of_reads (value.Array a) scene s r k h e = at_once IsArray scene s a r k h e

pub array_sound : (of : Reading Prepared) → Sound IsPrepared of → Sound IsArray (array of)
array_sound of h scene s r k e =
    in_turn IsValue IsArray scene ((of >>= settled) s) (λ a. array_of a.0 a.1) r e (λ a f. value_sound of h scene s a k f) (λ a next g j i f. array_of_reads a.0 next a.1 r j i f)

-- ---- names

pub lookup_sound : (word : Word) → Sound IsArray (lookup word)
lookup_sound word scene s r k e = by (stands_for s.names word.text) refl e
  where
    by : (o : Option Array) → stands_for s.names word.text ≡ o → found word.at o s ≡ Ok r → Reads IsArray scene r
    by None f e = absurd (let g : Err (record { at = word.at; kind = UnknownName }) ≡ Ok r = e in cc)
    by (Some a) f e = at_once IsArray scene s a r k (stands_named s scene word.text a k f) e
