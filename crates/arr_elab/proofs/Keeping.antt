-- A state and the scene that its steps leave.
use Rattle.std.proofs.Common.{◌≡◌, ℕ, zero, suc, ◌+◌, ◌≤◌, List, [], ◌∷◌, ◌++◌, Bool, true, false, ◌&&◌, ◌||◌, length, map, refl, ap, ap₂, sym, ◌∙◌, subst, arith, length-append}
use Rattle.std.specs.Prelude.{◌==◌, nat_le, nat_lt, Option, Some, None}
use Rattle.std.specs.Option.{option_and_then}
use Rattle.std.proofs.lemmas.Bool.{and_from, lt-ltb, eq-eqb, eqb-true, eqb-false}
use Rattle.std.proofs.lemmas.List.{append-nil, map-append}
use Rattle.std.proofs.Math.Bool.{or-true}
use Rattle.arr_num.specs.declared.elem.Elem.{Elem}
use Rattle.arr_view.specs.Views.{positions}
use Rattle.arr_ops.specs.declared.op.Op.{Op}
use Rattle.arr_ops.specs.declared.gather.Gather.{Gather}
use Rattle.arr_ops.specs.declared.gather.Scatter.{Scatter}
use Rattle.arr_elab.specs.declared.value.Array.{Array}
use Rattle.arr_elab.specs.declared.step.Step.{Step}
use Rattle.arr_elab.specs.declared.step.Step.TheVariants as step
use Rattle.arr_elab.specs.declared.step.Step.TheVariants.{Act, Name, Forget, Done, Cut}
use Rattle.arr_elab.specs.State.{State, nothing_yet, stands_for, number_of, with_name}
use Rattle.arr_elab.specs.Recording.{Scene, opening, may_act, may_gather, may_scatter, made_by, other_names, allowed, after_step, after_steps}
use Rattle.arr_elab.proofs.Scenes.{Grows, Placed, Stands, placed_on, with_base, grows_base}
use Rattle.arr_elab.proofs.Naming.{at_number, found_at, set_at, kept_at, notes, notes_live, notes_other}

-- ---- one more step

pub one_more : (scene : Scene) (steps : List Step) (s : Step) → after_steps scene (steps ++ s ∷ []) ≡ option_and_then (λ next. after_step next s) (after_steps scene steps)
one_more scene [] s = alone (after_step scene s)
  where
    alone : (o : Option Scene) → option_and_then (λ next. Some next) o ≡ o
    alone None = refl
    alone (Some next) = refl
one_more scene (step ∷ steps) s = by (after_step scene step) (λ next. one_more next steps s)
  where
    by : (o : Option Scene) → ((next : Scene) → after_steps next (steps ++ s ∷ []) ≡ option_and_then (λ next. after_step next s) (after_steps next steps))
        → option_and_then (λ next. after_steps next (steps ++ s ∷ [])) o ≡ option_and_then (λ next. after_step next s) (option_and_then (λ next. after_steps next steps) o)
    by None rest = refl
    by (Some next) rest = rest next

-- ---- what a state keeps

-- the name of this number stands for an array
pub record Entry (scene : Scene) (n : ℕ) (a : Array) : Type 0 where
  pub placed : Placed scene a.elem a.view
  pub noted : notes n a.view.base scene.names ≡ true

pub record Keeps (s : State) (scene : Scene) : Type 0 where
  pub steps : after_steps opening s.steps ≡ Some scene
  pub lengths : map (λ (p : ℕ × Elem). p.0) scene.bases ≡ s.bases
  pub reached : scene.first ≤ length scene.bases
  pub names : (n : ℕ) (a : Array) → at_number s.names n ≡ Some a → Entry scene n a

pub keeps_nothing : Keeps nothing_yet opening
keeps_nothing = record { steps = refl; lengths = refl; reached = omega arith; names = λ n a e. none n a e }
  where
    none : (n : ℕ) (a : Array) → at_number [] n ≡ Some a → Entry opening n a
    none zero a e = absurd (let f : None ≡ Some a = e in cc)
    none (suc n) a e = absurd (let f : None ≡ Some a = e in cc)

entry_on : (a b : Scene) (n : ℕ) (x : Array) → Grows a b → Entry a n x → Entry b n x
entry_on a b n x g h = record { placed = placed_on a b x.elem x.view g h.placed; noted = ap (notes n x.view.base) g.names ∙ h.noted }

-- a name stands for a live base
pub stands_named : (s : State) (scene : Scene) (text : List ℕ) (a : Array) → Keeps s scene → stands_for s.names text ≡ Some a → Stands scene a.elem a.view
stands_named s scene text a k e =
    let entry = k.names (number_of s.names text) a (found_at s.names text a e) in
    let b : ℕ = a.view.base in
    record {
      placed = entry.placed;
      live =
          and_from (nat_lt b (length scene.bases)) _ (lt-ltb b (length scene.bases) entry.placed.made)
          (ap (λ t. nat_le scene.first b || t) (notes_live (number_of s.names text) b scene.names entry.noted) ∙ or-true (nat_le scene.first b));
    }

-- ---- steps

added : (s : State) (scene next : Scene) (step : Step) → Keeps s scene → after_step scene step ≡ Some next → after_steps opening (s.steps ++ step ∷ []) ≡ Some next
added s scene next step k e = one_more opening s.steps step ∙ ap (option_and_then (λ scene. after_step scene step)) k.steps ∙ e

acts : (scene : Scene) (op : Op) (made : List (ℕ × Elem)) → may_act scene op ≡ true → made_by op ≡ made → after_step scene (Act op) ≡ Some (record scene { bases = scene.bases ++ made })
acts scene op made e f = ap (λ b. allowed b (record scene { bases = scene.bases ++ made_by op })) e ∙ ap (λ xs. Some (record scene { bases = scene.bases ++ xs })) f

-- an operation that makes no base
pub keeps_act : (s : State) (scene : Scene) (op : Op) → Keeps s scene → may_act scene op ≡ true → made_by op ≡ [] → Keeps (record s { steps = s.steps ++ Act op ∷ [] }) scene
keeps_act s scene op k e f =
    record {
      steps = added s scene scene (Act op) k (acts scene op [] e f ∙ ap (λ xs. Some (record scene { bases = xs })) (append-nil scene.bases));
      lengths = k.lengths;
      reached = k.reached;
      names = k.names;
    }

-- one more base is made
made : (s : State) (scene : Scene) (new : Step) (n : ℕ) (t : Elem) → Keeps s scene → after_step scene new ≡ Some (with_base scene n t)
    → Keeps (record s { bases = s.bases ++ n ∷ []; steps = s.steps ++ new ∷ [] }) (with_base scene n t)
made s scene new n t k e =
    let long : length (scene.bases ++ (n, t) ∷ []) ≡ length scene.bases + 1 = length-append scene.bases ((n, t) ∷ []) in
    let low : scene.first ≤ length scene.bases = k.reached in
    record {
      steps = added s scene (with_base scene n t) new k e;
      lengths = map-append (λ (p : ℕ × Elem). p.0) scene.bases ((n, t) ∷ []) ∙ ap (λ xs. xs ++ n ∷ []) k.lengths;
      reached = omega arith;
      names = λ m a h. entry_on scene (with_base scene n t) m a (grows_base scene n t) (k.names m a h);
    }

-- an operation that makes a base
pub keeps_made : (s : State) (scene : Scene) (op : Op) (n : ℕ) (t : Elem) → Keeps s scene → may_act scene op ≡ true → made_by op ≡ (n, t) ∷ []
    → Keeps (record s { bases = s.bases ++ n ∷ []; steps = s.steps ++ Act op ∷ [] }) (with_base scene n t)
keeps_made s scene op n t k e f = made s scene (Act op) n t k (acts scene op ((n, t) ∷ []) e f)

pub keeps_gather : (s : State) (scene : Scene) (g : Gather) → Keeps s scene → may_gather scene g ≡ true
    → Keeps (record s { bases = s.bases ++ positions g.out.lengths ∷ []; steps = s.steps ++ step.Gather g ∷ [] }) (with_base scene (positions g.out.lengths) g.to)
keeps_gather s scene g k e = made s scene (step.Gather g) (positions g.out.lengths) g.to k (ap (λ b. allowed b (with_base scene (positions g.out.lengths) g.to)) e)

pub keeps_scatter : (s : State) (scene : Scene) (g : Scatter) → Keeps s scene → may_scatter scene g ≡ true → Keeps (record s { steps = s.steps ++ step.Scatter g ∷ [] }) scene
keeps_scatter s scene g k e =
    record { steps = added s scene scene (step.Scatter g) k (ap (λ b. allowed b scene) e); lengths = k.lengths; reached = k.reached; names = k.names }

pub keeps_done : (s : State) (scene : Scene) → Keeps s scene → Keeps (record s { steps = s.steps ++ Done ∷ [] }) (record scene { first = length scene.bases })
keeps_done s scene k =
    record {
      steps = added s scene (record scene { first = length scene.bases }) Done k refl;
      lengths = k.lengths;
      reached = omega arith;
      names = λ n a h. let e = k.names n a h in record { placed = record { lawful = e.placed.lawful; made = e.placed.made; typed = e.placed.typed; inside = e.placed.inside }; noted = e.noted };
    }

pub keeps_cut : (s : State) (scene : Scene) → Keeps s scene → Keeps (record s { steps = s.steps ++ Cut ∷ [] }) scene
keeps_cut s scene k = record { steps = added s scene scene Cut k refl; lengths = k.lengths; reached = k.reached; names = k.names }

pub keeps_begun : (s : State) (scene : Scene) (first : ℕ) → Keeps s scene → Keeps (record s { first = first }) scene
keeps_begun s scene first k = record { steps = k.steps; lengths = k.lengths; reached = k.reached; names = k.names }

-- ---- names

abbrev renamed : Scene → List (ℕ × ℕ) → Scene
renamed scene names = record scene { names = names }

entry_with : (scene : Scene) (names : List (ℕ × ℕ)) (n : ℕ) (a : Array) → Placed scene a.elem a.view → notes n a.view.base names ≡ true → Entry (renamed scene names) n a
entry_with scene names n a p h = record { placed = record { lawful = p.lawful; made = p.made; typed = p.typed; inside = p.inside }; noted = h }

pub keeps_name : (s : State) (scene : Scene) (text : List ℕ) (a : Array) → Keeps s scene → Stands scene a.elem a.view
    → Keeps (record s { names = with_name s.names text (Some a); steps = s.steps ++ Name (number_of s.names text) a.view.base ∷ [] })
    (record scene { names = (number_of s.names text, a.view.base) ∷ other_names (number_of s.names text) scene.names })
keeps_name s scene text a k h =
    let n : ℕ = number_of s.names text in
    record {
      steps = added s scene (renamed scene ((n, a.view.base) ∷ other_names n scene.names)) (Name n a.view.base) k
          (ap (λ b. allowed b (renamed scene ((n, a.view.base) ∷ other_names n scene.names))) h.live);
      lengths = k.lengths;
      reached = k.reached;
      names = λ m x e. by m x (m == n) refl e;
    }
  where
    now : List (ℕ × ℕ)
    now = (number_of s.names text, a.view.base) ∷ other_names (number_of s.names text) scene.names

    by : (m : ℕ) (x : Array) (b : Bool) → (m == number_of s.names text) ≡ b → at_number (with_name s.names text (Some a)) m ≡ Some x → Entry (renamed scene now) m x
    by m x true f e =
        let here : m ≡ number_of s.names text = eqb-true m (number_of s.names text) f in
        let is : Some a ≡ Some x = sym (ap (at_number (with_name s.names text (Some a))) here ∙ set_at s.names text (Some a)) ∙ e in
        let same : a ≡ x = cc in
        subst (λ y. Entry (renamed scene now) m y) same
        (entry_with scene now m a h.placed
        (ap₂ (λ p q. (p && q) || notes m a.view.base (other_names (number_of s.names text) scene.names)) (eq-eqb (number_of s.names text) m (sym here)) (eq-eqb a.view.base a.view.base refl)))
    by m x false f e =
        let other : m ≡ number_of s.names text → ⊥ = eqb-false m (number_of s.names text) f in
        let was = k.names m x (sym (kept_at s.names text (Some a) m other) ∙ e) in
        entry_with scene now m x was.placed
        (ap (λ t. ((number_of s.names text == m) && (a.view.base == x.view.base)) || t) (notes_other (number_of s.names text) m x.view.base scene.names other was.noted)
        ∙ or-true ((number_of s.names text == m) && (a.view.base == x.view.base)))

pub keeps_forgotten : (s : State) (scene : Scene) (text : List ℕ) → Keeps s scene
    → Keeps (record s { names = with_name s.names text None; steps = s.steps ++ Forget (number_of s.names text) ∷ [] }) (record scene { names = other_names (number_of s.names text) scene.names })
keeps_forgotten s scene text k =
    let n : ℕ = number_of s.names text in
    record {
      steps = added s scene (renamed scene (other_names n scene.names)) (Forget n) k refl;
      lengths = k.lengths;
      reached = k.reached;
      names = λ m x e. by m x (m == n) refl e;
    }
  where
    by : (m : ℕ) (x : Array) (b : Bool) → (m == number_of s.names text) ≡ b → at_number (with_name s.names text None) m ≡ Some x → Entry (renamed scene (other_names (number_of s.names text) scene.names)) m x
    by m x true f e =
        let here : m ≡ number_of s.names text = eqb-true m (number_of s.names text) f in
        let is : None ≡ Some x = sym (ap (at_number (with_name s.names text None)) here ∙ set_at s.names text None) ∙ e in
        absurd cc
    by m x false f e =
        let other : m ≡ number_of s.names text → ⊥ = eqb-false m (number_of s.names text) f in
        let was = k.names m x (sym (kept_at s.names text None m other) ∙ e) in
        entry_with scene (other_names (number_of s.names text) scene.names) m x was.placed (notes_other (number_of s.names text) m x.view.base scene.names other was.noted)
