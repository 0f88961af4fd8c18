-- What each step makes of what is written and of the ledger, and the loop over all steps.
use Rattle.std.proofs.Common.{◌≡◌, ℕ, ◌+◌, ◌<◌, ◌≤◌, ◌^◌, List, [], ◌∷◌, ◌++◌, Bool, true, false, refl, ap, ap₂, sym, subst, ◌∙◌, arith, length, length-append, drop, get_or, Some, None, Result, Ok, Err, OnOk}
use Rattle.std.proofs.lemmas.Bool.{false≢true, eqb-true}
use Rattle.arr_ops.proofs.Tests.{both_right}
use Rattle.std.proofs.lemmas.List.{length-map, at_drop_more, at_drop_all}
use Rattle.std.specs.Prelude.{is_some}
use Rattle.std.specs.List.{AllByRecursion, filter}
use Rattle.std.specs.Option.{option_and_then}
use Rattle.arr_num.specs.declared.elem.Elem.{Elem}
use Rattle.arr_view.specs.Strided.{Strided}
use Rattle.arr_view.specs.Views.{positions}
use Rattle.arr_ops.specs.declared.op.Op.{Op}
use Rattle.arr_ops.specs.Ops.{outputs}
use Rattle.arr_elab.specs.declared.step.Step.{Step}
use Rattle.arr_ops.specs.declared.gather.Gather.{Gather}
use Rattle.arr_ops.specs.declared.gather.Scatter.{Scatter}
use Rattle.arr_ops.specs.Gathers.{is_gather}
use Rattle.arr_elab.specs.declared.step.Step.TheVariants as step
use Rattle.arr_elab.specs.declared.step.Step.TheVariants.{Act, Name, Forget, Done, Cut}
use Rattle.arr_elab.specs.Steps.{Progress, not_begun, run_step}
use Rattle.arr_elab.specs.Recording.{Scene, opening, is_live, stands, may_act, may_gather, may_scatter, made_by, other_names, after_step, after_steps, is_recording, allowed}
use Rattle.arr_record.specs.Parts.{State, Written, nothing_yet, append, cut, put, made, free_each, is_named, after, after_all, ended, parts_of}
use Rattle.arr_record.specs.declared.part.Part.TheVariants as part
use Rattle.arr_record.specs.Ledger.{Ledger, Owned, Follows, Ready, with_types}
use Rattle.arr_record.proofs.Recorded.{recorded}
use Rattle.arr_record.proofs.Named.{others_few}
use Rattle.arr_record.proofs.Ledgers.{owned_freed, loose_typed}
use Rattle.arr_record.proofs.Walk.{Walked, walked_step, begun}

pub on_ok : {T E : Type 0} (r : Result T E) (P Q : Type 0) → (P → Q) → OnOk r P → OnOk r Q
on_ok (Ok x) P Q f h = f h
on_ok (Err e) P Q f h = tt

pub both_ok : {T E : Type 0} (r : Result T E) (P Q : Type 0) → OnOk r P → OnOk r Q → OnOk r (P × Q)
both_ok (Ok x) P Q p q = (p, q)
both_ok (Err e) P Q p q = tt

-- ---- an operation

pub may_of : (scene next : Scene) (op : Op) → after_step scene (Act op) ≡ Some next → (may_act scene op ≡ true) × (record scene { bases = scene.bases ++ made_by op } ≡ next)
may_of scene next op e =
    elim (may_act scene op) as (λ t. may_act scene op ≡ t → allowed t (record scene { bases = scene.bases ++ made_by op }) ≡ Some next
    → (may_act scene op ≡ true) × (record scene { bases = scene.bases ++ made_by op } ≡ next)) [
      | true ↦ λ m f. let same : record scene { bases = scene.bases ++ made_by op } ≡ next = cc in (m, same)
      | false ↦ λ m f. absurd (cc)
    ] refl e

-- what it makes is the next base
pub makes_next_base : (scene next : Scene) (op : Op) → after_step scene (Act op) ≡ Some next → op.makes ≡ true → AllByRecursion (λ (o : Strided). o.base ≡ length scene.bases) (outputs op)
makes_next_base scene next op e m = (recorded scene (is_live scene) op 1 (λ b h. h) (may_of scene next op e).0).allowed.makes m

as_many : (op : Op) → length (made op) ≡ length (made_by op)
as_many op =
    length-map (filter (λ _. op.makes) (outputs op)) (λ (o : Strided). let p : ℕ × Elem = (o.base, op.to) in p)
    ∙ sym (length-map (filter (λ _. op.makes) (outputs op)) (λ (o : Strided). let p : ℕ × Elem = (positions o.lengths, op.to) in p))

pub follows_act : (scene next : Scene) (s : State) (w v : Written) (o p : Ledger) (op : Op) → Follows scene s w o → after_step scene (Act op) ≡ Some next → v ≡ append w op
    → ((names : List (ℕ × ℕ)) → (live : List (ℕ × Elem)) → Owned o names live → Owned p names (live ++ made op)) → length p.elems ≡ length o.elems + length (made op)
    → Follows next (after s (Act op)) v p
follows_act scene next s w v o p op f e written owned longer =
    let bases : length (scene.bases ++ made_by op) ≡ length scene.bases + length (made_by op) = length-append scene.bases (made_by op) in
    let many : length (made op) ≡ length (made_by op) = as_many op in
    let made_now : length o.elems ≡ length scene.bases = f.made in
    let all : length p.elems ≡ length (scene.bases ++ made_by op) = omega arith in
    record {
      written = written ∙ ap (λ (x : Written). append x op) f.written;
      owned = owned s.names s.live f.owned;
      made = all ∙ ap (λ (n : Scene). length n.bases) (may_of scene next op e).1;
    }

-- ---- a gather, and a scatter

gathers : (scene next : Scene) (g : Gather) → after_step scene (step.Gather g) ≡ Some next
    → (may_gather scene g ≡ true) × (record scene { bases = scene.bases ++ (positions g.out.lengths, g.to) ∷ [] } ≡ next)
gathers scene next g e =
    elim (may_gather scene g) as (λ t. may_gather scene g ≡ t → allowed t (record scene { bases = scene.bases ++ (positions g.out.lengths, g.to) ∷ [] }) ≡ Some next
    → (may_gather scene g ≡ true) × (record scene { bases = scene.bases ++ (positions g.out.lengths, g.to) ∷ [] } ≡ next)) [
      | true ↦ λ m f. let same : record scene { bases = scene.bases ++ (positions g.out.lengths, g.to) ∷ [] } ≡ next = cc in (m, same)
      | false ↦ λ m f. absurd (cc)
    ] refl e

-- what it makes is the next base
pub gather_next : (scene next : Scene) (g : Gather) → after_step scene (step.Gather g) ≡ Some next → g.out.base ≡ length scene.bases
gather_next scene next g e =
    eqb-true g.out.base (length scene.bases)
    (both_right (stands scene g.of g.index) _ (both_right (stands scene g.to g.source) _ (both_right (is_gather g) _ (gathers scene next g e).0)))

pub follows_gather : (scene next : Scene) (s : State) (w v : Written) (o p : Ledger) (g : Gather) → Follows scene s w o → after_step scene (step.Gather g) ≡ Some next → v ≡ put w (part.Gather g)
    → ((names : List (ℕ × ℕ)) → (live : List (ℕ × Elem)) → Owned o names live → Owned p names (live ++ (g.out.base, g.to) ∷ [])) → length p.elems ≡ length o.elems + 1
    → Follows next (after s (step.Gather g)) v p
follows_gather scene next s w v o p g f e written owned longer =
    let new : ℕ × Elem = (positions g.out.lengths, g.to) in
    let bases : length (scene.bases ++ new ∷ []) ≡ length scene.bases + 1 = length-append scene.bases (new ∷ []) in
    let made_now : length o.elems ≡ length scene.bases = f.made in
    let all : length p.elems ≡ length (scene.bases ++ new ∷ []) = omega arith in
    record {
      written = written ∙ ap (λ (x : Written). put x (part.Gather g)) f.written;
      owned = owned s.names s.live f.owned;
      made = all ∙ ap (λ (n : Scene). length n.bases) (gathers scene next g e).1;
    }

pub follows_scatter : (scene next : Scene) (s : State) (w v : Written) (o : Ledger) (g : Scatter) → Follows scene s w o → after_step scene (step.Scatter g) ≡ Some next → v ≡ put w (part.Scatter g)
    → Follows next (after s (step.Scatter g)) v o
follows_scatter scene next s w v o g f e written =
    elim (may_scatter scene g) as (λ t. allowed t scene ≡ Some next → Follows next (after s (step.Scatter g)) v o) [
      | true ↦ λ h.
          let same : scene ≡ next = cc in
          record { written = written ∙ ap (λ (x : Written). put x (part.Scatter g)) f.written; owned = f.owned; made = f.made ∙ ap (λ (n : Scene). length n.bases) same }
      | false ↦ λ h. absurd (cc)
    ] e

-- ---- a name

pub name_live : (scene next : Scene) (n b : ℕ) → after_step scene (Name n b) ≡ Some next → is_live scene b ≡ true
name_live scene next n b e =
    elim (is_live scene b) as (λ t. allowed t (record scene { names = (n, b) ∷ other_names n scene.names }) ≡ Some next → t ≡ true) [
      | true ↦ λ f. refl
      | false ↦ λ f. absurd (cc)
    ] e

-- ---- the end of a statement

pub follows_done : (scene next : Scene) (s : State) (w v : Written) (o p : Ledger) → Follows scene s w o → after_step scene Done ≡ Some next → v ≡ free_each w (with_types o.elems o.loose)
    → p ≡ record o { loose = [] } → Follows next (after s Done) v p
follows_done scene next s w v o p f e written left =
    let same : record scene { first = length scene.bases } ≡ next = cc in
    record {
      written = written ∙ ap₂ free_each f.written (loose_typed o s.names s.live f.owned);
      owned = subst (λ l. Owned l s.names (filter (is_named s.names) s.live)) (sym left) (owned_freed o s.names s.live f.owned);
      made = ap (λ (l : Ledger). length l.elems) left ∙ f.made ∙ ap (λ (n : Scene). length n.bases) same;
    }

-- ---- the loop

-- after the first of the steps
pub record Along (steps : List Step) (at : ℕ) (w : Written) (o : Ledger) : Type 0 where
  pub scene : Scene
  pub state : State
  pub past : Progress
  pub walked : Walked scene past state
  pub follows : Follows scene state w o
  pub rest : is_some (after_steps scene (drop at steps)) ≡ true
  pub ends : after_all state (drop at steps) ≡ after_all nothing_yet steps
  pub few : length state.names ≤ at

pub along_none : (steps : List Step) (w : Written) (o : Ledger) → is_recording steps ≡ true → w ≡ record { parts = []; waiting = [] } → Owned o [] [] → length o.elems ≡ 0 → Along steps 0 w o
along_none steps w o h written owned none =
    record {
      scene = opening;
      state = nothing_yet;
      past = not_begun;
      walked = begun;
      follows = record { written = written; owned = owned; made = none };
      rest = h;
      ends = refl;
      few = omega arith;
    }

one_step : (scene : Scene) (new : Step) (steps : List Step) → is_some (after_steps scene (new ∷ steps)) ≡ true → (next : Scene) × (after_step scene new ≡ Some next) × (is_some (after_steps next steps) ≡ true)
one_step scene new steps h =
    elim (after_step scene new) as (λ r. after_step scene new ≡ r → is_some (option_and_then (λ next. after_steps next steps) r) ≡ true
    → (next : Scene) × (after_step scene new ≡ Some next) × (is_some (after_steps next steps) ≡ true)) [
      | None ↦ λ e k. absurd (false≢true k)
      | Some next ↦ λ e k. (next, e, k)
    ] refl h

names_few : (s : State) (new : Step) → length (after s new).names ≤ length s.names + 1
names_few s (Act op) = omega arith
names_few s (step.Gather g) = omega arith
names_few s (step.Scatter g) = omega arith
names_few s (Name n b) = let others : length (other_names n s.names) ≤ length s.names = others_few s.names n in omega arith
names_few s (Forget n) = let others : length (other_names n s.names) ≤ length s.names = others_few s.names n in omega arith
names_few s Done = omega arith
names_few s Cut = omega arith

module _ (steps : List Step) (at : ℕ) (w : Written) (o : Ledger) (new : Step) (a : Along steps at w o) (l : at < length steps) (here : get_or steps at new ≡ new) where
  left : (f : List Step → Bool) → f (drop at steps) ≡ f (new ∷ drop (at + 1) steps)
  left f = at_drop_more f steps at new l ∙ ap (λ t. f (t ∷ drop (at + 1) steps)) here

  next_one : (next : Scene) × (after_step a.scene new ≡ Some next) × (is_some (after_steps next (drop (at + 1) steps)) ≡ true)
  next_one = one_step a.scene new (drop (at + 1) steps) (sym (left (λ xs. is_some (after_steps a.scene xs))) ∙ a.rest)

  pub ready : at < 2 ^ 63 → Ready w o new
  ready small =
      record {
        scene = a.scene;
        state = a.state;
        next = next_one.0;
        follows = a.follows;
        live = a.walked.live;
        may = next_one.1;
        few = let n : length a.state.names ≤ at = a.few in omega arith;
      }

  pub along_more : (v : Written) (p : Ledger) → (small : at < 2 ^ 63) → Follows (ready small).next (after (ready small).state new) v p → Along steps (at + 1) v p
  unfolding next_one ready
  along_more v p small f =
      record {
        scene = next_one.0;
        state = after a.state new;
        past = run_step a.past new;
        walked = walked_step new a.scene next_one.0 a.past a.state a.walked next_one.1;
        follows = f;
        rest = next_one.2;
        ends = sym (at_drop_more (after_all a.state) steps at new l ∙ ap (λ t. after_all a.state (t ∷ drop (at + 1) steps)) here) ∙ a.ends;
        few = let n : length a.state.names ≤ at = a.few in let m : length (after a.state new).names ≤ length a.state.names + 1 = names_few a.state new in omega arith;
      }

-- after all steps
pub all_written : (steps : List Step) (at : ℕ) (w v u : Written) (o p : Ledger) → Along steps at w o → length steps ≤ at
    → ((names : List (ℕ × ℕ)) → (live : List (ℕ × Elem)) → Owned o names live → Owned p [] live) → v ≡ free_each w (with_types p.elems p.loose) → u ≡ cut v
    → u.parts ≡ parts_of steps
all_written steps at w v u o p a l released freed was_cut =
    let state : a.state ≡ after_all nothing_yet steps = sym (at_drop_all (after_all a.state) steps at l) ∙ a.ends in
    ap (λ (x : Written). x.parts) was_cut
    ∙ ap (λ (x : Written). (cut x).parts) (freed ∙ ap₂ free_each a.follows.written (loose_typed p [] a.state.live (released a.state.names a.state.live a.follows.owned)))
    ∙ ap (λ (s : State). (ended s).parts) state
