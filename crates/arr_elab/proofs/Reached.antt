-- Where statements lead, each array that is read is of a base that is there.
use Rattle.std.proofs.Common.{◌≡◌, ℕ, ◌+◌, ◌<◌, List, [], ◌∷◌, ◌++◌, Bool, true, false, cond, length, length-append, refl, ap, sym, ◌∙◌, subst, arith}
use Rattle.std.specs.Prelude.{nat_lt, is_ok, Ok, Err}
use Rattle.std.proofs.lemmas.List.{length-map}
use Rattle.arr_num.specs.declared.elem.Elem.{Elem}
use Rattle.arr_view.specs.Strided.{Strided}
use Rattle.arr_view.specs.Views.{positions, whole_view}
use Rattle.arr_tree.specs.declared.refusal.Place.{Place}
use Rattle.arr_tree.specs.declared.refusal.Kind.TheVariants.{TooMuchLive}
use Rattle.arr_tree.specs.declared.tree.Expr.{Expr}
use Rattle.arr_tree.specs.declared.tree.Statement.{Statement}
use Rattle.arr_elab.specs.declared.value.Array.{Array}
use Rattle.arr_elab.specs.declared.step.Step.{Step}
use Rattle.arr_elab.specs.State.{State, Checked, and_then, nothing_yet, fresh, step, live, most_live}
use Rattle.arr_elab.specs.Expressions.{array}
use Rattle.arr_elab.specs.Outcome.{IsReached, IsBegun, prepared, statement, statements}
use Rattle.arr_elab.specs.Recording.{opening}
use Rattle.arr_elab.proofs.Keeping.{keeps_nothing, keeps_begun}
use Rattle.arr_elab.proofs.Sound.{array_sound}
use Rattle.arr_elab.proofs.EachTree.{prepared_sound}
use Rattle.arr_elab.proofs.EachStatement.{Leaves, statements_leave}

abbrev done : State → Checked (Unit {0} × State)
done s = Ok (tt, s)

same_state : (a b : State) → done a ≡ done b → a ≡ b
same_state a b e = ap state_of e
  where
    state_of : Checked (Unit {0} × State) → State
    state_of (Ok r) = r.1
    state_of (Err x) = a

begun_keeps : (s : State) → IsBegun s → Leaves (tt, s)
begun_keeps s h =
    let old : Leaves (tt, h.0) = statements_leave h.1.0 opening nothing_yet (tt, h.0) keeps_nothing h.1.1 in
    let is : record h.0 { first = length h.0.bases } ≡ s = same_state (record h.0 { first = length h.0.bases }) s h.2 in
    subst (λ s. Leaves (tt, s)) is (record { scene = old.scene; keeps = keeps_begun h.0 old.scene (length h.0.bases) old.keeps })

pub array_there : (x : Expr) (s t : State) (a : Array) → IsBegun s → array (prepared x) s ≡ Ok (a, t) → a.view.base < length t.bases
array_there x s t a h e =
    let old = begun_keeps s h in
    let read = array_sound (prepared x) (prepared_sound x) old.scene s (a, t) old.keeps e in
    let made : a.view.base < length read.next.bases = read.holds.placed.made in
    let same : length read.next.bases ≡ length t.bases = sym (length-map read.next.bases (λ (b : ℕ × Elem). b.0)) ∙ ap length read.keeps.lengths in
    omega (arith, made, same)

-- the view of a fresh base is of a base that is there
pub fresh_there : (at : Place) (ns : List ℕ) (s t : State) (v : Strided) → fresh at ns s ≡ Ok (v, t) → v.base < length t.bases
unfolding fresh
fresh_there at ns s t v e = by (nat_lt most_live (live s + positions ns)) e
  where
    refused : Checked (Strided × State)
    refused = Err (record { at = at; kind = TooMuchLive })

    made : Checked (Strided × State)
    made = Ok (whole_view (length s.bases) ns, record s { bases = s.bases ++ positions ns ∷ [] })

    base_of : Checked (Strided × State) → ℕ
    base_of (Ok r) = r.0.base
    base_of (Err x) = 0

    count_of : Checked (Strided × State) → ℕ
    count_of (Ok r) = length r.1.bases
    count_of (Err x) = 0

    by : (b : Bool) → cond b refused made ≡ Ok (v, t) → v.base < length t.bases
    by true e = absurd (let f : false ≡ true = ap is_ok e in cc)
    by false e =
        let base : length s.bases ≡ v.base = ap base_of e in
        let long : length (s.bases ++ positions ns ∷ []) ≡ length t.bases = ap count_of e in
        omega (arith, base, long, length-append s.bases (positions ns ∷ []))

-- a step makes no base
pub step_keeps : (new : Step) (s t : State) → step new s ≡ Ok (tt, t) → length t.bases ≡ length s.bases
step_keeps new s t e = sym (ap (λ (t : State). length t.bases) (same_state (record s { steps = s.steps ++ new ∷ [] }) t e))

one_more : (xs : List Statement) (x : Statement) (s : State) → statements (xs ++ x ∷ []) s ≡ and_then (statements xs s) (λ r. statements (x ∷ []) r.1)
one_more [] x s = refl
one_more (y ∷ ys) x s = by (statement y s) (λ r. one_more ys x r)
  where
    by : (o : Checked (Unit {0} × State)) → ((r : State) → statements (ys ++ x ∷ []) r ≡ and_then (statements ys r) (λ r. statements (x ∷ []) r.1))
        → and_then o (λ r. statements (ys ++ x ∷ []) r.1) ≡ and_then (and_then o (λ r. statements ys r.1)) (λ r. statements (x ∷ []) r.1)
    by (Err e) rest = refl
    by (Ok r) rest = rest r.1

pub reached_next : (x : Statement) (s t : State) → IsReached s → statement x s ≡ Ok (tt, t) → IsReached t
reached_next x s t h e = (h.0 ++ x ∷ [], one_more h.0 x nothing_yet ∙ ap (λ o. and_then o (λ r. statements (x ∷ []) r.1)) h.1 ∙ ap (λ o. and_then o (λ r. Ok (tt, r.1))) e)
