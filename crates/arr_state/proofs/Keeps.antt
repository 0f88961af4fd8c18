-- What is kept as a fact comes or goes.
use Rattle.std.proofs.Common.{◌≡◌, ℕ, ◌+◌, ◌-◌, ◌<◌, ◌≤◌, List, [], ◌∷◌, ◌++◌, length, take, get_or, true, false, sym, ap, ◌∙◌, subst, arith, ⊎_elim, length-append}
use Rattle.std.proofs.lemmas.List.{take-append-le, take-take, take_all, get_or-take}
use Rattle.std.proofs.lemmas.Bool.{cases_eq}
use Rattle.arr_ops.proofs.Tests.{or_cases}
use Rattle.arr_law.specs.declared.fact.Fact.{Fact}
use Rattle.arr_law.specs.Problem.{Problem, is_op, ends_base_of}
use Rattle.arr_law.specs.Facts.{Facts, is_fact, with_fact, root_facts, facts_of}
use Rattle.arr_law.specs.Floor.{IsSymmetric, IsClosed}
use Rattle.arr_state.specs.Known.{after, first, second, AreFresh, AreOps}
use Rattle.arr_state.specs.Rows.{rows_with, AreRowed}
use Rattle.arr_state.specs.Kept.{ClosedAt, AreClosed, AreKept}
use Rattle.arr_state.proofs.Basics.{with_within}
use Rattle.arr_state.proofs.Spelled.{with_here, same_or_turned, turned_ops, symmetric_after}
use Rattle.arr_state.proofs.Touches.{op_small}
use Rattle.arr_state.proofs.Wents.{facts_after}
use Rattle.arr_state.proofs.Words.{rows_add, rows_drop}

pub fresh_more : (facts : Facts) (trail : List Fact) (x : Fact) → AreFresh facts trail → after facts trail x ≡ false → AreFresh facts (trail ++ x ∷ [])
fresh_more facts [] x p e = (e, tt)
fresh_more facts (y ∷ trail) x p e = (p.0, fresh_more (with_fact y facts) trail x p.1 e)

pub fresh_less : (facts : Facts) (trail : List Fact) (x : Fact) → AreFresh facts (trail ++ x ∷ []) → AreFresh facts trail × (after facts trail x ≡ false)
fresh_less facts [] x p = (tt, p.0)
fresh_less facts (y ∷ trail) x p = let h = fresh_less (with_fact y facts) trail x p.1 in ((p.0, h.0), h.1)

about_with : (problem : Problem) (facts : Facts) (x : Fact) → AreOps problem x → ((y : Fact) → facts y ≡ true → AreOps problem y) → (y : Fact) → with_fact x facts y ≡ true → AreOps problem y
about_with problem facts x a old y e =
    or_cases (is_fact x y) (facts y) e
    (λ here. same_or_turned x y here (AreOps problem y) (λ s. subst (AreOps problem) (sym s) a) (λ s. subst (AreOps problem) (sym s) (turned_ops problem x a)))
    (old y)

closed_more : (problem : Problem) (trail gives : List Fact) (closed : List ℕ) → AreClosed problem trail closed → AreClosed problem (trail ++ gives) closed
closed_more problem trail gives closed c =
    record {
      each = λ k l. let p = c.each k l in
          record { within = omega (arith, p.within, length-append trail gives); shut = subst (λ t. IsClosed problem (facts_of problem t)) (sym (take-append-le (get_or closed k 0) trail gives p.within)) p.shut };
      rising = c.rising;
    }

closed_less : (problem : Problem) (trail gives : List Fact) (closed : List ℕ) → AreClosed problem (trail ++ gives) closed → ((k : ℕ) → k < length closed → get_or closed k 0 ≤ length trail) → AreClosed problem trail closed
closed_less problem trail gives closed c low =
    record {
      each = λ k l. let p = c.each k l in
          record { within = low k l; shut = subst (λ t. IsClosed problem (facts_of problem t)) (take-append-le (get_or closed k 0) trail gives (low k l)) p.shut };
      rising = c.rising;
    }

pub small_op : (problem : Problem) (f : ℕ) → is_op problem f ≡ true → f ≤ problem.count
small_op problem f e = let l : f < problem.count + 1 = op_small problem f e in omega arith

pub kept_add : (problem : Problem) (trail trail' : List Fact) (rows rows' : List ℕ) (closed : List ℕ) (x : Fact) → AreKept problem trail rows closed → AreOps problem x → facts_of problem trail x ≡ false → trail' ≡ trail ++ x ∷ [] → rows' ≡ rows_with problem.count x true rows → AreKept problem trail' rows' closed
kept_add problem trail trail' rows rows' closed x kept a isnt t r =
    let e : facts_of problem trail' ≡ with_fact x (facts_of problem trail) = facts_after problem trail trail' (x ∷ []) t in
    record {
      few = kept.few;
      rowed = subst (AreRowed problem.count (ends_base_of problem) rows') (sym e) (rows_add problem.count (ends_base_of problem) rows rows' (facts_of problem trail) x (small_op problem (first x) a.left) (small_op problem (second x) a.right) r kept.rowed);
      even = kept.even;
      about = λ y k. about_with problem (facts_of problem trail) x a kept.about y (sym (ap (λ (f : Facts). f y) e) ∙ k);
      fresh = subst (AreFresh (root_facts problem)) (sym t) (fresh_more (root_facts problem) trail x kept.fresh isnt);
      shut = subst (λ u. AreClosed problem u closed) (sym t) (closed_more problem trail (x ∷ []) closed kept.shut);
    }

-- the last fact of a list
pub last_about : (problem : Problem) (trail trail' : List Fact) (rows : List ℕ) (closed : List ℕ) (x : Fact) → AreKept problem trail' rows closed → trail' ≡ trail ++ x ∷ [] → AreOps problem x
last_about problem trail trail' rows closed x kept t = kept.about x (ap (λ (g : Facts). g x) (facts_after problem trail trail' (x ∷ []) t) ∙ with_here (facts_of problem trail) x)

pub last_small : (problem : Problem) (trail trail' : List Fact) (rows : List ℕ) (closed : List ℕ) (x : Fact) → AreKept problem trail' rows closed → trail' ≡ trail ++ x ∷ [] → (first x ≤ problem.count) × (second x ≤ problem.count)
last_small problem trail trail' rows closed x kept t =
    let a = last_about problem trail trail' rows closed x kept t in
    (small_op problem (first x) a.left, small_op problem (second x) a.right)

pub kept_drop : (problem : Problem) (trail trail' : List Fact) (rows rows' : List ℕ) (closed : List ℕ) (x : Fact) → AreKept problem trail' rows closed → trail' ≡ trail ++ x ∷ [] → rows' ≡ rows_with problem.count x false rows → ((k : ℕ) → k < length closed → get_or closed k 0 ≤ length trail) → AreKept problem trail rows' closed
kept_drop problem trail trail' rows rows' closed x kept t r low =
    let e : facts_of problem trail' ≡ with_fact x (facts_of problem trail) = facts_after problem trail trail' (x ∷ []) t in
    let f = fresh_less (root_facts problem) trail x (subst (AreFresh (root_facts problem)) t kept.fresh) in
    let s = last_small problem trail trail' rows closed x kept t in
    record {
      few = kept.few;
      rowed = rows_drop problem.count (ends_base_of problem) rows rows' (facts_of problem trail) x s.0 s.1 f.1 (symmetric_after (root_facts problem) trail kept.even) r (subst (AreRowed problem.count (ends_base_of problem) rows) e kept.rowed);
      even = kept.even;
      about = λ y k. kept.about y (ap (λ (g : Facts). g y) e ∙ with_within (facts_of problem trail) x y k);
      fresh = f.0;
      shut = closed_less problem trail (x ∷ []) closed (subst (λ u. AreClosed problem u closed) t kept.shut) low;
    }

-- the same facts, closed at other lengths
pub kept_closed : (problem : Problem) (trail : List Fact) (rows closed closed' : List ℕ) → AreKept problem trail rows closed → AreClosed problem trail closed' → AreKept problem trail rows closed'
kept_closed problem trail rows closed closed' kept shut = record { few = kept.few; rowed = kept.rowed; even = kept.even; about = kept.about; fresh = kept.fresh; shut = shut }

pub kept_even : (problem : Problem) (trail : List Fact) (rows closed : List ℕ) → AreKept problem trail rows closed → IsSymmetric (facts_of problem trail)
kept_even problem trail rows closed kept = symmetric_after (root_facts problem) trail kept.even

-- each place of a list of lengths that rises is at most the last
pub low_all : (problem : Problem) (trail : List Fact) (closed : List ℕ) (mark : ℕ) → AreClosed problem trail closed → (0 < length closed → get_or closed (length closed - 1) 0 ≤ mark) → (k : ℕ) → k < length closed → get_or closed k 0 ≤ mark
low_all problem trail closed mark c last k l =
    ⊎_elim
    (λ (e : k ≡ length closed - 1). let h : get_or closed (length closed - 1) 0 ≤ mark = last (omega arith) in subst (λ j. get_or closed j 0 ≤ mark) (sym e) h)
    (λ (ne : k ≡ length closed - 1 → ⊥). let h : get_or closed (length closed - 1) 0 ≤ mark = last (omega arith) in omega (arith, h, c.rising k (length closed - 1) (omega arith) (omega arith)))
    (cases_eq k (length closed - 1))

pub closed_take : (problem : Problem) (trail : List Fact) (closed closed' : List ℕ) → AreClosed problem trail closed → closed' ≡ take (length closed') closed → length closed' ≤ length closed → AreClosed problem trail closed'
closed_take problem trail closed closed' c e l =
    record {
      each = λ k lk. subst (ClosedAt problem trail) (sym (same k lk)) (c.each k (omega (arith, l, lk)));
      rising = λ i j lij lj. subst (λ a. a ≤ get_or closed' j 0) (sym (same i (omega (arith, lij, lj)))) (subst (λ b. get_or closed i 0 ≤ b) (sym (same j lj)) (c.rising i j lij (omega (arith, l, lj))));
    }
  where
    same : (k : ℕ) → k < length closed' → get_or closed' k 0 ≡ get_or closed k 0
    same k lk = ap (λ xs. get_or xs k 0) e ∙ get_or-take (length closed') closed k 0 lk

pub take_less : (all trail trail' : List Fact) (x : Fact) → trail' ≡ take (length trail') all → trail' ≡ trail ++ x ∷ [] → trail ≡ take (length trail) all
take_less all trail trail' x e t =
    let l : length trail' ≡ length trail + 1 = ap length t ∙ length-append trail (x ∷ []) in
    sym (take-append-le (length trail) trail (x ∷ []) (omega arith) ∙ take_all (length trail) trail (omega arith))
    ∙ (ap (take (length trail)) (sym t ∙ e) ∙ take-take (length trail) (length trail') all (omega arith))
