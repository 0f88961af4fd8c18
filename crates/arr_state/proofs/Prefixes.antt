-- What is worked off: the first facts of a list.
use Rattle.std.proofs.Common.{◌≡◌, ℕ, zero, suc, ◌+◌, ◌-◌, ◌<◌, ◌≤◌, List, [], ◌∷◌, ◌++◌, length, take, drop, get_or, true, ◌||◌, ⊎_elim, refl, sym, ap, ◌∙◌, subst, arith, length-append, add-one}
use Rattle.std.proofs.lemmas.List.{take-append-le, take-append-drop, get_or_append_left, get_or-append-add, take_all}
use Rattle.std.proofs.lemmas.Bool.{cases_lt}
use Rattle.arr_law.specs.declared.fact.Fact.{Fact}
use Rattle.arr_law.specs.declared.record.Record.{Record}
use Rattle.arr_law.specs.declared.record.Record.TheVariants.{Flush, Plan, Cost, Bound, Step, Branch, Dead, Worth, End}
use Rattle.arr_law.specs.Problem.{Problem}
use Rattle.arr_law.specs.Facts.{Facts, is_fact, with_fact, facts_of}
use Rattle.arr_law.specs.Floor.{Within, IsClosed}
use Rattle.arr_state.specs.declared.outcome.Going.TheVariants.{On}
use Rattle.arr_state.specs.declared.known.Known.{Known}
use Rattle.arr_state.specs.Steps.{Steps}
use Rattle.arr_state.specs.Went.{Went}
use Rattle.arr_state.specs.Jobs.{IsTouched, Covered}
use Rattle.arr_state.specs.Kept.{ClosedAt, AreClosed}
use Rattle.arr_state.proofs.Wents.{facts_after, after_grows, went_grows}
use Rattle.arr_state.proofs.Covers.{cover_step, covered_closed, closed_covered}

pub prefix_within : (problem : Problem) (trail : List Fact) (k : ℕ) → Within (facts_of problem (take k trail)) (facts_of problem trail)
prefix_within problem trail k x e = ap (λ (f : Facts). f x) (facts_after problem (take k trail) trail (drop k trail) (sym (take-append-drop k trail))) ∙ after_grows (facts_of problem (take k trail)) (drop k trail) x e

pub take-one-more : (trail : List Fact) (k : ℕ) (d : Fact) → k < length trail → take (suc k) trail ≡ take k trail ++ get_or trail k d ∷ []
take-one-more [] k d l = absurd (omega arith)
take-one-more (x ∷ trail) zero d l = refl
take-one-more (x ∷ trail) (suc k) d l = ap (λ xs. x ∷ xs) (take-one-more trail k d (omega arith))

prefix_step : (problem : Problem) (trail : List Fact) (k : ℕ) (d : Fact) → k < length trail → (y : Fact) → facts_of problem (take (k + 1) trail) y ≡ true → (is_fact (get_or trail k d) y || facts_of problem (take k trail) y) ≡ true
prefix_step problem trail k d l y e =
    sym (ap (λ (f : Facts). f y) (facts_after problem (take k trail) (take (k + 1) trail) (get_or trail k d ∷ []) (ap (λ n. take n trail) (add-one k) ∙ take-one-more trail k d l))) ∙ e

-- no more facts are given than steps taken
steps_length : (problem : Problem) (facts : Facts) (steps : List Record) (gives : List Fact) → Steps problem facts steps gives → length steps ≡ length gives
steps_length problem facts [] [] s = refl
steps_length problem facts (Step n f g h ∷ steps) (x ∷ gives) s = ap suc (steps_length problem (with_fact x facts) steps gives s.2)
steps_length problem facts [] (x ∷ gives) s = absurd s
steps_length problem facts (Step n f g h ∷ steps) [] s = absurd s
steps_length problem facts (Branch f g ∷ steps) gives s = absurd s
steps_length problem facts (Dead f g ∷ steps) gives s = absurd s
steps_length problem facts (Worth w ∷ steps) gives s = absurd s
steps_length problem facts (End ∷ steps) gives s = absurd s
steps_length problem facts (Flush n k v ∷ steps) gives s = absurd s
steps_length problem facts (Plan l ∷ steps) gives s = absurd s
steps_length problem facts (Cost c ∷ steps) gives s = absurd s
steps_length problem facts (Bound b ∷ steps) gives s = absurd s

module _ (problem : Problem) (t1 t2 : Known) (r1 r2 : List Record) (left rest head : ℕ) (d : Fact) (D : Facts → Facts → Type 0) (w : Went problem t1 t2 r1 r2 left (On rest) D) where
  pub longer : length t2.facts.items ≡ length t1.facts.items + (left - rest)
  longer = omega (arith, ap length w.trail_is, length-append t1.facts.items w.gives, steps_length problem (facts_of problem t1.facts.items) w.steps w.gives w.are_steps, w.reaches)

  pub lefts : rest ≤ left
  lefts = omega (arith, w.reaches)

  pub work_step : head < length t1.facts.items → Covered problem (facts_of problem (take head t1.facts.items)) (facts_of problem t1.facts.items) → (D (facts_of problem t1.facts.items) (facts_of problem t2.facts.items) → IsTouched problem (get_or t1.facts.items head d) (facts_of problem t1.facts.items) (facts_of problem t2.facts.items)) → Covered problem (facts_of problem (take (head + 1) t2.facts.items)) (facts_of problem t2.facts.items)
  work_step l old done =
      let same : take (head + 1) t2.facts.items ≡ take (head + 1) t1.facts.items = ap (take (head + 1)) w.trail_is ∙ take-append-le (head + 1) t1.facts.items w.gives (omega arith) in
      subst (λ t. Covered problem (facts_of problem t) (facts_of problem t2.facts.items)) (sym same)
      (cover_step problem (facts_of problem (take head t1.facts.items)) (facts_of problem (take (head + 1) t1.facts.items)) (facts_of problem t1.facts.items) (facts_of problem t2.facts.items) (get_or t1.facts.items head d)
      (prefix_step problem t1.facts.items head d l) (prefix_within problem t1.facts.items (head + 1)) (went_grows w) old (done w.done))

pub worked_all : (problem : Problem) (trail : List Fact) (head : ℕ) → head ≤ length trail → length trail ≤ head → Covered problem (facts_of problem (take head trail)) (facts_of problem trail) → IsClosed problem (facts_of problem trail)
worked_all problem trail head l m c = covered_closed problem (facts_of problem trail) (subst (λ t. Covered problem (facts_of problem t) (facts_of problem trail)) (take_all head trail m) c)

pub start_closed : (problem : Problem) (trail : List Fact) (closed : List ℕ) (k : ℕ) → AreClosed problem trail closed → k < length closed → Covered problem (facts_of problem (take (get_or closed k 0) trail)) (facts_of problem trail)
start_closed problem trail closed k c l = closed_covered problem (facts_of problem (take (get_or closed k 0) trail)) (facts_of problem trail) (c.each k l).shut (prefix_within problem trail (get_or closed k 0))

-- where a trail is closed, its length joins those at which it was
pub shut_more : (problem : Problem) (trail : List Fact) (closed closed' : List ℕ) → AreClosed problem trail closed → IsClosed problem (facts_of problem trail) → closed' ≡ closed ++ length trail ∷ [] → AreClosed problem trail closed'
shut_more problem trail closed closed' c is e =
    subst (AreClosed problem trail) (sym e)
    (record {
      each = λ k l. ⊎_elim
          (λ (k< : k < length closed). subst (ClosedAt problem trail) (sym (get_or_append_left closed (length trail ∷ []) 0 k k<)) (c.each k k<))
          (λ (le : length closed ≤ k). subst (ClosedAt problem trail) (sym (at_end k le l)) (record { within = omega arith; shut = subst (λ t. IsClosed problem (facts_of problem t)) (sym (take_all (length trail) trail (omega arith))) is }))
          (cases_lt k (length closed));
      rising = λ i j l m. ⊎_elim
          (λ (j< : j < length closed). subst (λ a. a ≤ get_or (closed ++ length trail ∷ []) j 0) (sym (get_or_append_left closed (length trail ∷ []) 0 i (omega arith))) (subst (λ b. get_or closed i 0 ≤ b) (sym (get_or_append_left closed (length trail ∷ []) 0 j j<)) (c.rising i j l j<)))
          (λ (le : length closed ≤ j). subst (λ b. get_or (closed ++ length trail ∷ []) i 0 ≤ b) (sym (at_end j le m))
          (let i< : i < length closed = omega (arith, m, le, l, length-append closed (length trail ∷ [])) in
          subst (λ a. a ≤ length trail) (sym (get_or_append_left closed (length trail ∷ []) 0 i i<)) (c.each i i<).within))
          (cases_lt j (length closed));
    })
  where
    at_end : (k : ℕ) → length closed ≤ k → k < length (closed ++ length trail ∷ []) → get_or (closed ++ length trail ∷ []) k 0 ≡ length trail
    at_end k le l =
        let same : k ≡ length closed + 0 = omega (arith, l, le, length-append closed (length trail ∷ [])) in
        subst (λ j. get_or (closed ++ length trail ∷ []) j 0 ≡ length trail) (sym same) (get_or-append-add closed (length trail ∷ []) 0 0)

pub get_or_any : (xs : List ℕ) (k d e : ℕ) → k < length xs → get_or xs k d ≡ get_or xs k e
get_or_any [] k d e l = absurd (omega arith)
get_or_any (x ∷ xs) zero d e l = refl
get_or_any (x ∷ xs) (suc k) d e l = get_or_any xs k d e (omega arith)
