-- What becomes of the nodes that wait.
use Rattle.std.proofs.Common.{◌≡◌, ℕ, ◌<◌, ◌≤◌, List, [], ◌∷◌, ◌++◌, length, take, drop, reverse, true, false, not, ◌&&◌, refl, sym, ap, ◌∙◌, subst, arith, length-append}
use Rattle.std.specs.Prelude.{nat_lt, ◌==◌}
use Rattle.std.proofs.lemmas.Bool.{and_parts, and_from, not-true, ltb-true, ne_eqb}
use Rattle.std.proofs.lemmas.List.{take-append-le, length-take-le, take-append-drop, reverse-append}
use Rattle.std.proofs.lemmas.List.Sums.{fold_push}
use Rattle.std.proofs.Math.Seq.{take-length}
use Rattle.arr_ops.specs.declared.op.Op.{Op}
use Rattle.arr_law.specs.declared.fact.Fact.{Fact}
use Rattle.arr_law.specs.declared.fact.Fact.TheVariants.{Same, Apart}
use Rattle.arr_law.specs.Problem.{Problem, is_op, is_pair}
use Rattle.arr_law.specs.Facts.{Facts, with_fact, root_facts, facts_of}
use Rattle.arr_law.specs.ProblemOf.{problem_of}
use Rattle.arr_law.specs.Trees.{may_branch}
use Rattle.arr_search.specs.declared.explore.Waiting.{Waiting}
use Rattle.arr_search.specs.declared.progress.Next.{Next}
use Rattle.arr_search.specs.declared.progress.Next.TheVariants.{Split, Close}
use Rattle.arr_search.specs.declared.progress.Progress.{Progress}
use Rattle.arr_search.specs.Running.{nodes}
use Rattle.arr_search.specs.Nodes.{IsNode, IsSearch, next_pending}
use Rattle.arr_search.specs.Turns.{MaySplit, Worked, waiting, AreWaiting, pending_at}
use Rattle.arr_search.proofs.Nodes.{branch_parts, first_node}

pub facts_push : (problem : Problem) (trail : List Fact) (x : Fact) → facts_of problem (trail ++ x ∷ []) ≡ with_fact x (facts_of problem trail)
facts_push problem trail x = fold_push (λ facts x. with_fact x facts) (root_facts problem) trail x

waits_above : (problem : Problem) (trail : List Fact) (n m : ℕ) (waits : List Waiting) → n ≤ m → AreWaiting problem trail n waits → AreWaiting problem trail m waits
waits_above problem trail n m [] l a = tt
waits_above problem trail n m (w ∷ waits) l a = (omega (arith, a.0), a.1, a.2)

-- what stands below a mark stays as facts join
waits_push : (problem : Problem) (trail more : List Fact) (n : ℕ) (waits : List Waiting) → n ≤ length trail → AreWaiting problem trail n waits → AreWaiting problem (trail ++ more) n waits
waits_push problem trail more n [] l a = tt
waits_push problem trail more n (w ∷ waits) l a = (
  a.0,
  subst (λ t. may_branch problem (facts_of problem t) w.f w.g ≡ true) (sym (take-append-le w.mark trail more (omega (arith, a.0)))) a.1,
  waits_push problem trail more w.mark waits (omega (arith, a.0)) a.2,
)

waiting-push : (problem : Problem) (trail more : List Fact) (n : ℕ) (waits : List Waiting) → n ≤ length trail → AreWaiting problem trail n waits → waiting problem (trail ++ more) waits ≡ waiting problem trail waits
waiting-push problem trail more n [] l a = refl
waiting-push problem trail more n (w ∷ waits) l a =
    let here : take w.mark (trail ++ more) ≡ take w.mark trail = take-append-le w.mark trail more (omega (arith, a.0)) in
    let rest : waiting problem (trail ++ more) waits ≡ waiting problem trail waits = waiting-push problem trail more w.mark waits (omega (arith, a.0)) a.2 in
    ap (λ t. facts_of problem (t ++ Apart w.f w.g ∷ []) ∷ waiting problem (trail ++ more) waits) here ∙ ap (λ ws. facts_of problem (take w.mark trail ++ Apart w.f w.g ∷ []) ∷ ws) rest

-- and as facts above all marks are taken back
waits_pull : (problem : Problem) (front more : List Fact) (n : ℕ) (waits : List Waiting) → n ≤ length front → AreWaiting problem (front ++ more) n waits → AreWaiting problem front n waits
waits_pull problem front more n [] l a = tt
waits_pull problem front more n (w ∷ waits) l a = (
  a.0,
  subst (λ t. may_branch problem (facts_of problem t) w.f w.g ≡ true) (take-append-le w.mark front more (omega (arith, a.0))) a.1,
  waits_pull problem front more w.mark waits (omega (arith, a.0)) a.2,
)

waits_take : (problem : Problem) (trail : List Fact) (n : ℕ) (waits : List Waiting) → n ≤ length trail → AreWaiting problem trail n waits → AreWaiting problem (take n trail) n waits
waits_take problem trail n waits l a =
    waits_pull problem (take n trail) (drop n trail) n waits (omega (arith, length-take-le n trail l)) (subst (λ t. AreWaiting problem t n waits) (sym (take-append-drop n trail)) a)

waiting-take : (problem : Problem) (trail : List Fact) (n : ℕ) (waits : List Waiting) → n ≤ length trail → AreWaiting problem trail n waits → waiting problem (take n trail) waits ≡ waiting problem trail waits
waiting-take problem trail n waits l a =
    sym (waiting-push problem (take n trail) (drop n trail) n waits (omega (arith, length-take-le n trail l)) (waits_take problem trail n waits l a)) ∙ ap (λ t. waiting problem t waits) (take-append-drop n trail)

-- ---- what a decision asks

pub pair_of : (problem : Problem) (facts : Facts) (f g : ℕ) → may_branch problem facts f g ≡ true → (is_pair problem f g ≡ true) × (facts (Same f g) ≡ false) × (facts (Apart f g) ≡ false)
pair_of problem facts f g e =
    let p = branch_parts problem facts f g e in
    let q = and_parts (nat_lt f g) (not (facts (Same f g)) && not (facts (Apart f g))) p.3 in
    let r = and_parts (not (facts (Same f g))) (not (facts (Apart f g))) q.1 in
    let l : f ≡ g → ⊥ = λ same. (let k : nat_lt f g ≡ true = p.2 in let m = ltb-true f g k in absurd (omega (arith, m, same))) in
    (and_from (is_op problem f) (is_op problem g && not (f == g)) p.0 (and_from (is_op problem g) (not (f == g)) p.1 (ap not (ne_eqb f g l))), not-true _ r.0, not-true _ r.1)

-- ---- one turn

pub record Turned (list : List Op) (budget : ℕ) (trail after : List Fact) (waits waits' : List Waiting) (p' : Progress) : Type 0 where
  pub search : IsSearch list budget (pending_at (problem_of list) after waits') p'
  pub waits_are : AreWaiting (problem_of list) after (length after) (reverse waits')
  pub smaller : nodes (problem_of list) (pending_at (problem_of list) after waits') < nodes (problem_of list) (pending_at (problem_of list) trail waits)

module _ (list : List Op) (budget : ℕ) (trail now : List Fact) (waits : List Waiting) (p p' : Progress) (are : AreWaiting (problem_of list) trail (length trail) (reverse waits)) (search : IsSearch list budget (pending_at (problem_of list) trail waits) p)
    (result next : Next) (worked : Worked list budget trail now p p' result) (is : result ≡ next) where
  abbrev P : Problem
  P = problem_of list

  same : Worked list budget trail now p p' next
  same = subst (λ n. Worked list budget trail now p p' n) is worked

  long : length trail ≤ length now
  long = omega (arith, ap length same.trail_is, length-append trail same.gives)

  -- those that waited wait as before
  kept : AreWaiting P now (length trail) (reverse waits)
  kept = subst (λ t. AreWaiting P t (length trail) (reverse waits)) (sym same.trail_is) (waits_push P trail same.gives (length trail) (reverse waits) (omega arith) are)

  kept_facts : waiting P now (reverse waits) ≡ waiting P trail (reverse waits)
  kept_facts = ap (λ t. waiting P t (reverse waits)) same.trail_is ∙ waiting-push P trail same.gives (length trail) (reverse waits) (omega arith) are

  behind : IsSearch list budget (next_pending (facts_of P now) next (waiting P trail (reverse waits))) p'
  behind = same.keeps (waiting P trail (reverse waits)) search

  fewer : nodes P (next_pending (facts_of P now) next (waiting P trail (reverse waits))) < nodes P (pending_at P trail waits)
  fewer = same.fewer (waiting P trail (reverse waits))

  pub open_here : (f g : ℕ) → next ≡ Split f g → may_branch P (facts_of P now) f g ≡ true
  open_here f g e = subst (MaySplit P (facts_of P now)) e same.opens

  -- the second child waits, the first is next
  pub turn_split : (f g mark : ℕ) (after : List Fact) (waits' : List Waiting) → next ≡ Split f g → mark ≡ length now → waits' ≡ waits ++ record { mark = mark; f = f; g = g } ∷ [] → after ≡ now ++ Same f g ∷ [] → Turned list budget trail after waits waits' p'
  turn_split f g mark after waits' split mark_is waits_is after_is =
      record {
        search = subst (λ q. IsSearch list budget q p') (sym pending) (subst (λ n. IsSearch list budget (next_pending (facts_of P now) n (waiting P trail (reverse waits))) p') split behind);
        waits_are = subst (λ t. AreWaiting P t (length t) (reverse waits')) (sym after_is) (subst (AreWaiting P (now ++ Same f g ∷ []) (length (now ++ Same f g ∷ []))) (sym turned) (
          omega (arith, length-append now (Same f g ∷ [])),
          subst (λ t. may_branch P (facts_of P t) f g ≡ true) (sym cut) (open_here f g split),
          waits_push P now (Same f g ∷ []) (length now) (reverse waits) (omega arith) (waits_above P now (length trail) (length now) (reverse waits) long kept),
        ));
        smaller = subst (λ q. nodes P q < nodes P (pending_at P trail waits)) (sym pending) (subst (λ n. nodes P (next_pending (facts_of P now) n (waiting P trail (reverse waits))) < nodes P (pending_at P trail waits)) split fewer);
      }
    where
      w : Waiting
      w = record { mark = length now; f = f; g = g }

      turned : reverse waits' ≡ record { mark = length now; f = f; g = g } ∷ reverse waits
      turned = ap reverse (waits_is ∙ ap (λ (m : ℕ). waits ++ record { mark = m; f = f; g = g } ∷ []) mark_is) ∙ reverse-append waits (record { mark = length now; f = f; g = g } ∷ [])

      cut : take (length now) (now ++ Same f g ∷ []) ≡ now
      cut = take-append-le (length now) now (Same f g ∷ []) (omega arith) ∙ take-length now

      pending : pending_at P after waits' ≡ with_fact (Same f g) (facts_of P now) ∷ with_fact (Apart f g) (facts_of P now) ∷ waiting P trail (reverse waits)
      pending =
          ap (λ t. facts_of P t ∷ waiting P t (reverse waits')) after_is
          ∙ (ap (λ ws. facts_of P (now ++ Same f g ∷ []) ∷ waiting P (now ++ Same f g ∷ []) ws) turned
          ∙ (ap (λ x. x ∷ facts_of P (take (length now) (now ++ Same f g ∷ []) ++ Apart f g ∷ []) ∷ waiting P (now ++ Same f g ∷ []) (reverse waits)) (facts_push P now (Same f g))
          ∙ (ap (λ t. with_fact (Same f g) (facts_of P now) ∷ facts_of P (t ++ Apart f g ∷ []) ∷ waiting P (now ++ Same f g ∷ []) (reverse waits)) cut
          ∙ (ap (λ x. with_fact (Same f g) (facts_of P now) ∷ x ∷ waiting P (now ++ Same f g ∷ []) (reverse waits)) (facts_push P now (Apart f g))
          ∙ ap (λ ws. with_fact (Same f g) (facts_of P now) ∷ with_fact (Apart f g) (facts_of P now) ∷ ws) (waiting-push P now (Same f g ∷ []) (length trail) (reverse waits) long kept ∙ kept_facts)))))

  -- the newest that waits is next
  module _ (first : Waiting) (waits' : List Waiting) (closed : next ≡ Close) (waits_is : waits ≡ waits' ++ first ∷ []) where
    turned : reverse waits ≡ first ∷ reverse waits'
    turned = ap reverse waits_is ∙ reverse-append waits' (first ∷ [])

    old : AreWaiting P trail (length trail) (first ∷ reverse waits')
    old = subst (AreWaiting P trail (length trail)) turned are

    cut : take first.mark now ≡ take first.mark trail
    cut = ap (take first.mark) same.trail_is ∙ take-append-le first.mark trail same.gives old.0

    pub mark_within : first.mark ≤ length now
    mark_within = omega (arith, old.0, long)

    pub open_there : may_branch P (facts_of P (take first.mark now)) first.f first.g ≡ true
    open_there = subst (λ t. may_branch P (facts_of P t) first.f first.g ≡ true) (sym cut) old.1

    pub turn_close : (after : List Fact) → after ≡ take first.mark now ++ Apart first.f first.g ∷ [] → Turned list budget trail after waits waits' p'
    turn_close after after_is =
        record {
          search = subst (λ q. IsSearch list budget q p') (sym pending) (subst (λ n. IsSearch list budget (next_pending (facts_of P now) n (waiting P trail (reverse waits))) p') closed behind);
          waits_are = subst (λ t. AreWaiting P t (length t) (reverse waits')) (sym (after_is ∙ ap (λ t. t ++ Apart first.f first.g ∷ []) cut))
              (waits_above P (take first.mark trail ++ Apart first.f first.g ∷ []) first.mark (length (take first.mark trail ++ Apart first.f first.g ∷ [])) (reverse waits') (omega (arith, length-append (take first.mark trail) (Apart first.f first.g ∷ []), low))
              (waits_push P (take first.mark trail) (Apart first.f first.g ∷ []) first.mark (reverse waits') low rest));
          smaller = subst (λ q. nodes P q < nodes P (pending_at P trail waits)) (sym pending) (subst (λ n. nodes P (next_pending (facts_of P now) n (waiting P trail (reverse waits))) < nodes P (pending_at P trail waits)) closed fewer);
        }
      where
        low : first.mark ≤ length (take first.mark trail)
        low = omega (arith, length-take-le first.mark trail old.0)

        rest : AreWaiting P (take first.mark trail) first.mark (reverse waits')
        rest = waits_take P trail first.mark (reverse waits') old.0 old.2

        pending : pending_at P after waits' ≡ waiting P trail (reverse waits)
        pending =
            ap (λ t. facts_of P t ∷ waiting P t (reverse waits')) (after_is ∙ ap (λ t. t ++ Apart first.f first.g ∷ []) cut)
            ∙ (ap (λ ws. facts_of P (take first.mark trail ++ Apart first.f first.g ∷ []) ∷ ws) (waiting-push P (take first.mark trail) (Apart first.f first.g ∷ []) first.mark (reverse waits') low rest ∙ waiting-take P trail first.mark (reverse waits') old.0 old.2)
            ∙ sym (ap (waiting P trail) turned))

  pub turn_last : next ≡ Close → waits ≡ [] → IsSearch list budget [] p'
  turn_last closed none =
      subst (λ q. IsSearch list budget q p') (ap (λ ws. waiting P trail (reverse ws)) none) (subst (λ n. IsSearch list budget (next_pending (facts_of P now) n (waiting P trail (reverse waits))) p') closed behind)

pub none_left : (ws : List Waiting) → length ws ≡ 0 → ws ≡ []
none_left [] e = refl
none_left (w ∷ ws) e = absurd (omega arith)

pub start_at : (list : List Op) (budget : ℕ) (trail : List Fact) (waits : List Waiting) (p : Progress) → trail ≡ [] → waits ≡ [] → IsSearch list budget (root_facts (problem_of list) ∷ []) p
    → IsSearch list budget (pending_at (problem_of list) trail waits) p × AreWaiting (problem_of list) trail (length trail) (reverse waits)
start_at list budget trail waits p a b s = (
  subst (λ t. IsSearch list budget (pending_at (problem_of list) t waits) p) (sym a) (subst (λ w. IsSearch list budget (pending_at (problem_of list) [] w) p) (sym b) s),
  subst (λ w. AreWaiting (problem_of list) trail (length trail) (reverse w)) (sym b) tt,
)

-- what is known at the node that is next
pub next_node : (list : List Op) (budget : ℕ) (trail : List Fact) (waits : List Waiting) (p : Progress) → IsSearch list budget (pending_at (problem_of list) trail waits) p → IsNode (problem_of list) (facts_of (problem_of list) trail)
next_node list budget trail waits p s = first_node list budget (facts_of (problem_of list) trail) (waiting (problem_of list) trail (reverse waits)) p s
