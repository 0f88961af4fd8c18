-- Places that are legal and meet the facts pay for each lawful leaf, and for the floor.
use Rattle.std.proofs.Common.{◌≡◌, ◌≢◌, ℕ, ◌*◌, ◌<◌, ◌≤◌, List, [], ◌∷◌, length, Bool, true, false, cond, not, ◌&&◌, Option, Some, None, refl, sym, ap, subst, arith}
use Rattle.std.specs.Prelude.{nat_lt, ◌==◌}
use Rattle.std.specs.List.{sum_by, list_all, list_any}
use Rattle.std.proofs.lemmas.Bool.{and_parts, and_from, or_left, or_right, not-true, eqb-false, eq-eqb, ne_eqb, ltb-true}
use Rattle.std.proofs.lemmas.List.Sums.{sum_by-cons}
use Rattle.arr_ops.specs.Formed.{all_pairs}
use Rattle.arr_ops.proofs.Pairs.{All_weaker, Pairs_weaker}
use Rattle.arr_ops.proofs.Tests.{or_cases, all_of, pairs_of}
use Rattle.arr_law.specs.declared.charge.Charge.{Charge}
use Rattle.arr_law.specs.declared.fact.Fact.TheVariants.{Apart}
use Rattle.arr_law.specs.Problem.{Problem, is_op, operations, sum_below}
use Rattle.arr_law.specs.Facts.{Facts, Meets}
use Rattle.arr_law.specs.Plans.{IsLegalAt, outside_at, charged_at, cost_at}
use Rattle.arr_law.specs.Leaves.{is_apart, surely_charges, class_of, is_group, is_leaf, worth}
use Rattle.arr_law.specs.Floor.{is_paid, is_paid_twice, floor_of_class, floor}
use Rattle.arr_law.proofs.Sums.{sum_below-le, sum_below-swap, sum_by-const, all_both, sum_distinct}
use Rattle.arr_law.proofs.Members.{any_of, any_witness, has_ops, ops_are}

-- what a lawful group says, part by part
and_five : (a b c d e : Bool) → ((a && b) && ((c && d) && e)) ≡ true → (a ≡ true) × (b ≡ true) × (c ≡ true) × (d ≡ true) × (e ≡ true)
and_five a b c d e h =
    let p = and_parts (a && b) ((c && d) && e) h in
    let q = and_parts a b p.0 in
    let r = and_parts (c && d) e p.1 in
    let s = and_parts c d r.0 in
    (q.0, q.1, s.0, s.1, r.1)

module _ (problem : Problem) (at : ℕ → ℕ) (blocks : ℕ) (legal : IsLegalAt problem at blocks) (facts : Facts) (met : Meets at facts) where
  apart_outside : (f : ℕ) (o : Option ℕ) → is_apart facts f o ≡ true → outside_at at (at f) o ≡ true
  apart_outside f None e = refl
  apart_outside f (Some g) e = ap not (ne_eqb (at g) (at f) (λ same. met (Apart f g) e (sym same)))

  charges_here : (test : ℕ → Bool) (f : ℕ) → is_op problem f ≡ true → test f ≡ true → list_any (λ h. (at h == at f) && test h) (operations problem) ≡ true
  charges_here test f op t = any_of (λ h. (at h == at f) && test h) (operations problem) f (has_ops problem f op) (and_from (at f == at f) (test f) (eq-eqb _ _ refl) t)

  surely_pays : (f c : ℕ) → is_op problem f ≡ true → surely_charges problem facts f c ≡ true → charged_at problem at (at f) c ≡ true
  surely_pays f c op e =
      or_cases (problem.reads f c && is_apart facts f (problem.creator (problem.base c))) (problem.writes f c && is_apart facts f (problem.freer (problem.base c))) e
      (λ r. let h = and_parts (problem.reads f c) (is_apart facts f (problem.creator (problem.base c))) r in
      or_left _ _ (and_from _ _ (charges_here (λ f. problem.reads f c) f op h.0) (apart_outside f (problem.creator (problem.base c)) h.1)))
      (λ w. let h = and_parts (problem.writes f c) (is_apart facts f (problem.freer (problem.base c))) w in
      or_right _ _ (and_from _ _ (charges_here (λ f. problem.writes f c) f op h.0) (apart_outside f (problem.freer (problem.base c)) h.1)))

  -- what the blocks pay for one class
  abbrev paid : ℕ → ℕ
  paid c = sum_below (λ k. cond (charged_at problem at k c) (problem.weight c) 0) blocks

  -- an operation that surely charges a class makes its block pay
  each_pays : (c f : ℕ) → is_op problem f ≡ true → surely_charges problem facts f c ≡ true → (at f < blocks) × (problem.weight c ≤ cond (charged_at problem at (at f) c) (problem.weight c) 0)
  each_pays c f op s = (legal.within f op, subst (λ b. problem.weight c ≤ cond b (problem.weight c) 0) (sym (surely_pays f c op s)) (omega arith))

  group_pays : (a : Charge) → is_group problem facts a ≡ true → (class_of problem a < problem.classes) × (problem.weight (class_of problem a) * length a.ops ≤ paid (class_of problem a))
  group_pays a e = (ltb-true _ _ parts.0, subst (λ s. s ≤ paid c) (sum_by-const (problem.weight c) a.ops) pays)
    where
      c : ℕ
      c = class_of problem a

      parts : (nat_lt c problem.classes ≡ true) × (list_all (is_op problem) a.ops ≡ true) × (all_pairs nat_lt a.ops ≡ true) × (all_pairs (λ f g. facts (Apart f g)) a.ops ≡ true) × (list_all (λ f. surely_charges problem facts f c) a.ops ≡ true)
      parts = and_five (nat_lt c problem.classes) (list_all (is_op problem) a.ops) (all_pairs nat_lt a.ops) (all_pairs (λ f g. facts (Apart f g)) a.ops) (list_all (λ f. surely_charges problem facts f c) a.ops) e

      pays : sum_by (λ f. problem.weight c) a.ops ≤ paid c
      pays =
          sum_distinct (λ f. problem.weight c) at blocks a.ops (λ k. cond (charged_at problem at k c) (problem.weight c) 0)
          (all_both _ _ _ a.ops (each_pays c) (all_of (is_op problem) a.ops parts.1) (all_of (λ f. surely_charges problem facts f c) a.ops parts.4))
          (Pairs_weaker (λ f g. facts (Apart f g) ≡ true) (λ f g. at f ≢ at g) (λ f g k. met (Apart f g) k) a.ops (pairs_of (λ f g. facts (Apart f g)) a.ops parts.3))

  pub leaf_pays : (charges : List Charge) → is_leaf problem facts charges ≡ true → worth problem charges ≤ cost_at problem at blocks
  leaf_pays charges e =
      let h = and_parts (list_all (is_group problem facts) charges) (all_pairs (λ (a b : Charge). not (class_of problem a == class_of problem b)) charges) e in
      subst (λ s. worth problem charges ≤ s) (sym (sum_below-swap (λ k c. cond (charged_at problem at k c) (problem.weight c) 0) blocks problem.classes))
      (sum_distinct (λ (a : Charge). problem.weight (class_of problem a) * length a.ops) (class_of problem) problem.classes charges paid
      (All_weaker _ _ group_pays charges (all_of (is_group problem facts) charges h.0))
      (Pairs_weaker (λ (a b : Charge). not (class_of problem a == class_of problem b) ≡ true) (λ (a b : Charge). class_of problem a ≢ class_of problem b) (λ a b k. eqb-false _ _ (not-true _ k)) charges (pairs_of (λ (a b : Charge). not (class_of problem a == class_of problem b)) charges h.1)))

  -- ---- the floor

  one_pays : (c : ℕ) → is_paid problem facts c ≡ true → problem.weight c ≤ paid c
  one_pays c e =
      let x = any_witness (λ f. surely_charges problem facts f c) (operations problem) e in
      let s : sum_by (λ f. problem.weight c) (x.0 ∷ []) ≤ paid c = sum_distinct (λ f. problem.weight c) at blocks (x.0 ∷ []) (λ k. cond (charged_at problem at k c) (problem.weight c) 0) (each_pays c x.0 (ops_are problem x.0 x.1) x.2, tt) (tt, tt) in
      omega (arith, s, sum_by-cons (λ (f : ℕ). problem.weight c) x.0 [])

  two_pay : (c : ℕ) → is_paid_twice problem facts c ≡ true → 2 * problem.weight c ≤ paid c
  two_pay c e =
      let x = any_witness (λ f. surely_charges problem facts f c && list_any (λ g. surely_charges problem facts g c && facts (Apart f g)) (operations problem)) (operations problem) e in
      let p = and_parts (surely_charges problem facts x.0 c) (list_any (λ g. surely_charges problem facts g c && facts (Apart x.0 g)) (operations problem)) x.2 in
      let y = any_witness (λ g. surely_charges problem facts g c && facts (Apart x.0 g)) (operations problem) p.1 in
      let q = and_parts (surely_charges problem facts y.0 c) (facts (Apart x.0 y.0)) y.2 in
      let s : sum_by (λ f. problem.weight c) (x.0 ∷ y.0 ∷ []) ≤ paid c = sum_distinct (λ f. problem.weight c) at blocks (x.0 ∷ y.0 ∷ []) (λ k. cond (charged_at problem at k c) (problem.weight c) 0) (each_pays c x.0 (ops_are problem x.0 x.1) p.0, (each_pays c y.0 (ops_are problem y.0 y.1) q.0, tt)) ((met (Apart x.0 y.0) q.1, tt), (tt, tt)) in
      omega (arith, s, sum_by-cons (λ (f : ℕ). problem.weight c) x.0 (y.0 ∷ []), sum_by-cons (λ (f : ℕ). problem.weight c) y.0 [])

  class_pays : (c : ℕ) → floor_of_class problem facts c ≤ paid c
  class_pays c = go (is_paid_twice problem facts c) (is_paid problem facts c) (two_pay c) (one_pays c)
    where
      go : (a b : Bool) → (a ≡ true → 2 * problem.weight c ≤ paid c) → (b ≡ true → problem.weight c ≤ paid c) → cond a (2 * problem.weight c) (cond b (problem.weight c) 0) ≤ paid c
      go true b f g = f refl
      go false true f g = g refl
      go false false f g = omega arith

  pub floor_pays : floor problem facts ≤ cost_at problem at blocks
  floor_pays =
      subst (λ s. floor problem facts ≤ s) (sym (sum_below-swap (λ k c. cond (charged_at problem at k c) (problem.weight c) 0) blocks problem.classes))
      (sum_below-le (floor_of_class problem facts) paid problem.classes (λ c l. class_pays c))
