-- What is counted of facts: floors, open pairs and missing facts.
use Rattle.std.proofs.Common.{◌≡◌, ℕ, zero, suc, ◌+◌, ◌*◌, ◌<◌, ◌≤◌, Bool, true, false, cond, not, ◌&&◌, Option, Some, None, refl, sym, ap, ◌∙◌, subst, arith}
use Rattle.std.specs.Prelude.{nat_le, nat_lt, ◌==◌}
use Rattle.std.proofs.lemmas.Bool.{and_parts, and_from, not-true, true≢false, leb-true, le-leb, ne_eqb, ltb-true}
use Rattle.arr_law.specs.declared.fact.Fact.{Fact}
use Rattle.arr_law.specs.declared.fact.Fact.TheVariants.{Same, Apart, Before}
use Rattle.arr_law.specs.Problem.{Problem, is_op, is_pair, operations, sum_below}
use Rattle.arr_law.specs.Facts.{Facts, root_facts}
use Rattle.arr_law.specs.Leaves.{is_apart, surely_charges}
use Rattle.arr_law.specs.Floor.{is_paid, is_paid_twice, floor_of_class, floor, Within}
use Rattle.arr_law.proofs.Sums.{sum_below-le}
use Rattle.arr_state.proofs.Basics.{by_bool}
use Rattle.arr_search.specs.Counts.{bit, count_pairs, is_open, open_pairs, fusible_pairs, missing}
use Rattle.arr_search.proofs.Base.{or_more, and_more, not_more, any_more, bit-le, bit-most, sum_below-less, sum_below-most}

-- counting pairs
is_op-suc : (problem : Problem) (i : ℕ) → i < problem.count → is_op problem (suc i) ≡ true
is_op-suc problem i l = and_from (nat_le 1 (suc i)) (nat_le (suc i) problem.count) (le-leb 1 (suc i) (omega arith)) (le-leb (suc i) problem.count (omega arith))

op_below : (problem : Problem) (f : ℕ) → is_op problem f ≡ true → (i : ℕ) × (f ≡ suc i) × (i < problem.count)
op_below problem zero e = let h = and_parts (nat_le 1 0) (nat_le 0 problem.count) e in let l : 1 ≤ 0 = leb-true _ _ h.0 in absurd (omega arith)
op_below problem (suc i) e = let h = and_parts (nat_le 1 (suc i)) (nat_le (suc i) problem.count) e in let l : suc i ≤ problem.count = leb-true _ _ h.1 in (i, refl, omega arith)

abbrev pub Weaker : Problem → (ℕ → ℕ → Bool) → (ℕ → ℕ → Bool) → Type 0
Weaker problem p q = (f g : ℕ) → is_op problem f ≡ true → is_op problem g ≡ true → p f g ≡ true → q f g ≡ true

row-le : (problem : Problem) (p q : ℕ → ℕ → Bool) → Weaker problem p q → (i : ℕ) → i < problem.count → sum_below (λ j. bit (p (suc i) (suc j))) problem.count ≤ sum_below (λ j. bit (q (suc i) (suc j))) problem.count
row-le problem p q w i l = sum_below-le _ _ problem.count (λ j lj. bit-le (p (suc i) (suc j)) (q (suc i) (suc j)) (w (suc i) (suc j) (is_op-suc problem i l) (is_op-suc problem j lj)))

pub count-le : (problem : Problem) (p q : ℕ → ℕ → Bool) → Weaker problem p q → count_pairs problem p ≤ count_pairs problem q
count-le problem p q w = sum_below-le _ _ problem.count (λ i l. row-le problem p q w i l)

bit-less : (a b : Bool) → a ≡ false → b ≡ true → bit a + 1 ≤ bit b
bit-less a b e h = subst (λ x. bit x + 1 ≤ bit b) (sym e) (subst (λ x. 0 + 1 ≤ bit x) (sym h) (omega arith))

pub count-less : (problem : Problem) (p q : ℕ → ℕ → Bool) → Weaker problem p q → (f g : ℕ) → is_op problem f ≡ true → is_op problem g ≡ true → p f g ≡ false → q f g ≡ true → count_pairs problem p + 1 ≤ count_pairs problem q
count-less problem p q w f g of og isnt does = at (op_below problem f of) (op_below problem g og)
  where
    at : ((i : ℕ) × (f ≡ suc i) × (i < problem.count)) → ((j : ℕ) × (g ≡ suc j) × (j < problem.count)) → count_pairs problem p + 1 ≤ count_pairs problem q
    at (i, fi, li) (j, gj, lj) =
        sum_below-less _ (λ i. sum_below (λ j. bit (q (suc i) (suc j))) problem.count) problem.count i li (λ k lk. row-le problem p q w k lk)
        (sum_below-less _ (λ j. bit (q (suc i) (suc j))) problem.count j lj
        (λ m lm. bit-le (p (suc i) (suc m)) (q (suc i) (suc m)) (w (suc i) (suc m) (is_op-suc problem i li) (is_op-suc problem m lm)))
        (subst (λ x. bit (p x (suc j)) + 1 ≤ bit (q x (suc j))) fi (subst (λ y. bit (p f y) + 1 ≤ bit (q f y)) gj (bit-less (p f g) (q f g) isnt does))))

pub count-most : (problem : Problem) (p : ℕ → ℕ → Bool) → count_pairs problem p ≤ problem.count * problem.count
count-most problem p =
    sum_below-most _ problem.count problem.count (λ i l. omega (arith, sum_below-most (λ j. bit (p (suc i) (suc j))) problem.count 1 (λ j lj. bit-most (p (suc i) (suc j)))))

pub missing-most : (problem : Problem) (facts : Facts) → missing problem facts ≤ 3 * (problem.count * problem.count)
missing-most problem facts =
    omega (arith, count-most problem (λ f g. not (facts (Same f g))), count-most problem (λ f g. not (facts (Apart f g))), count-most problem (λ f g. not (facts (Before f g))))

-- the operations of a fact are of the list
abbrev pub IsAbout : Problem → Fact → Type 0
IsAbout problem (Same f g) = (is_op problem f ≡ true) × (is_op problem g ≡ true)
IsAbout problem (Apart f g) = (is_op problem f ≡ true) × (is_op problem g ≡ true)
IsAbout problem (Before f g) = (is_op problem f ≡ true) × (is_op problem g ≡ true)

module _ (problem : Problem) (less more : Facts) (w : Within less more) where
  pub surely-more : (f c : ℕ) → surely_charges problem less f c ≡ true → surely_charges problem more f c ≡ true
  surely-more f c e =
      or_more _ _ (problem.reads f c && is_apart more f (problem.creator (problem.base c))) (problem.writes f c && is_apart more f (problem.freer (problem.base c)))
      (and_more (problem.reads f c) (is_apart less f (problem.creator (problem.base c))) (problem.reads f c) (is_apart more f (problem.creator (problem.base c))) (λ x. x) (apart (problem.creator (problem.base c))))
      (and_more (problem.writes f c) (is_apart less f (problem.freer (problem.base c))) (problem.writes f c) (is_apart more f (problem.freer (problem.base c))) (λ x. x) (apart (problem.freer (problem.base c)))) e
    where
      apart : (o : Option ℕ) → is_apart less f o ≡ true → is_apart more f o ≡ true
      apart None x = x
      apart (Some g) x = w (Apart f g) x

  class-le : (c : ℕ) → floor_of_class problem less c ≤ floor_of_class problem more c
  class-le c =
      both (is_paid_twice problem less c) (is_paid_twice problem more c) (is_paid problem less c) (is_paid problem more c)
      (any_more _ _ (operations problem) (λ f. and_more (surely_charges problem less f c) _ (surely_charges problem more f c) _ (surely-more f c)
      (any_more _ _ (operations problem) (λ g. and_more (surely_charges problem less g c) (less (Apart f g)) (surely_charges problem more g c) (more (Apart f g)) (surely-more g c) (w (Apart f g))))))
      (any_more _ _ (operations problem) (λ f. surely-more f c))
    where
      both : (a b c' d : Bool) → (a ≡ true → b ≡ true) → (c' ≡ true → d ≡ true) → cond a (2 * problem.weight c) (cond c' (problem.weight c) 0) ≤ cond b (2 * problem.weight c) (cond d (problem.weight c) 0)
      both true true c' d f g = omega arith
      both true false c' d f g = absurd (true≢false (sym (f refl)))
      both false true true d f g = omega arith
      both false true false d f g = omega arith
      both false false true true f g = omega arith
      both false false true false f g = absurd (true≢false (sym (g refl)))
      both false false false d f g = omega arith

  pub floor-le : floor problem less ≤ floor problem more
  floor-le = sum_below-le _ _ problem.classes (λ c l. class-le c)

  open-weaker : Weaker problem (is_open more) (is_open less)
  open-weaker f g of og e =
      and_more (nat_lt f g) _ (nat_lt f g) _ (λ x. x)
      (and_more (not (more (Same f g))) (not (more (Apart f g))) (not (less (Same f g))) (not (less (Apart f g))) (not_more (less (Same f g)) (more (Same f g)) (w (Same f g))) (not_more (less (Apart f g)) (more (Apart f g)) (w (Apart f g)))) e

  pub open-le : open_pairs problem more ≤ open_pairs problem less
  open-le = count-le problem (is_open more) (is_open less) open-weaker

  pub open-less : (f g : ℕ) → is_op problem f ≡ true → is_op problem g ≡ true → is_open less f g ≡ true → is_open more f g ≡ false → open_pairs problem more + 1 ≤ open_pairs problem less
  open-less f g of og does isnt = count-less problem (is_open more) (is_open less) open-weaker f g of og isnt does

  lost-le : (lift : ℕ → ℕ → Fact) → count_pairs problem (λ f g. not (more (lift f g))) ≤ count_pairs problem (λ f g. not (less (lift f g)))
  lost-le lift = count-le problem _ _ (λ f g of og. not_more (less (lift f g)) (more (lift f g)) (w (lift f g)))

  lost-less : (lift : ℕ → ℕ → Fact) (f g : ℕ) → is_op problem f ≡ true → is_op problem g ≡ true → less (lift f g) ≡ false → more (lift f g) ≡ true → count_pairs problem (λ f g. not (more (lift f g))) + 1 ≤ count_pairs problem (λ f g. not (less (lift f g)))
  lost-less lift f g of og isnt does = count-less problem _ (λ f g. not (less (lift f g))) (λ f g of og. not_more (less (lift f g)) (more (lift f g)) (w (lift f g))) f g of og (ap not does) (ap not isnt)

  pub missing-less : (x : Fact) → IsAbout problem x → less x ≡ false → more x ≡ true → missing problem more + 1 ≤ missing problem less
  missing-less (Same f g) a isnt does = omega (arith, lost-less Same f g a.0 a.1 isnt does, lost-le Apart, lost-le Before)
  missing-less (Apart f g) a isnt does = omega (arith, lost-le Same, lost-less Apart f g a.0 a.1 isnt does, lost-le Before)
  missing-less (Before f g) a isnt does = omega (arith, lost-le Same, lost-le Apart, lost-less Before f g a.0 a.1 isnt does)

  pub missing-le : missing problem more ≤ missing problem less
  missing-le = omega (arith, lost-le Same, lost-le Apart, lost-le Before)

-- at the root no more pairs are open than are fusible
pub open-root : (problem : Problem) → open_pairs problem (root_facts problem) ≤ fusible_pairs problem
open-root problem = count-le problem (is_open (root_facts problem)) (λ f g. nat_lt f g && problem.fusible f g) step
  where
    lt-ne : (f g : ℕ) → nat_lt f g ≡ true → (f == g) ≡ false
    lt-ne f g e = ne_eqb f g (λ same. let l : f < g = ltb-true f g e in absurd (omega arith))

    step : Weaker problem (is_open (root_facts problem)) (λ f g. nat_lt f g && problem.fusible f g)
    step f g of og e =
        let h = and_parts (nat_lt f g) (not (root_facts problem (Same f g)) && not (root_facts problem (Apart f g))) e in
        let k = and_parts (not (root_facts problem (Same f g))) (not (root_facts problem (Apart f g))) h.1 in
        and_from (nat_lt f g) (problem.fusible f g) h.0 (by_bool (problem.fusible f g) (λ t. t) (λ isnt.
        let pair : is_pair problem f g ≡ true = and_from (is_op problem f) (is_op problem g && not (f == g)) of (and_from (is_op problem g) (not (f == g)) og (ap not (lt-ne f g h.0))) in
        let apart : root_facts problem (Apart f g) ≡ true = and_from (is_pair problem f g) (not (problem.fusible f g)) pair (ap not isnt) in
        absurd (true≢false (sym apart ∙ not-true _ k.1))))
