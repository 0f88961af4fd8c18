-- Marking a fact marks that fact and no other.
use Rattle.std.proofs.Common.{◌≡◌, ◌≢◌, ℕ, zero, suc, ◌+◌, ◌-◌, ◌*◌, ◌<◌, ◌≤◌, List, [], ◌∷◌, ◌++◌, length, take, get_or, replicate, Bool, true, false, ◌&&◌, ◌||◌, refl, sym, ap, ◌∙◌, subst, arith, ⊎_elim, set, get_or-set_other, get_or-set_same, length-set, length-append}
use Rattle.std.specs.Prelude.{nat_le, not, ◌==◌}
use Rattle.std.proofs.lemmas.Bool.{and_parts, true≢false, leb-true, eqb-true, eq-eqb, cases_eq, cases_lt}
use Rattle.std.proofs.lemmas.List.{take-append-le, take-take, take_all, length-replicate}
use Rattle.std.specs.List.{fold}
use Rattle.std.proofs.lemmas.List.Sums.{fold_push}
use Rattle.std.proofs.Math.Nat.{mul-le-mul_left}
use Rattle.arr_law.specs.declared.fact.Fact.{Fact}
use Rattle.arr_law.specs.declared.fact.Fact.TheVariants.{Same, Apart, Before}
use Rattle.arr_law.specs.Problem.{Problem, is_op, is_pair}
use Rattle.arr_law.specs.Facts.{Facts, is_fact, with_fact, root_facts, facts_of}
use Rattle.arr_law.specs.Floor.{IsSymmetric}
use Rattle.arr_check.specs.Known.{slot, turned, told, are_ops, AreMarked, AreFine, AreFresh, marks_with}

pub or_either : {P : Type 0} (x y : Bool) → (x || y) ≡ true → (x ≡ true → P) → (y ≡ true → P) → P
or_either true y e l r = l refl
or_either false y e l r = r e

pub or_left : (x y : Bool) → x ≡ true → (x || y) ≡ true
or_left true y e = refl
or_left false y e = absurd (true≢false (sym e))

pub or_right : (x y : Bool) → y ≡ true → (x || y) ≡ true
or_right true y e = refl
or_right false y e = e

pub and_both : (x y : Bool) → x ≡ true → y ≡ true → (x && y) ≡ true
and_both true y e h = h
and_both false y e h = e

pub by_bool : {P : Type 0} (b : Bool) → (b ≡ true → P) → (b ≡ false → P) → P
by_bool true t f = t refl
by_bool false t f = f refl

abbrev pub AreOps : Problem → Fact → Type 0
AreOps law x = are_ops law x ≡ true

pub place_below : (n f g : ℕ) → (nat_le 1 f && nat_le f n) ≡ true → (nat_le 1 g && nat_le g n) ≡ true → (f - 1) * n + (g - 1) < n * n
place_below n zero g a b = let h = and_parts (nat_le 1 0) (nat_le 0 n) a in let l : 1 ≤ 0 = leb-true _ _ h.0 in absurd (omega arith)
place_below n (suc f) zero a b = let h = and_parts (nat_le 1 0) (nat_le 0 n) b in let l : 1 ≤ 0 = leb-true _ _ h.0 in absurd (omega arith)
place_below n (suc f) (suc g) a b =
    let h = and_parts (nat_le 1 (suc f)) (nat_le (suc f) n) a in
    let k = and_parts (nat_le 1 (suc g)) (nat_le (suc g) n) b in
    let l : suc f ≤ n = leb-true _ _ h.1 in
    let m : suc g ≤ n = leb-true _ _ k.1 in
    let p : n * suc f ≤ n * n = mul-le-mul_left n l in
    let q : suc f - 1 ≡ f = omega arith in
    rw q (omega (arith, p))

is_fact-same : (x : Fact) → is_fact x x ≡ true
is_fact-same (Same f g) = or_left ((f == f) && (g == g)) ((f == g) && (g == f)) (and_both (f == f) (g == g) (eq-eqb f f refl) (eq-eqb g g refl))
is_fact-same (Apart f g) = or_left ((f == f) && (g == g)) ((f == g) && (g == f)) (and_both (f == f) (g == g) (eq-eqb f f refl) (eq-eqb g g refl))
is_fact-same (Before f g) = and_both (f == f) (g == g) (eq-eqb f f refl) (eq-eqb g g refl)

unique_le : (n a b c d : ℕ) → b < n → d < n → a * n + b ≡ c * n + d → a < c → ⊥
unique_le n a b c d lb ld e l =
    let m : n * (a + 1) ≤ n * c = mul-le-mul_left n (let k : a + 1 ≤ c = omega arith in k) in
    absurd (omega (arith, m, e, lb, ld))

pub unique : (n a b c d : ℕ) → b < n → d < n → a * n + b ≡ c * n + d → (a ≡ c) × (b ≡ d)
unique n a b c d lb ld e =
    let same : a ≡ c = ⊎_elim (λ (l : a < c). absurd (unique_le n a b c d lb ld e l)) (λ (l : c ≤ a). ⊎_elim (λ (k : c < a). absurd (unique_le n c d a b ld lb (sym e) k)) (λ (k : a ≤ c). omega arith) (cases_lt c a)) (cases_lt a c) in
    (same, omega (arith, e, ap (λ k. k * n) same))

at_least : (problem : Problem) (f : ℕ) → is_op problem f ≡ true → (1 ≤ f) × (f ≤ problem.count)
at_least problem f e = let h = and_parts (nat_le 1 f) (nat_le f problem.count) e in (leb-true _ _ h.0, leb-true _ _ h.1)

pair_unique : (problem : Problem) (k m f g h j : ℕ) → is_op problem f ≡ true → is_op problem g ≡ true → is_op problem h ≡ true → is_op problem j ≡ true → k * (problem.count * problem.count) + ((f - 1) * problem.count + (g - 1)) ≡ m * (problem.count * problem.count) + ((h - 1) * problem.count + (j - 1)) → (k ≡ m) × (f ≡ h) × (g ≡ j)
pair_unique problem k m f g h j of og oh oj e =
    let n = problem.count in
    let u = unique (n * n) k ((f - 1) * n + (g - 1)) m ((h - 1) * n + (j - 1)) (place_below n f g of og) (place_below n h j oh oj) e in
    let lf = at_least problem f of in
    let lg = at_least problem g og in
    let lh = at_least problem h oh in
    let lj = at_least problem j oj in
    let v = unique n (f - 1) (g - 1) (h - 1) (j - 1) (omega (arith, lg.0, lg.1)) (omega (arith, lj.0, lj.1)) u.1 in
    (u.0, omega (arith, v.0, lf.0, lh.0), omega (arith, v.1, lg.0, lj.0))

ops : (problem : Problem) (f g : ℕ) → (is_op problem f && is_op problem g) ≡ true → (is_op problem f ≡ true) × (is_op problem g ≡ true)
ops problem f g e = and_parts (is_op problem f) (is_op problem g) e

-- two facts at one slot are one
slot_is : (problem : Problem) (x y : Fact) → AreOps problem x → AreOps problem y → slot problem.count x ≡ slot problem.count y → x ≡ y
slot_is problem (Same f g) (Same h j) a b e = let u = pair_unique problem 0 0 f g h j (ops problem f g a).0 (ops problem f g a).1 (ops problem h j b).0 (ops problem h j b).1 e in ap (λ p. Same p g) u.1 ∙ ap (λ q. Same h q) u.2
slot_is problem (Apart f g) (Apart h j) a b e = let u = pair_unique problem 1 1 f g h j (ops problem f g a).0 (ops problem f g a).1 (ops problem h j b).0 (ops problem h j b).1 e in ap (λ p. Apart p g) u.1 ∙ ap (λ q. Apart h q) u.2
slot_is problem (Before f g) (Before h j) a b e = let u = pair_unique problem 2 2 f g h j (ops problem f g a).0 (ops problem f g a).1 (ops problem h j b).0 (ops problem h j b).1 e in ap (λ p. Before p g) u.1 ∙ ap (λ q. Before h q) u.2
slot_is problem (Same f g) (Apart h j) a b e = let u = pair_unique problem 0 1 f g h j (ops problem f g a).0 (ops problem f g a).1 (ops problem h j b).0 (ops problem h j b).1 e in absurd (omega (arith, u.0))
slot_is problem (Same f g) (Before h j) a b e = let u = pair_unique problem 0 2 f g h j (ops problem f g a).0 (ops problem f g a).1 (ops problem h j b).0 (ops problem h j b).1 e in absurd (omega (arith, u.0))
slot_is problem (Apart f g) (Same h j) a b e = let u = pair_unique problem 1 0 f g h j (ops problem f g a).0 (ops problem f g a).1 (ops problem h j b).0 (ops problem h j b).1 e in absurd (omega (arith, u.0))
slot_is problem (Apart f g) (Before h j) a b e = let u = pair_unique problem 1 2 f g h j (ops problem f g a).0 (ops problem f g a).1 (ops problem h j b).0 (ops problem h j b).1 e in absurd (omega (arith, u.0))
slot_is problem (Before f g) (Same h j) a b e = let u = pair_unique problem 2 0 f g h j (ops problem f g a).0 (ops problem f g a).1 (ops problem h j b).0 (ops problem h j b).1 e in absurd (omega (arith, u.0))
slot_is problem (Before f g) (Apart h j) a b e = let u = pair_unique problem 2 1 f g h j (ops problem f g a).0 (ops problem f g a).1 (ops problem h j b).0 (ops problem h j b).1 e in absurd (omega (arith, u.0))

slot_small : (problem : Problem) (x : Fact) → AreOps problem x → slot problem.count x < 3 * (problem.count * problem.count)
slot_small problem (Same f g) a = omega (arith, place_below problem.count f g (ops problem f g a).0 (ops problem f g a).1)
slot_small problem (Apart f g) a = omega (arith, place_below problem.count f g (ops problem f g a).0 (ops problem f g a).1)
slot_small problem (Before f g) a = omega (arith, place_below problem.count f g (ops problem f g a).0 (ops problem f g a).1)

pub turned_ops : (problem : Problem) (x : Fact) → AreOps problem x → AreOps problem (turned x)
turned_ops problem (Same f g) a = and_both (is_op problem g) (is_op problem f) (ops problem f g a).1 (ops problem f g a).0
turned_ops problem (Apart f g) a = and_both (is_op problem g) (is_op problem f) (ops problem f g a).1 (ops problem f g a).0
turned_ops problem (Before f g) a = a

-- a fact is another where it is that one or that one turned
pub same_or_turned : (x y : Fact) → is_fact x y ≡ true → (P : Type 0) → (y ≡ x → P) → (y ≡ turned x → P) → P
same_or_turned (Same f g) (Same h k) e P s t =
    or_either ((f == h) && (g == k)) ((f == k) && (g == h)) e
    (λ p. let q = and_parts (f == h) (g == k) p in s (sym (ap (λ a. Same a g) (eqb-true f h q.0) ∙ ap (λ b. Same h b) (eqb-true g k q.1))))
    (λ p. let q = and_parts (f == k) (g == h) p in t (sym (ap (λ a. Same a f) (eqb-true g h q.1) ∙ ap (λ b. Same h b) (eqb-true f k q.0))))
same_or_turned (Apart f g) (Apart h k) e P s t =
    or_either ((f == h) && (g == k)) ((f == k) && (g == h)) e
    (λ p. let q = and_parts (f == h) (g == k) p in s (sym (ap (λ a. Apart a g) (eqb-true f h q.0) ∙ ap (λ b. Apart h b) (eqb-true g k q.1))))
    (λ p. let q = and_parts (f == k) (g == h) p in t (sym (ap (λ a. Apart a f) (eqb-true g h q.1) ∙ ap (λ b. Apart h b) (eqb-true f k q.0))))
same_or_turned (Before f g) (Before h k) e P s t = let q = and_parts (f == h) (g == k) e in s (sym (ap (λ a. Before a g) (eqb-true f h q.0) ∙ ap (λ b. Before h b) (eqb-true g k q.1)))
same_or_turned (Same f g) (Apart h k) e P s t = absurd (true≢false (sym e))
same_or_turned (Same f g) (Before h k) e P s t = absurd (true≢false (sym e))
same_or_turned (Apart f g) (Same h k) e P s t = absurd (true≢false (sym e))
same_or_turned (Apart f g) (Before h k) e P s t = absurd (true≢false (sym e))
same_or_turned (Before f g) (Same h k) e P s t = absurd (true≢false (sym e))
same_or_turned (Before f g) (Apart h k) e P s t = absurd (true≢false (sym e))

is_turned : (x : Fact) → is_fact x (turned x) ≡ true
is_turned (Same f g) = or_right ((f == g) && (g == f)) ((f == f) && (g == g)) (and_both (f == f) (g == g) (eq-eqb f f refl) (eq-eqb g g refl))
is_turned (Apart f g) = or_right ((f == g) && (g == f)) ((f == f) && (g == g)) (and_both (f == f) (g == g) (eq-eqb f f refl) (eq-eqb g g refl))
is_turned (Before f g) = and_both (f == f) (g == g) (eq-eqb f f refl) (eq-eqb g g refl)

pub turned_is : (x : Fact) → is_fact (turned x) x ≡ true
turned_is (Same f g) = or_right ((g == f) && (f == g)) ((g == g) && (f == f)) (and_both (g == g) (f == f) (eq-eqb g g refl) (eq-eqb f f refl))
turned_is (Apart f g) = or_right ((g == f) && (f == g)) ((g == g) && (f == f)) (and_both (g == g) (f == f) (eq-eqb g g refl) (eq-eqb f f refl))
turned_is (Before f g) = and_both (f == f) (g == g) (eq-eqb f f refl) (eq-eqb g g refl)

-- marking a fact and its turned spelling adds the fact
pub marks_add : (problem : Problem) (marks : List Bool) (facts : Facts) (x : Fact) → AreOps problem x → AreMarked problem marks facts → AreMarked problem (set (set marks (slot problem.count x) true) (slot problem.count (turned x)) true) (with_fact x facts)
marks_add problem marks facts x a m =
    record {
      long = length-set (set marks i true) j true ∙ (length-set marks i true ∙ m.long);
      same = λ y b. by_bool (is_fact x y)
          (λ e. marked y b e ∙ sym (or_left (is_fact x y) (facts y) e))
          (λ e. other y b e ∙ (m.same y b ∙ sym (ap (λ t. t || facts y) e)));
    }
  where
    i : ℕ
    i = slot problem.count x

    j : ℕ
    j = slot problem.count (turned x)

    at_j : get_or (set (set marks i true) j true) j false ≡ true
    at_j =
        let l : j < length (set marks i true) = omega (arith, slot_small problem (turned x) (turned_ops problem x a), length-set marks i true, m.long) in
        get_or-set_same (set marks i true) j true false l

    at_i : get_or (set (set marks i true) j true) i false ≡ true
    at_i =
        ⊎_elim (λ (e : i ≡ j). subst (λ k. get_or (set (set marks i true) j true) k false ≡ true) (sym e) at_j)
        (λ (ne : i ≡ j → ⊥). let l : i < length marks = omega (arith, slot_small problem x a, m.long) in get_or-set_other (set marks i true) j i true false ne ∙ get_or-set_same marks i true false l)
        (cases_eq i j)

    marked : (y : Fact) → AreOps problem y → is_fact x y ≡ true → get_or (set (set marks i true) j true) (slot problem.count y) false ≡ true
    marked y b e =
        same_or_turned x y e (get_or (set (set marks i true) j true) (slot problem.count y) false ≡ true)
        (λ s. subst (λ z. get_or (set (set marks i true) j true) (slot problem.count z) false ≡ true) (sym s) at_i)
        (λ s. subst (λ z. get_or (set (set marks i true) j true) (slot problem.count z) false ≡ true) (sym s) at_j)

    other : (y : Fact) → AreOps problem y → is_fact x y ≡ false → get_or (set (set marks i true) j true) (slot problem.count y) false ≡ get_or marks (slot problem.count y) false
    other y b e =
        let ni : slot problem.count y ≢ i = λ s. true≢false (sym (ap (is_fact x) (slot_is problem y x b a s) ∙ is_fact-same x) ∙ e) in
        let nj : slot problem.count y ≢ j = λ s. true≢false (sym (ap (is_fact x) (slot_is problem y (turned x) b (turned_ops problem x a) s) ∙ is_turned x) ∙ e) in
        get_or-set_other (set marks i true) j (slot problem.count y) true false nj ∙ get_or-set_other marks i (slot problem.count y) true false ni

-- unmarking a fact that was new takes it away again
pub marks_drop : (problem : Problem) (marks : List Bool) (facts : Facts) (x : Fact) → AreOps problem x → facts x ≡ false → IsSymmetric facts → AreMarked problem marks (with_fact x facts) → AreMarked problem (set (set marks (slot problem.count x) false) (slot problem.count (turned x)) false) facts
marks_drop problem marks facts x a isnt sym_facts m =
    record {
      long = length-set (set marks i false) j false ∙ (length-set marks i false ∙ m.long);
      same = λ y b. by_bool (is_fact x y)
          (λ e. marked y b e ∙ sym (gone y e))
          (λ e. other y b e ∙ (m.same y b ∙ ap (λ t. t || facts y) e));
    }
  where
    i : ℕ
    i = slot problem.count x

    j : ℕ
    j = slot problem.count (turned x)

    gone : (y : Fact) → is_fact x y ≡ true → facts y ≡ false
    gone y e = by_bool (facts y) (λ t. absurd (true≢false (sym (sym_facts y x (back y e) t) ∙ isnt))) (λ f. f)
      where
        back : (y : Fact) → is_fact x y ≡ true → is_fact y x ≡ true
        back y e = same_or_turned x y e (is_fact y x ≡ true) (λ s. subst (λ z. is_fact z x ≡ true) (sym s) (is_fact-same x)) (λ s. subst (λ z. is_fact z x ≡ true) (sym s) (turned_is x))

    at_j' : get_or (set (set marks i false) j false) j false ≡ false
    at_j' =
        let l : j < length (set marks i false) = omega (arith, slot_small problem (turned x) (turned_ops problem x a), length-set marks i false, m.long) in
        get_or-set_same (set marks i false) j false false l

    at_i : get_or (set (set marks i false) j false) i false ≡ false
    at_i =
        ⊎_elim (λ (e : i ≡ j). subst (λ k. get_or (set (set marks i false) j false) k false ≡ false) (sym e) at_j')
        (λ (ne : i ≡ j → ⊥). let l : i < length marks = omega (arith, slot_small problem x a, m.long) in get_or-set_other (set marks i false) j i false false ne ∙ get_or-set_same marks i false false l)
        (cases_eq i j)

    marked : (y : Fact) → AreOps problem y → is_fact x y ≡ true → get_or (set (set marks i false) j false) (slot problem.count y) false ≡ false
    marked y b e =
        same_or_turned x y e (get_or (set (set marks i false) j false) (slot problem.count y) false ≡ false)
        (λ s. subst (λ z. get_or (set (set marks i false) j false) (slot problem.count z) false ≡ false) (sym s) at_i)
        (λ s. subst (λ z. get_or (set (set marks i false) j false) (slot problem.count z) false ≡ false) (sym s) at_j')

    other : (y : Fact) → AreOps problem y → is_fact x y ≡ false → get_or (set (set marks i false) j false) (slot problem.count y) false ≡ get_or marks (slot problem.count y) false
    other y b e =
        let ni : slot problem.count y ≢ i = λ s. true≢false (sym (ap (is_fact x) (slot_is problem y x b a s) ∙ is_fact-same x) ∙ e) in
        let nj : slot problem.count y ≢ j = λ s. true≢false (sym (ap (is_fact x) (slot_is problem y (turned x) b (turned_ops problem x a) s) ∙ is_turned x) ∙ e) in
        get_or-set_other (set marks i false) j (slot problem.count y) false false nj ∙ get_or-set_other marks i (slot problem.count y) false false ni

-- ---- the list of facts

no_marks : (n k : ℕ) → get_or (replicate n false) k false ≡ false
no_marks zero k = refl
no_marks (suc n) zero = refl
no_marks (suc n) (suc k) = no_marks n k

pub fine_none : (problem : Problem) (trail : List Fact) (marks : List Bool) (n : ℕ) → trail ≡ [] → marks ≡ replicate n false → n ≡ 3 * (problem.count * problem.count) → AreFine problem trail marks
fine_none problem trail marks n t m e =
    subst (λ ts. AreFine problem ts marks) (sym t)
    (record {
      marked = record { long = ap length m ∙ length-replicate n false ∙ e; same = λ x o. ap (λ ms. get_or ms (slot problem.count x) false) m ∙ no_marks n (slot problem.count x) };
      about = λ x k. absurd (true≢false (sym k));
      fresh = tt;
    })

step : Facts → Fact → Facts
step facts x = with_fact x facts

told_from : (facts : Facts) (trail : List Fact) (y : Fact) → fold (λ fs x. with_fact x fs) facts trail y ≡ (told trail y || facts y)
told_from facts [] y = refl
told_from facts (x ∷ trail) y =
    told_from (with_fact x facts) trail y ∙ regroup (told trail y) (is_fact x y) (facts y)
    ∙ ap (λ b. b || facts y) (sym (told_from (with_fact x (λ z. false)) trail y))
  where
    regroup : (a b c : Bool) → (a || (b || c)) ≡ ((a || (b || false)) || c)
    regroup true b c = refl
    regroup false true c = refl
    regroup false false c = refl

-- what is known is what the list alone gives, and what was added
pub known_is : (problem : Problem) (trail : List Fact) (y : Fact) → (told trail y || root_facts problem y) ≡ facts_of problem trail y
known_is problem trail y = sym (told_from (root_facts problem) trail y)

told_more : (trail : List Fact) (x : Fact) → told (trail ++ x ∷ []) ≡ with_fact x (told trail)
told_more trail x = fold_push (λ facts y. with_fact y facts) (λ z. false) trail x

pub fresh_more : (facts : Facts) (trail : List Fact) (x : Fact) → AreFresh facts trail → fold (λ fs y. with_fact y fs) facts trail x ≡ false → AreFresh facts (trail ++ x ∷ [])
fresh_more facts [] x p e = (e, tt)
fresh_more facts (y ∷ trail) x p e = (p.0, fresh_more (with_fact y facts) trail x p.1 e)

pub fresh_less : (facts : Facts) (trail : List Fact) (x : Fact) → AreFresh facts (trail ++ x ∷ []) → AreFresh facts trail × (fold (λ fs y. with_fact y fs) facts trail x ≡ false)
fresh_less facts [] x p = (tt, p.0)
fresh_less facts (y ∷ trail) x p = let h = fresh_less (with_fact y facts) trail x p.1 in ((p.0, h.0), h.1)

fact-then : (x y z : Fact) → is_fact x y ≡ true → is_fact y z ≡ true → is_fact x z ≡ true
fact-then x y z e h =
    same_or_turned x y e (is_fact x z ≡ true)
    (λ s. subst (λ w. is_fact w z ≡ true) s h)
    (λ s. same_or_turned (turned x) z (subst (λ w. is_fact w z ≡ true) s h) (is_fact x z ≡ true) (λ t. subst (λ w. is_fact x w ≡ true) (sym t) (is_turned x)) (λ t. subst (λ w. is_fact x w ≡ true) (sym (t ∙ twice x)) (is_fact-same x)))
  where
    twice : (x : Fact) → turned (turned x) ≡ x
    twice (Same f g) = refl
    twice (Apart f g) = refl
    twice (Before f g) = refl

symmetric_from : (facts : Facts) (trail : List Fact) → IsSymmetric facts → IsSymmetric (fold (λ fs y. with_fact y fs) facts trail)
symmetric_from facts [] s = s
symmetric_from facts (x ∷ trail) s =
    symmetric_from (with_fact x facts) trail
    (λ y z e k. or_either (is_fact x y) (facts y) k (λ here. or_left (is_fact x z) (facts z) (fact-then x y z here e)) (λ there. or_right (is_fact x z) (facts z) (s y z e there)))

about_with : (problem : Problem) (facts : Facts) (x : Fact) → AreOps problem x → ((y : Fact) → facts y ≡ true → AreOps problem y) → (y : Fact) → with_fact x facts y ≡ true → AreOps problem y
about_with problem facts x a old y e =
    or_either (is_fact x y) (facts y) e
    (λ here. same_or_turned x y here (AreOps problem y) (λ s. subst (AreOps problem) (sym s) a) (λ s. subst (AreOps problem) (sym s) (turned_ops problem x a)))
    (old y)

left_false : (a b : Bool) → (a || b) ≡ false → a ≡ false
left_false true b e = e
left_false false b e = refl

pub fine_add : (problem : Problem) (trail trail' : List Fact) (marks marks' : List Bool) (x : Fact) → AreFine problem trail marks → are_ops problem x ≡ true → facts_of problem trail x ≡ false
    → trail' ≡ trail ++ x ∷ [] → marks' ≡ marks_with problem.count x true marks → AreFine problem trail' marks'
fine_add problem trail trail' marks marks' x fine a isnt t m =
    let e : told trail' ≡ with_fact x (told trail) = ap told t ∙ told_more trail x in
    record {
      marked = subst (λ ms. AreMarked problem ms (told trail')) (sym m) (subst (AreMarked problem (marks_with problem.count x true marks)) (sym e) (marks_add problem marks (told trail) x a fine.marked));
      about = λ y k. about_with problem (told trail) x a fine.about y (sym (ap (λ (f : Facts). f y) e) ∙ k);
      fresh = subst (AreFresh (λ z. false)) (sym t) (fresh_more (λ z. false) trail x fine.fresh (left_false (told trail x) (root_facts problem x) (known_is problem trail x ∙ isnt)));
    }

last_told : (trail trail' : List Fact) (x : Fact) → trail' ≡ trail ++ x ∷ [] → told trail' x ≡ true
last_told trail trail' x t = ap (λ (f : Facts). f x) (ap told t ∙ told_more trail x) ∙ or_left (is_fact x x) (told trail x) (is_fact-same x)

-- the last fact of a list that is kept
pub last_about : (problem : Problem) (trail trail' : List Fact) (marks : List Bool) (x : Fact) → AreFine problem trail' marks → trail' ≡ trail ++ x ∷ [] → are_ops problem x ≡ true
last_about problem trail trail' marks x fine t = fine.about x (last_told trail trail' x t)

pub fine_drop : (problem : Problem) (trail trail' : List Fact) (marks marks' : List Bool) (x : Fact) → AreFine problem trail' marks → trail' ≡ trail ++ x ∷ [] → marks' ≡ marks_with problem.count x false marks → AreFine problem trail marks'
fine_drop problem trail trail' marks marks' x fine t m =
    let e : told trail' ≡ with_fact x (told trail) = ap told t ∙ told_more trail x in
    let f = fresh_less (λ z. false) trail x (subst (AreFresh (λ z. false)) t fine.fresh) in
    let a = last_about problem trail trail' marks x fine t in
    record {
      marked = subst (λ ms. AreMarked problem ms (told trail)) (sym m) (marks_drop problem marks (told trail) x a f.1 (symmetric_from (λ z. false) trail (λ y z k h. h)) (subst (AreMarked problem marks) e fine.marked));
      about = λ y k. fine.about y (ap (λ (g : Facts). g y) e ∙ or_right (is_fact x y) (told trail y) k);
      fresh = f.0;
    }

pub take_less : (all trail trail' : List Fact) (x : Fact) → trail' ≡ take (length trail') all → trail' ≡ trail ++ x ∷ [] → trail ≡ take (length trail) all
take_less all trail trail' x e t =
    let l : length trail' ≡ length trail + 1 = ap length t ∙ length-append trail (x ∷ []) in
    sym (take-append-le (length trail) trail (x ∷ []) (omega arith) ∙ take_all (length trail) trail (omega arith))
    ∙ (ap (take (length trail)) (sym t ∙ e) ∙ take-take (length trail) (length trail') all (omega arith))

-- ---- asking for a fact

root_ops : (problem : Problem) (x : Fact) → root_facts problem x ≡ true → are_ops problem x ≡ true
root_ops problem (Same f g) e = absurd (true≢false (sym e))
root_ops problem (Apart f g) e = let p = and_parts (is_pair problem f g) (not (problem.fusible f g)) e in let q = and_parts (is_op problem f) (is_op problem g && not (f == g)) p.0 in and_both (is_op problem f) (is_op problem g) q.0 (and_parts (is_op problem g) (not (f == g)) q.1).0
root_ops problem (Before f g) e = let p = and_parts (is_pair problem f g) (problem.dep f g) e in let q = and_parts (is_op problem f) (is_op problem g && not (f == g)) p.0 in and_both (is_op problem f) (is_op problem g) q.0 (and_parts (is_op problem g) (not (f == g)) q.1).0

-- a fact with an operation that is not of the list is not known
pub unknown : (problem : Problem) (trail : List Fact) (marks : List Bool) (x : Fact) (b : Bool) → AreFine problem trail marks → b ≡ are_ops problem x → b ≡ false → false ≡ facts_of problem trail x
unknown problem trail marks x b fine e isnt =
    by_bool (facts_of problem trail x)
    (λ t. absurd (true≢false (sym (or_either (told trail x) (root_facts problem x) (known_is problem trail x ∙ t) (fine.about x) (root_ops problem x)) ∙ (sym e ∙ isnt))))
    sym

any_default : {A : Type 0} (xs : List A) (i : ℕ) (d e : A) → i < length xs → get_or xs i d ≡ get_or xs i e
any_default [] i d e h = absurd (omega arith)
any_default (x ∷ xs) zero d e h = refl
any_default (x ∷ xs) (suc i) d e h = any_default xs i d e (omega arith)

pub seen : (problem : Problem) (trail : List Fact) (marks : List Bool) (x : Fact) (i : ℕ) (b : Bool) → AreFine problem trail marks → are_ops problem x ≡ true → i ≡ slot problem.count x → i < 3 * (problem.count * problem.count)
    → b ≡ get_or marks i b → b ≡ told trail x
seen problem trail marks x i b fine a e l here =
    let long : length marks ≡ 3 * (problem.count * problem.count) = fine.marked.long in
    here ∙ any_default marks i b false (omega (arith, long, l)) ∙ ap (λ k. get_or marks k false) e ∙ fine.marked.same x a
