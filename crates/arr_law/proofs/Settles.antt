-- Each legal plan settles at no greater cost.
use Rattle.std.proofs.Common.{◌≡◌, ℕ, ◌<◌, ◌≤◌, List, [], ◌∷◌, Bool, true, false, cond, not, ◌&&◌, Option, Some, None, refl, sym, ap, ◌∙◌, subst, arith, ⊎_elim}
use Rattle.std.specs.Prelude.{◌==◌, max}
use Rattle.std.specs.List.{list_any}
use Rattle.std.proofs.lemmas.Bool.{and_parts, and_from, or_left, or_right, not-true, eqb-true, eqb-false, eq-eqb, ne_eqb, true≢false, cases_lt}
use Rattle.arr_view.specs.Views.{has}
use Rattle.arr_ops.proofs.Tests.{or_cases}
use Rattle.arr_law.specs.Problem.{Problem, is_op, is_pair, operations, sum_below}
use Rattle.arr_law.specs.Plans.{IsLegalAt, outside_at, charged_at, cost_at}
use Rattle.arr_law.specs.Settled.{IsSettled, IsProper, last_place, settle_at, settle, Settles}
use Rattle.arr_law.proofs.Sums.{sum_below-le, cond-le}
use Rattle.arr_law.proofs.Members.{any_weaker, any_of, any_witness, has_ops, ops_are, pair_ops, pair_from}

last_place-above : (test : ℕ → Bool) (at : ℕ → ℕ) (us : List ℕ) (u : ℕ) → has us u ≡ true → test u ≡ true → at u ≤ last_place test at us
last_place-above test at [] u h t = absurd (true≢false (sym h))
last_place-above test at (w ∷ us) u h t =
    or_cases (u == w) (has us u) h
    (λ here. let same : w ≡ u = sym (eqb-true u w here) in
    subst (λ b. at u ≤ cond b (max (at w) (last_place test at us)) (last_place test at us)) (sym (ap test same ∙ t)) (omega (arith, ap at same)))
    (λ later. rest (test w) (last_place-above test at us u later t))
  where
    rest : (b : Bool) → at u ≤ last_place test at us → at u ≤ cond b (max (at w) (last_place test at us)) (last_place test at us)
    rest true l = omega (arith, l)
    rest false l = l

last_place-below : (test : ℕ → Bool) (at : ℕ → ℕ) (us : List ℕ) (m : ℕ) → ((u : ℕ) → has us u ≡ true → test u ≡ true → at u ≤ m) → last_place test at us ≤ m
last_place-below test at [] m all = omega arith
last_place-below test at (w ∷ us) m all = go (test w) refl (last_place-below test at us m (λ u h t. all u (or_right (u == w) (has us u) h) t))
  where
    go : (b : Bool) → test w ≡ b → last_place test at us ≤ m → cond b (max (at w) (last_place test at us)) (last_place test at us) ≤ m
    go true t l = omega (arith, l, all w (or_left (w == w) (has us w) (eq-eqb w w refl)) t)
    go false t l = l

abbrev Reached : (ℕ → Bool) → (ℕ → ℕ) → List ℕ → ℕ → Type 0
Reached test at us m = (u : ℕ) × (has us u ≡ true) × (test u ≡ true) × (at u ≡ m)

last_place-reached : (test : ℕ → Bool) (at : ℕ → ℕ) (us : List ℕ) → list_any test us ≡ true → Reached test at us (last_place test at us)
last_place-reached test at [] e = absurd (true≢false (sym e))
last_place-reached test at (w ∷ us) e = go (test w) refl (list_any test us) refl (last_place-reached test at us)
  where
    later : Reached test at us (last_place test at us) → (m : ℕ) → last_place test at us ≡ m → Reached test at (w ∷ us) m
    later r m same = (r.0, or_right (r.0 == w) (has us r.0) r.1, r.2, r.3 ∙ same)

    here : (m : ℕ) → test w ≡ true → at w ≡ m → Reached test at (w ∷ us) m
    here m t same = (w, or_left (w == w) (has us w) (eq-eqb w w refl), t, same)

    go : (b : Bool) → test w ≡ b → (c : Bool) → list_any test us ≡ c → (list_any test us ≡ true → Reached test at us (last_place test at us)) → Reached test at (w ∷ us) (cond b (max (at w) (last_place test at us)) (last_place test at us))
    go true t true c ih = ⊎_elim (λ lt. later (ih c) _ (omega arith)) (λ ge. here _ t (omega arith)) (cases_lt (at w) (last_place test at us))
    go true t false c ih =
        let none : last_place test at us ≤ 0 = last_place-below test at us 0 (λ u h k. absurd (true≢false (sym (any_of test us u h k) ∙ c))) in
        here _ t (omega arith)
    go false t true c ih = later (ih c) _ refl
    go false t false c ih = or_cases (test w) (list_any test us) e (λ x. absurd (true≢false (sym x ∙ t))) (λ x. absurd (true≢false (sym x ∙ c)))

module _ (problem : Problem) (proper : IsProper problem) (at : ℕ → ℕ) (blocks : ℕ) (legal : IsLegalAt problem at blocks) where
  -- where an operation stands once it is settled: as before, or with a last user
  settled_place : (f : ℕ) (P : ℕ → Type 0) → (problem.frees f ≡ None → P (at f)) → ((b : ℕ) → problem.frees f ≡ Some b → list_any (λ u. problem.names u b) (operations problem) ≡ true → P (last_place (λ u. problem.names u b) at (operations problem))) → ((b : ℕ) → problem.frees f ≡ Some b → list_any (λ u. problem.names u b) (operations problem) ≡ false → P (at f)) → P (settle problem at f)
  settled_place f P stays moves alone = go (problem.frees f) refl
    where
      inner : (b : ℕ) (c : Bool) → list_any (λ u. problem.names u b) (operations problem) ≡ c → problem.frees f ≡ Some b → P (cond c (last_place (λ u. problem.names u b) at (operations problem)) (at f))
      inner b true e is = moves b is e
      inner b false e is = alone b is e

      go : (o : Option ℕ) → problem.frees f ≡ o → P (settle_at problem at f o)
      go None is = stays is
      go (Some b) is = inner b (list_any (λ u. problem.names u b) (operations problem)) refl is

  not_free : (f : ℕ) → problem.frees f ≡ None → settle problem at f ≡ at f
  not_free f none = ap (settle_at problem at f) none

  -- a user of a base is no FREE
  user_stays : (u b : ℕ) → problem.names u b ≡ true → settle problem at u ≡ at u
  user_stays u b n = settled_place u (λ m. m ≡ at u) (λ _. refl) (λ d is _. absurd (proper.nameless u d b is n)) (λ d is _. absurd (proper.nameless u d b is n))

  pair_of : (u g b : ℕ) → problem.frees g ≡ Some b → is_op problem g ≡ true → is_op problem u ≡ true → problem.names u b ≡ true → is_pair problem u g ≡ true
  pair_of u g b is og ou n =
      pair_from problem u g ou og (ap not (ne_eqb u g (λ same. proper.nameless g b b is (subst (λ x. problem.names x b ≡ true) same n))))

  user_before : (u g b : ℕ) → problem.frees g ≡ Some b → is_op problem g ≡ true → is_op problem u ≡ true → problem.names u b ≡ true → at u ≤ at g
  user_before u g b is og ou n = legal.forward u g (pair_of u g b is og ou n) (proper.users u g b is n)

  moved_below : (g b : ℕ) → problem.frees g ≡ Some b → is_op problem g ≡ true → last_place (λ u. problem.names u b) at (operations problem) ≤ at g
  moved_below g b is og = last_place-below (λ u. problem.names u b) at (operations problem) (at g) (λ u h n. user_before u g b is og (ops_are problem u h) n)

  settle_below : (f : ℕ) → is_op problem f ≡ true → settle problem at f ≤ at f
  settle_below f op = settled_place f (λ m. m ≤ at f) (λ _. omega arith) (λ b is _. moved_below f b is op) (λ b is _. omega arith)

  -- at a user's block the FREE stands there or does not as before
  free_kept : (f g b : ℕ) → problem.frees g ≡ Some b → is_op problem g ≡ true → is_op problem f ≡ true → problem.names f b ≡ true → at g ≡ at f → settle problem at g ≡ at f
  free_kept f g b is og of n same =
      settled_place g (λ m. m ≡ at f) (λ none. absurd (cc))
      (λ d is' _.
      let bd : b ≡ d = cc in
      let n' : problem.names f d ≡ true = subst (λ x. problem.names f x ≡ true) bd n in
      let low : at f ≤ last_place (λ u. problem.names u d) at (operations problem) = last_place-above (λ u. problem.names u d) at (operations problem) f (has_ops problem f of) n' in
      let high : last_place (λ u. problem.names u d) at (operations problem) ≤ at g = moved_below g d is' og in
      omega arith)
      (λ d is' _. same)

  settle_legal : IsLegalAt problem (settle problem at) blocks
  settle_legal =
      record {
        within = λ f op. let l : at f < blocks = legal.within f op in omega (arith, settle_below f op);
        together = λ f g pair same. joined f g pair same (problem.frees f) refl (problem.frees g) refl;
        forward = λ f g pair d. ordered f g pair d (problem.frees f) refl (problem.frees g) refl;
      }
    where
      joined : (f g : ℕ) → is_pair problem f g ≡ true → settle problem at f ≡ settle problem at g → (o : Option ℕ) → problem.frees f ≡ o → (q : Option ℕ) → problem.frees g ≡ q → problem.fusible f g ≡ true
      joined f g pair same (Some b) is q iq = proper.even f g ∙ proper.free_fusible g f b is
      joined f g pair same None is (Some b) iq = proper.free_fusible f g b iq
      joined f g pair same None is None iq = legal.together f g pair (sym (not_free f is) ∙ (same ∙ not_free g iq))

      ordered : (f g : ℕ) → is_pair problem f g ≡ true → problem.dep f g ≡ true → (o : Option ℕ) → problem.frees f ≡ o → (q : Option ℕ) → problem.frees g ≡ q → settle problem at f ≤ settle problem at g
      ordered f g pair d (Some b) is q iq = absurd (proper.last f g b is d)
      ordered f g pair d None is None iq = omega (arith, not_free f is, not_free g iq, legal.forward f g pair d)
      ordered f g pair d None is (Some b) iq =
          subst (λ m. m ≤ settle problem at g) (sym (not_free f is))
          (settled_place g (λ m. at f ≤ m) (λ _. legal.forward f g pair d)
          (λ e ie _. last_place-above (λ u. problem.names u e) at (operations problem) f (has_ops problem f (pair_ops problem f g pair).0) (proper.user f g e ie d))
          (λ e ie _. legal.forward f g pair d))

  settle_settled : IsSettled problem (settle problem at)
  settle_settled g b u is og ou n =
      settled_place g (λ m. (w : ℕ) × (is_op problem w ≡ true) × (problem.names w b ≡ true) × (settle problem at w ≡ m)) (λ none. absurd (cc))
      (λ d id e.
      let bd : d ≡ b = cc in
      let r = last_place-reached (λ u. problem.names u d) at (operations problem) e in
      (r.0, ops_are problem r.0 r.1, subst (λ x. problem.names r.0 x ≡ true) bd r.2, user_stays r.0 d r.2 ∙ r.3))
      (λ d id e.
      let bd : b ≡ d = cc in
      absurd (true≢false (sym (any_of (λ u. problem.names u d) (operations problem) u (has_ops problem u ou) (subst (λ x. problem.names u x ≡ true) bd n)) ∙ e)))

  maker_stays : (b o : ℕ) → problem.creator b ≡ Some o → settle problem at o ≡ at o
  maker_stays b o is = settled_place o (λ m. m ≡ at o) (λ _. refl) (λ d id _. absurd (proper.maker b o d is id)) (λ d id _. absurd (proper.maker b o d is id))

  not_equal : (x y k : ℕ) → x ≡ y → not (x == k) ≡ true → not (y == k) ≡ true
  not_equal x y k e h = subst (λ z. not (z == k) ≡ true) e h

  maker_outside : (k b : ℕ) (o : Option ℕ) → problem.creator b ≡ o → outside_at (settle problem at) k o ≡ true → outside_at at k o ≡ true
  maker_outside k b None is e = refl
  maker_outside k b (Some o) is e = not_equal _ _ k (maker_stays b o is) e

  -- at a block with a user of the base
  free_outside : (k b f : ℕ) → is_op problem f ≡ true → at f ≡ k → problem.names f b ≡ true → (o : Option ℕ) → problem.freer b ≡ o → outside_at (settle problem at) k o ≡ true → outside_at at k o ≡ true
  free_outside k b f op here n None is e = refl
  free_outside k b f op here n (Some g) is e =
      let h = proper.freer_frees b g is in
      ap not
      (ne_eqb (at g) k
      (λ same. eqb-false _ _ (not-true _ e) (free_kept f g b h.1 h.0 op n (same ∙ sym here) ∙ here)))

  still_there : (test : ℕ → Bool) (k f b : ℕ) → problem.names f b ≡ true → ((settle problem at f == k) && test f) ≡ true → ((at f == k) && test f) ≡ true
  still_there test k f b n e = subst (λ m. ((m == k) && test f) ≡ true) (user_stays f b n) e

  charge_kept : (k c : ℕ) → c < problem.classes → charged_at problem (settle problem at) k c ≡ true → charged_at problem at k c ≡ true
  charge_kept k c l e =
      or_cases
      (list_any (λ f. (settle problem at f == k) && problem.reads f c) (operations problem) && outside_at (settle problem at) k (problem.creator (problem.base c)))
      (list_any (λ f. (settle problem at f == k) && problem.writes f c) (operations problem) && outside_at (settle problem at) k (problem.freer (problem.base c)))
      e
      (λ r. let h = and_parts (list_any (λ f. (settle problem at f == k) && problem.reads f c) (operations problem)) (outside_at (settle problem at) k (problem.creator (problem.base c))) r in
      or_left _ _ (and_from _ _
      (any_weaker (λ f. (settle problem at f == k) && problem.reads f c) (λ f. (at f == k) && problem.reads f c) (operations problem)
      (λ f _ t. still_there (λ f. problem.reads f c) k f (problem.base c) (proper.named f c (or_left (problem.reads f c) (problem.writes f c) (and_parts (settle problem at f == k) (problem.reads f c) t).1)) t) h.0)
      (maker_outside k (problem.base c) (problem.creator (problem.base c)) refl h.1)))
      (λ w. let h = and_parts (list_any (λ f. (settle problem at f == k) && problem.writes f c) (operations problem)) (outside_at (settle problem at) k (problem.freer (problem.base c))) w in
      let x = any_witness (λ f. (settle problem at f == k) && problem.writes f c) (operations problem) h.0 in
      let y = and_parts (settle problem at x.0 == k) (problem.writes x.0 c) x.2 in
      let n = proper.named x.0 c (or_right (problem.reads x.0 c) (problem.writes x.0 c) y.1) in
      let z = still_there (λ f. problem.writes f c) k x.0 (problem.base c) n x.2 in
      or_right _ _ (and_from _ _
      (any_of (λ f. (at f == k) && problem.writes f c) (operations problem) x.0 x.1 z)
      (free_outside k (problem.base c) x.0 (ops_are problem x.0 x.1) (eqb-true _ _ (and_parts (at x.0 == k) (problem.writes x.0 c) z).0) n (problem.freer (problem.base c)) refl h.1)))

  settle_cost : cost_at problem (settle problem at) blocks ≤ cost_at problem at blocks
  settle_cost =
      sum_below-le (λ k. sum_below (λ c. cond (charged_at problem (settle problem at) k c) (problem.weight c) 0) problem.classes) (λ k. sum_below (λ c. cond (charged_at problem at k c) (problem.weight c) 0) problem.classes) blocks
      (λ k _. sum_below-le (λ c. cond (charged_at problem (settle problem at) k c) (problem.weight c) 0) (λ c. cond (charged_at problem at k c) (problem.weight c) 0) problem.classes
      (λ c l. cond-le (charged_at problem (settle problem at) k c) (charged_at problem at k c) (problem.weight c) (charge_kept k c l)))

pub settles : (problem : Problem) → IsProper problem → (at : ℕ → ℕ) (blocks : ℕ) → IsLegalAt problem at blocks → Settles problem at blocks
settles problem proper at blocks legal =
    record {
      legal = settle_legal problem proper at blocks legal;
      settled = settle_settled problem proper at blocks legal;
      cheaper = settle_cost problem proper at blocks legal;
    }
