-- What a list alone gives, pair by pair, is all that it gives.
use Rattle.std.proofs.Common.{◌≡◌, ◌≢◌, ℕ, zero, suc, ◌+◌, ◌<◌, ◌≤◌, List, [], ◌∷◌, ◌++◌, length, get_or, take, add-one, Bool, true, false, cond, not, ◌&&◌, ◌||◌, refl, sym, ap, ◌∙◌, subst, arith, ⊎_elim}
use Rattle.std.specs.Prelude.{◌==◌}
use Rattle.std.specs.List.{list_any}
use Rattle.std.specs.Option.{option_to_list}
use Rattle.std.proofs.lemmas.Bool.{and_parts, and_from, or_left, or_right, true≢false, cases_eq, eq-eqb, eqb-true, true_from_ne_false, cases_lt}
use Rattle.std.proofs.lemmas.List.Sums.{fold-append}
use Rattle.arr_ops.proofs.Tests.{or_cases}
use Rattle.arr_ops.specs.declared.op.Op.{Op}
use Rattle.arr_law.specs.declared.fact.Fact.{Fact}
use Rattle.arr_law.specs.declared.fact.Fact.TheVariants.{Same, Apart, Before}
use Rattle.arr_law.specs.Problem.{Problem, is_op, is_pair, ends_base_of}
use Rattle.arr_law.specs.Facts.{Facts, is_fact, with_fact, root_facts}
use Rattle.arr_law.specs.Floor.{Within, IsSymmetric}
use Rattle.arr_law.specs.Settled.{IsProper}
use Rattle.arr_law.specs.ProblemOf.{problem_of}
use Rattle.arr_law.proofs.Members.{op_range, op_from, pair_ops, pair_from}
use Rattle.arr_law.proofs.Proper.{bool_ext, proper}
use Rattle.arr_ops.specs.Formed.{is_formed}
use Rattle.arr_state.specs.Rows.{put, rows_with, AreRowed}
use Rattle.arr_state.specs.Kept.{AreKept}
use Rattle.arr_state.specs.Known.{after, first, second, AreOps, HoldRoots}
use Rattle.arr_state.specs.Opening.{no_facts, with_pair, row_below, all_below, with_user, users_below, all_users_below}
use Rattle.arr_state.proofs.Basics.{within_then}
use Rattle.arr_state.proofs.Spelled.{same_or_turned, turned, with_here}
use Rattle.arr_state.proofs.Wents.{after_grows}
use Rattle.arr_state.proofs.Frees.{user_op, beyond}
use Rattle.arr_state.proofs.Words.{rows_add, user_rows}
use Rattle.arr_state.proofs.Keeps.{small_op}
use Rattle.arr_state.proofs.Prefixes.{take-one-more}

-- ---- facts

pub after_one : (trail : List Fact) (x : Fact) → after no_facts (trail ++ x ∷ []) ≡ with_fact x (after no_facts trail)
after_one trail x = fold-append (λ facts x. with_fact x facts) no_facts trail (x ∷ [])

turned_root : (problem : Problem) → IsProper problem → (x : Fact) → root_facts problem x ≡ true → root_facts problem (turned x) ≡ true
turned_root problem fair (Same f g) e = absurd (true≢false (sym e))
turned_root problem fair (Apart f g) e =
    let h = and_parts (is_pair problem f g) (not (problem.fusible f g)) e in
    let p = pair_ops problem f g h.0 in
    and_from (is_pair problem g f) (not (problem.fusible g f))
    (pair_from problem g f p.1 p.0 (true_from_ne_false _ (λ n. true≢false (sym p.2 ∙ flip n))))
    (ap not (sym (fair.even f g)) ∙ h.1)
  where
    flip : not (g == f) ≡ false → not (f == g) ≡ false
    flip n = ap not (eq-eqb f g (sym (eqb-true g f (true_from_ne_false _ (λ m. true≢false (sym (ap not m) ∙ n))))))
turned_root problem fair (Before f g) e = e

pub root_even : (problem : Problem) → IsProper problem → IsSymmetric (root_facts problem)
root_even problem fair x y e k =
    same_or_turned x y e (root_facts problem y ≡ true) (λ s. subst (λ z. root_facts problem z ≡ true) (sym s) k) (λ s. subst (λ z. root_facts problem z ≡ true) (sym s) (turned_root problem fair x k))

pub root_ops : (problem : Problem) (x : Fact) → root_facts problem x ≡ true → AreOps problem x
root_ops problem (Same f g) e = absurd (true≢false (sym e))
root_ops problem (Apart f g) e = let p = pair_ops problem f g (and_parts (is_pair problem f g) (not (problem.fusible f g)) e).0 in record { left = p.0; right = p.1 }
root_ops problem (Before f g) e = let p = pair_ops problem f g (and_parts (is_pair problem f g) (problem.dep f g) e).0 in record { left = p.0; right = p.1 }

if_within : (all facts : Facts) (c : Bool) (y : Fact) → IsSymmetric all → (c ≡ true → all y ≡ true) → Within facts all → Within (cond c (with_fact y facts) facts) all
if_within all facts true y s h w x e = or_cases (is_fact y x) (facts x) e (λ here. s y x here (h refl)) (w x)
if_within all facts false y s h w x e = w x e

if_grows : (facts : Facts) (c : Bool) (y : Fact) → Within facts (cond c (with_fact y facts) facts)
if_grows facts true y x e = or_right (is_fact y x) (facts x) e
if_grows facts false y x e = e

if_has : (facts : Facts) (c : Bool) (y : Fact) → c ≡ true → cond c (with_fact y facts) facts y ≡ true
if_has facts true y e = with_here facts y
if_has facts false y e = absurd (true≢false (sym e))

module _ (problem : Problem) (even : IsSymmetric (root_facts problem)) where
  abbrev apart_if : ℕ → ℕ → Facts → Facts
  apart_if f g facts = cond (not (f == g) && not (problem.fusible f g)) (with_fact (Apart f g) facts) facts

  pair_within : (f g : ℕ) (facts : Facts) → is_op problem f ≡ true → is_op problem g ≡ true → Within facts (root_facts problem) → Within (with_pair problem f g facts) (root_facts problem)
  pair_within f g facts of og w =
      if_within (root_facts problem) (apart_if f g facts) (not (f == g) && problem.dep f g) (Before f g) even
      (λ e. let h = and_parts (not (f == g)) (problem.dep f g) e in and_from (is_pair problem f g) (problem.dep f g) (pair_from problem f g of og h.0) h.1)
      (if_within (root_facts problem) facts (not (f == g) && not (problem.fusible f g)) (Apart f g) even
      (λ e. let h = and_parts (not (f == g)) (not (problem.fusible f g)) e in and_from (is_pair problem f g) (not (problem.fusible f g)) (pair_from problem f g of og h.0) h.1)
      w)

  pair_grows : (f g : ℕ) (facts : Facts) → Within facts (with_pair problem f g facts)
  pair_grows f g facts = within_then facts (apart_if f g facts) (with_pair problem f g facts) (if_grows facts (not (f == g) && not (problem.fusible f g)) (Apart f g)) (if_grows (apart_if f g facts) (not (f == g) && problem.dep f g) (Before f g))

  -- what the list gives of two operations, whatever else is there
  abbrev Holds : ℕ → ℕ → Facts → Type 0
  Holds f g facts = (root_facts problem (Apart f g) ≡ true → facts (Apart f g) ≡ true) × (root_facts problem (Before f g) ≡ true → facts (Before f g) ≡ true)

  pair_has : (f g : ℕ) (facts : Facts) → Holds f g (with_pair problem f g facts)
  pair_has f g facts = (
    λ e. let h = and_parts (is_pair problem f g) (not (problem.fusible f g)) e in
        if_grows (apart_if f g facts) (not (f == g) && problem.dep f g) (Before f g) (Apart f g)
        (if_has facts (not (f == g) && not (problem.fusible f g)) (Apart f g) (and_from (not (f == g)) (not (problem.fusible f g)) (pair_ops problem f g h.0).2 h.1)),
    λ e. let h = and_parts (is_pair problem f g) (problem.dep f g) e in
        if_has (apart_if f g facts) (not (f == g) && problem.dep f g) (Before f g) (and_from (not (f == g)) (problem.dep f g) (pair_ops problem f g h.0).2 h.1),
  )

  holds_more : (f g : ℕ) (a b : Facts) → Within a b → Holds f g a → Holds f g b
  holds_more f g a b w h = (λ e. w (Apart f g) (h.0 e), λ e. w (Before f g) (h.1 e))

  row_within : (m f : ℕ) (facts : Facts) → m ≤ problem.count → is_op problem f ≡ true → Within facts (root_facts problem) → Within (row_below problem m f facts) (root_facts problem)
  row_within zero f facts l of w = w
  row_within (suc m) f facts l of w = pair_within f (suc m) (row_below problem m f facts) of (op_from problem (suc m) (omega arith) l) (row_within m f facts (omega (arith, l)) of w)

  row_grows : (m f : ℕ) (facts : Facts) → Within facts (row_below problem m f facts)
  row_grows zero f facts x e = e
  row_grows (suc m) f facts x e = pair_grows f (suc m) (row_below problem m f facts) x (row_grows m f facts x e)

  row_has : (m f g : ℕ) (facts : Facts) → 1 ≤ g → g ≤ m → Holds f g (row_below problem m f facts)
  row_has zero f g facts a b = absurd (omega (arith, a, b))
  row_has (suc m) f g facts a b =
      ⊎_elim
      (λ (e : g ≡ suc m). subst (λ k. Holds f k (row_below problem (suc m) f facts)) (sym e) (pair_has f (suc m) (row_below problem m f facts)))
      (λ (ne : g ≢ suc m). holds_more f g (row_below problem m f facts) (row_below problem (suc m) f facts) (pair_grows f (suc m) (row_below problem m f facts)) (row_has m f g facts a (omega (arith, b, ne))))
      (cases_eq g (suc m))

  all_within : (m : ℕ) → m ≤ problem.count → Within (all_below problem m) (root_facts problem)
  all_within zero l = λ x e. absurd (true≢false (sym e))
  all_within (suc m) l = row_within problem.count (suc m) (all_below problem m) (omega arith) (op_from problem (suc m) (omega arith) l) (all_within m (omega (arith, l)))

  all_has : (m f g : ℕ) → 1 ≤ f → f ≤ m → 1 ≤ g → g ≤ problem.count → Holds f g (all_below problem m)
  all_has zero f g a b c d = absurd (omega (arith, a, b))
  all_has (suc m) f g a b c d =
      ⊎_elim
      (λ (e : f ≡ suc m). subst (λ k. Holds k g (all_below problem (suc m))) (sym e) (row_has problem.count (suc m) g (all_below problem m) c d))
      (λ (ne : f ≢ suc m). holds_more f g (all_below problem m) (all_below problem (suc m)) (row_grows problem.count (suc m) (all_below problem m)) (all_has m f g a (omega (arith, b, ne)) c d))
      (cases_eq f (suc m))

  root_in : (x : Fact) → root_facts problem x ≡ true → all_below problem problem.count x ≡ true
  root_in (Same f g) e = absurd (true≢false (sym e))
  root_in (Apart f g) e =
      let p = pair_ops problem f g (and_parts (is_pair problem f g) (not (problem.fusible f g)) e).0 in
      let a = op_range problem f p.0 in
      let b = op_range problem g p.1 in
      (all_has problem.count f g a.0 a.1 b.0 b.1).0 e
  root_in (Before f g) e =
      let p = pair_ops problem f g (and_parts (is_pair problem f g) (problem.dep f g) e).0 in
      let a = op_range problem f p.0 in
      let b = op_range problem g p.1 in
      (all_has problem.count f g a.0 a.1 b.0 b.1).1 e

  root_at : (x : Fact) → all_below problem problem.count x ≡ root_facts problem x
  root_at x = bool_ext _ _ (all_within problem.count (omega arith) x) (root_in x)

  pub root_is : all_below problem problem.count ≡ root_facts problem
  root_is = λ i x. root_at x i

-- a list that gives these facts has a spelling of each
after_any : (facts : Facts) (roots : List Fact) (x : Fact) → after facts roots x ≡ true → (facts x || list_any (λ r. is_fact r x) roots) ≡ true
after_any facts [] x e = or_left (facts x) false e
after_any facts (r ∷ roots) x e =
    or_cases (with_fact r facts x) (list_any (λ r. is_fact r x) roots) (after_any (with_fact r facts) roots x e)
    (λ h. or_cases (is_fact r x) (facts x) h
    (λ here. or_right (facts x) (is_fact r x || list_any (λ r. is_fact r x) roots) (or_left (is_fact r x) (list_any (λ r. is_fact r x) roots) here))
    (λ old. or_left (facts x) (is_fact r x || list_any (λ r. is_fact r x) roots) old))
    (λ later. or_right (facts x) (is_fact r x || list_any (λ r. is_fact r x) roots) (or_right (is_fact r x) (list_any (λ r. is_fact r x) roots) later))

pub roots_held : (problem : Problem) (roots : List Fact) → after no_facts roots ≡ root_facts problem → HoldRoots problem roots
roots_held problem roots is x e = after_any no_facts roots x (ap (λ (f : Facts). f x) is ∙ e)

pub member_after : (facts : Facts) (roots : List Fact) (k : ℕ) (d : Fact) → k < length roots → after facts roots (get_or roots k d) ≡ true
member_after facts [] k d l = absurd (omega (arith, l))
member_after facts (r ∷ roots) zero d l = after_grows (with_fact r facts) roots r (with_here facts r)
member_after facts (r ∷ roots) (suc k) d l = member_after (with_fact r facts) roots k d (omega (arith, l))

-- ---- users

freer_op : (list : List Op) (u g : ℕ) → ends_base_of (problem_of list) u g ≡ true → is_op (problem_of list) g ≡ true
freer_op list u zero e = absurd (true≢false (sym e))
freer_op list u (suc g) e =
    true_from_ne_false (is_op (problem_of list) (suc g))
    (λ isnt. true≢false (sym e ∙ ap (λ (op : Op). list_any ((problem_of list).names u) (option_to_list op.frees)) (beyond list g (past isnt))))
  where
    past : is_op (problem_of list) (suc g) ≡ false → length list ≤ g
    past isnt = ⊎_elim (λ (l : g < length list). absurd (true≢false (sym (op_from (problem_of list) (suc g) (omega arith) (omega (arith, l))) ∙ isnt))) (λ (l : length list ≤ g). l) (cases_lt g (length list))

abbrev Test : Type 0
Test = ℕ → ℕ → Bool

module _ (problem : Problem) where
  abbrev Below : Test → Type 0
  Below test = (f h : ℕ) → test f h ≡ true → ends_base_of problem f h ≡ true

  user_below : (u g : ℕ) (test : Test) → Below test → Below (with_user problem u g test)
  user_below u g test b f h e =
      or_cases (ends_base_of problem u g && ((u == f) && (g == h))) (test f h) e
      (λ here. let p = and_parts (ends_base_of problem u g) ((u == f) && (g == h)) here in
      let q = and_parts (u == f) (g == h) p.1 in
      subst (λ a. ends_base_of problem a h ≡ true) (eqb-true u f q.0) (subst (λ a. ends_base_of problem u a ≡ true) (eqb-true g h q.1) p.0))
      (b f h)

  users_in : (m g : ℕ) (test : Test) → Below test → Below (users_below problem m g test)
  users_in zero g test b = b
  users_in (suc u) g test b = user_below (suc u) g (users_below problem u g test) (users_in u g test b)

  all_users_in : (m : ℕ) → Below (all_users_below problem m)
  all_users_in zero = λ f h e. absurd (true≢false (sym e))
  all_users_in (suc g) = users_in problem.count (suc g) (all_users_below problem g) (all_users_in g)

  user_has : (u g : ℕ) (test : Test) → ends_base_of problem u g ≡ true → with_user problem u g test u g ≡ true
  user_has u g test e = or_left (ends_base_of problem u g && ((u == u) && (g == g))) (test u g) (and_from (ends_base_of problem u g) ((u == u) && (g == g)) e (and_from (u == u) (g == g) (eq-eqb u u refl) (eq-eqb g g refl)))

  users_grow : (m g : ℕ) (test : Test) (f h : ℕ) → test f h ≡ true → users_below problem m g test f h ≡ true
  users_grow zero g test f h e = e
  users_grow (suc u) g test f h e = or_right (ends_base_of problem (suc u) g && ((suc u == f) && (g == h))) (users_below problem u g test f h) (users_grow u g test f h e)

  users_have : (m g f : ℕ) (test : Test) → 1 ≤ f → f ≤ m → ends_base_of problem f g ≡ true → users_below problem m g test f g ≡ true
  users_have zero g f test a b e = absurd (omega (arith, a, b))
  users_have (suc u) g f test a b e =
      ⊎_elim
      (λ (s : f ≡ suc u). subst (λ k. users_below problem (suc u) g test k g ≡ true) (sym s) (user_has (suc u) g (users_below problem u g test) (subst (λ k. ends_base_of problem k g ≡ true) s e)))
      (λ (ne : f ≢ suc u). or_right (ends_base_of problem (suc u) g && ((suc u == f) && (g == g))) (users_below problem u g test f g) (users_have u g f test a (omega (arith, b, ne)) e))
      (cases_eq f (suc u))

  all_users_have : (m f g : ℕ) → 1 ≤ g → g ≤ m → 1 ≤ f → f ≤ problem.count → ends_base_of problem f g ≡ true → all_users_below problem m f g ≡ true
  all_users_have zero f g a b c d e = absurd (omega (arith, a, b))
  all_users_have (suc m) f g a b c d e =
      ⊎_elim
      (λ (s : g ≡ suc m). subst (λ k. all_users_below problem (suc m) f k ≡ true) (sym s) (users_have problem.count (suc m) f (all_users_below problem m) c d (subst (λ k. ends_base_of problem f k ≡ true) s e)))
      (λ (ne : g ≢ suc m). users_grow problem.count (suc m) (all_users_below problem m) f g (all_users_have m f g a (omega (arith, b, ne)) c d e))
      (cases_eq g (suc m))

users_at : (list : List Op) (f g : ℕ) → all_users_below (problem_of list) (length list) f g ≡ ends_base_of (problem_of list) f g
users_at list f g =
    bool_ext _ _ (all_users_in (problem_of list) (length list) f g)
    (λ e. let a = op_range (problem_of list) f (user_op list f g e) in
    let b = op_range (problem_of list) g (freer_op list f g e) in
    all_users_have (problem_of list) (length list) f g b.0 b.1 a.0 a.1 e)

pub users_are : (list : List Op) → all_users_below (problem_of list) (length list) ≡ ends_base_of (problem_of list)
users_are list = λ i f g. users_at list f g i

-- ---- loops

pub row_next : (problem : Problem) (n f : ℕ) (facts old new : Facts) → old ≡ row_below problem n f facts → new ≡ with_pair problem f (n + 1) old → new ≡ row_below problem (n + 1) f facts
row_next problem n f facts old new is e = e ∙ (ap (with_pair problem f (n + 1)) is ∙ subst (λ m. with_pair problem f m (row_below problem n f facts) ≡ row_below problem m f facts) (sym (add-one n)) refl)

pub all_next : (problem : Problem) (n : ℕ) (old new : Facts) → old ≡ all_below problem n → new ≡ row_below problem problem.count (n + 1) old → new ≡ all_below problem (n + 1)
all_next problem n old new is e = e ∙ (ap (row_below problem problem.count (n + 1)) is ∙ subst (λ m. row_below problem problem.count m (all_below problem n) ≡ all_below problem m) (sym (add-one n)) refl)

pub users_next : (problem : Problem) (u g : ℕ) (test : ℕ → ℕ → Bool) → with_user problem (u + 1) g (users_below problem u g test) ≡ users_below problem (u + 1) g test
users_next problem u g test = subst (λ m. with_user problem m g (users_below problem u g test) ≡ users_below problem m g test) (sym (add-one u)) refl

pub all_users_next : (problem : Problem) (g : ℕ) → users_below problem problem.count (g + 1) (all_users_below problem g) ≡ all_users_below problem (g + 1)
all_users_next problem g = subst (λ m. users_below problem problem.count m (all_users_below problem g) ≡ all_users_below problem m) (sym (add-one g)) refl

pub user_set : (n m k u g : ℕ) (test : ℕ → ℕ → Bool) (rows rows' rows'' : List ℕ) (facts : Facts) → m ≡ n → k ≡ n → u ≤ n → g ≤ n → rows' ≡ put m 4 u g true rows → rows'' ≡ put k 5 g u true rows' → AreRowed n test rows facts → AreRowed n (λ f h. ((u == f) && (g == h)) || test f h) rows'' facts
user_set n m k u g test rows rows' rows'' facts em ek lu lg a b r =
    let first : rows' ≡ put n 4 u g true rows = a ∙ ap (λ c. put c 4 u g true rows) em in
    let second : rows'' ≡ put n 5 g u true (put n 4 u g true rows) = b ∙ (ap (λ c. put c 5 g u true rows') ek ∙ ap (put n 5 g u true) first) in
    subst (λ rs. AreRowed n (λ f h. ((u == f) && (g == h)) || test f h) rs facts) (sym second) (user_rows n test rows facts u g lu lg r)

pub rows_next : (problem : Problem) (test : ℕ → ℕ → Bool) (m i : ℕ) (list : List Fact) (rows rows' : List ℕ) (d : Fact) → i < length list → AreOps problem (get_or list i d) → m ≡ problem.count → rows' ≡ rows_with m (get_or list i d) true rows → AreRowed problem.count test rows (after no_facts (take i list)) → AreRowed problem.count test rows' (after no_facts (take (i + 1) list))
rows_next problem test m i list rows rows' d l ops e is r =
    let same : after no_facts (take (i + 1) list) ≡ with_fact (get_or list i d) (after no_facts (take i list)) = ap (after no_facts) (ap (λ n. take n list) (add-one i) ∙ take-one-more list i d l) ∙ after_one (take i list) (get_or list i d) in
    subst (AreRowed problem.count test rows') (sym same)
    (rows_add problem.count test rows rows' (after no_facts (take i list)) (get_or list i d) (small_op problem (first (get_or list i d)) ops.left) (small_op problem (second (get_or list i d)) ops.right) (is ∙ ap (λ c. rows_with c (get_or list i d) true rows) e) r)

-- ---- the beginning

module _ (list : List Op) (formed : is_formed list ≡ true) (roots : List Fact) (is : after no_facts roots ≡ all_below (problem_of list) (length list)) where
  all_roots : after no_facts roots ≡ root_facts (problem_of list)
  all_roots = is ∙ root_is (problem_of list) (root_even (problem_of list) (proper list formed))

  pub open_held : HoldRoots (problem_of list) roots
  open_held = roots_held (problem_of list) roots all_roots

  pub open_ops : (k : ℕ) → k < length roots → AreOps (problem_of list) (get_or roots k (Same 0 0))
  open_ops k l = root_ops (problem_of list) (get_or roots k (Same 0 0)) (sym (ap (λ (f : Facts). f (get_or roots k (Same 0 0))) all_roots) ∙ member_after no_facts roots k (Same 0 0) l)

  pub open_kept : length list ≤ 256 → (facts : List Fact) (rows closed : List ℕ) → facts ≡ [] → closed ≡ [] → AreRowed (length list) (all_users_below (problem_of list) (length list)) rows (after no_facts roots) → AreKept (problem_of list) facts rows closed
  open_kept few facts rows closed none shut r =
      subst (λ ts. AreKept (problem_of list) ts rows closed) (sym none)
      (subst (AreKept (problem_of list) [] rows) (sym shut)
      (record {
        few = few;
        rowed = subst (AreRowed (length list) (ends_base_of (problem_of list)) rows) all_roots (subst (λ test. AreRowed (length list) test rows (after no_facts roots)) (users_are list) r);
        even = root_even (problem_of list) (proper list formed);
        about = root_ops (problem_of list);
        fresh = tt;
        shut = record { each = λ k l. absurd (omega (arith, l)); rising = λ i j a b. absurd (omega (arith, b)) };
      }))
