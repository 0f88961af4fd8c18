-- Members of lists of numbers, and the operations of a problem.
use Rattle.std.proofs.Common.{◌≡◌, ℕ, ◌-◌, ◌<◌, ◌≤◌, List, [], ◌∷◌, length, get_or, Bool, true, false, cond, not, ◌&&◌, ◌||◌, refl, sym, ap, ◌∙◌, subst, arith}
use Rattle.std.specs.Prelude.{nat_le, nat_eq, ◌==◌}
use Rattle.std.specs.List.{list_all, list_any, filter, range_with_len}
use Rattle.std.proofs.lemmas.Bool.{and_parts, and_from, not-true, or_left, or_right, eqb-true, eq-eqb, leb-true, le-leb, true≢false}
use Rattle.std.proofs.lemmas.List.FromFn.{get_or-range_with_len, length-range_with_len}
use Rattle.std.proofs.lemmas.List.Folds.{list_any_at, Any-from_list_any}
use Rattle.std.proofs.lemmas.List.Recursion.{and_at}
use Rattle.std.proofs.lemmas.Grind.{get_or_default_zero}
use Rattle.arr_view.specs.Views.{has}
use Rattle.arr_ops.proofs.Tests.{or_cases}
use Rattle.arr_law.specs.Problem.{Problem, is_op, is_pair, operations}
use Rattle.arr_law.specs.Plans.{each_pair}

pub any_weaker : (p q : ℕ → Bool) (xs : List ℕ) → ((x : ℕ) → has xs x ≡ true → p x ≡ true → q x ≡ true) → list_any p xs ≡ true → list_any q xs ≡ true
any_weaker p q [] step e = e
any_weaker p q (x ∷ xs) step e =
    or_cases (p x) (list_any p xs) e
    (λ here. or_left (q x) (list_any q xs) (step x (or_left (x == x) (has xs x) (eq-eqb x x refl)) here))
    (λ later. or_right (q x) (list_any q xs) (any_weaker p q xs (λ y h. step y (or_right (y == x) (has xs y) h)) later))

pub any_of : (p : ℕ → Bool) (xs : List ℕ) (x : ℕ) → has xs x ≡ true → p x ≡ true → list_any p xs ≡ true
any_of p [] x h e = h
any_of p (y ∷ xs) x h e =
    or_cases (x == y) (has xs x) h
    (λ here. or_left (p y) (list_any p xs) (ap p (sym (eqb-true x y here)) ∙ e))
    (λ later. or_right (p y) (list_any p xs) (any_of p xs x later e))

pub any_witness : (p : ℕ → Bool) (xs : List ℕ) → list_any p xs ≡ true → (x : ℕ) × (has xs x ≡ true) × (p x ≡ true)
any_witness p [] e = absurd (true≢false (sym e))
any_witness p (x ∷ xs) e =
    or_cases (p x) (list_any p xs) e
    (λ here. (x, or_left (x == x) (has xs x) (eq-eqb x x refl), here))
    (λ later. let r = any_witness p xs later in (r.0, or_right (r.0 == x) (has xs r.0) r.1, r.2))

pub all_at : {X : Type 0} (p : X → Bool) (xs : List X) (i : ℕ) (d : X) → i < length xs → list_all p xs ≡ true → p (get_or xs i d) ≡ true
all_at p xs i d l e = and_at (list_all p) p refl (λ _ _. refl) xs i d l e

-- a filter keeps the members that pass
pub filter_has : (p : ℕ → Bool) (xs : List ℕ) (f : ℕ) → has xs f ≡ true → p f ≡ true → has (filter p xs) f ≡ true
filter_has p [] f h t = h
filter_has p (x ∷ xs) f h t =
    or_cases (f == x) (has xs f) h
    (λ here. let same : p x ≡ true = ap p (sym (eqb-true f x here)) ∙ t in subst (λ b. has (cond b (x ∷ filter p xs) (filter p xs)) f ≡ true) (sym same) (or_left (f == x) (has (filter p xs) f) here))
    (λ later. kept (p x) (filter_has p xs f later t))
  where
    kept : (b : Bool) → has (filter p xs) f ≡ true → has (cond b (x ∷ filter p xs) (filter p xs)) f ≡ true
    kept true h = or_right (f == x) (has (filter p xs) f) h
    kept false h = h

pub has_filter : (p : ℕ → Bool) (xs : List ℕ) (f : ℕ) → has (filter p xs) f ≡ true → (p f ≡ true) × (has xs f ≡ true)
has_filter p [] f h = absurd (true≢false (sym h))
has_filter p (x ∷ xs) f h = go (p x) refl h (has_filter p xs f)
  where
    go : (b : Bool) → p x ≡ b → has (cond b (x ∷ filter p xs) (filter p xs)) f ≡ true → (has (filter p xs) f ≡ true → (p f ≡ true) × (has xs f ≡ true)) → (p f ≡ true) × (has (x ∷ xs) f ≡ true)
    go true e k ih =
        or_cases (f == x) (has (filter p xs) f) k
        (λ here. (ap p (eqb-true f x here) ∙ e, or_left (f == x) (has xs f) here))
        (λ later. let r = ih later in (r.0, or_right (f == x) (has xs f) r.1))
    go false e k ih = let r = ih k in (r.0, or_right (f == x) (has xs f) r.1)

pub member_at : (xs : List ℕ) (k : ℕ) → has xs k ≡ true → (i : ℕ) × (i < length xs) × (get_or xs i 0 ≡ k)
member_at xs k e =
    let h = Any-from_list_any (λ q. k == q) xs e in
    (h.0, h.2, sym (get_or_default_zero xs h.0 h.1 h.2) ∙ (h.3 ∙ sym (eqb-true k h.1 h.4)))

pub at_has : (xs : List ℕ) (i k : ℕ) → i < length xs → get_or xs i 0 ≡ k → has xs k ≡ true
at_has xs i k l e = list_any_at (nat_eq k) xs i 0 l (eq-eqb k _ (sym e))

-- ---- a range of numbers

pub range_has : (a n f : ℕ) → a ≤ f → f - a < n → has (range_with_len a n) f ≡ true
range_has a n f l m = at_has (range_with_len a n) (f - a) f (omega (arith, length-range_with_len a n)) (omega (arith, get_or-range_with_len a n (f - a) 0 m))

pub has_range : (a n f : ℕ) → has (range_with_len a n) f ≡ true → (a ≤ f) × (f - a < n)
has_range a n f e =
    let h : (i : ℕ) × (i < length (range_with_len a n)) × (get_or (range_with_len a n) i 0 ≡ f) = member_at (range_with_len a n) f e in
    let l : h.0 < n = omega (arith, length-range_with_len a n, h.1) in
    (omega (arith, get_or-range_with_len a n h.0 0 l, h.2), omega (arith, get_or-range_with_len a n h.0 0 l, h.2))

module _ (problem : Problem) where
  pub op_range : (f : ℕ) → is_op problem f ≡ true → (1 ≤ f) × (f ≤ problem.count)
  op_range f op = let h = and_parts (nat_le 1 f) (nat_le f problem.count) op in (leb-true _ _ h.0, leb-true _ _ h.1)

  pub op_from : (f : ℕ) → 1 ≤ f → f ≤ problem.count → is_op problem f ≡ true
  op_from f a b = and_from _ _ (le-leb 1 f a) (le-leb f problem.count b)

  pub has_ops : (f : ℕ) → is_op problem f ≡ true → has (operations problem) f ≡ true
  has_ops f op = let r : (1 ≤ f) × (f ≤ problem.count) = op_range f op in range_has 1 problem.count f r.0 (omega (arith, r.0, r.1))

  pub ops_are : (f : ℕ) → has (operations problem) f ≡ true → is_op problem f ≡ true
  ops_are f e = let r : (1 ≤ f) × (f - 1 < problem.count) = has_range 1 problem.count f e in op_from f r.0 (omega (arith, r.0, r.1))

  pub at_op : (p : ℕ → Bool) → list_all p (operations problem) ≡ true → (f : ℕ) → is_op problem f ≡ true → p f ≡ true
  at_op p e f op =
      let r : (1 ≤ f) × (f ≤ problem.count) = op_range f op in
      let l : f - 1 < problem.count = omega (arith, r.0, r.1) in
      subst (λ g. p g ≡ true) (omega (arith, get_or-range_with_len 1 problem.count (f - 1) 0 l, r.0)) (all_at p (operations problem) (f - 1) 0 (omega (arith, length-range_with_len 1 problem.count, l)) e)

  pub pair_ops : (f g : ℕ) → is_pair problem f g ≡ true → (is_op problem f ≡ true) × (is_op problem g ≡ true) × (not (f == g) ≡ true)
  pair_ops f g e =
      let h = and_parts (is_op problem f) (is_op problem g && not (f == g)) e in
      let k = and_parts (is_op problem g) (not (f == g)) h.1 in
      (h.0, k.0, k.1)

  pub pair_from : (f g : ℕ) → is_op problem f ≡ true → is_op problem g ≡ true → not (f == g) ≡ true → is_pair problem f g ≡ true
  pair_from f g a b c = and_from (is_op problem f) (is_op problem g && not (f == g)) a (and_from (is_op problem g) (not (f == g)) b c)

  pub at_pair : (test : ℕ → ℕ → Bool) → each_pair problem test ≡ true → (f g : ℕ) → is_pair problem f g ≡ true → test f g ≡ true
  at_pair test e f g pair =
      let h = pair_ops f g pair in
      or_cases (not (is_pair problem f g)) (test f g)
      (at_op (λ g. not (is_pair problem f g) || test f g) (at_op (λ f. list_all (λ g. not (is_pair problem f g) || test f g) (operations problem)) e f h.0) g h.1)
      (λ no. absurd (true≢false (sym pair ∙ not-true _ no)))
      (λ yes. yes)
