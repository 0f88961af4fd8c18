-- The tests on the places show that their blocks are a legal plan.
use Rattle.std.proofs.Common.{◌≡◌, ℕ, zero, suc, ◌+◌, ◌-◌, ◌<◌, ◌≤◌, List, [], ◌∷◌, length, get_or, map, Bool, true, cond, not, ◌&&◌, ◌||◌, refl, sym, ap, ◌∙◌, subst, arith, ⊎_elim}
use Rattle.std.specs.Prelude.{nat_le, nat_lt, ◌==◌, max}
use Rattle.std.specs.List.{list_all, list_any, filter, fold, range_with_len}
use Rattle.std.proofs.lemmas.Bool.{and_parts, and_from, or_left, or_right, not-true, eqb-true, eqb-false, eq-eqb, ne_eqb, lt-ltb, leb-true, le-leb, cases_lt, cases_eq}
use Rattle.std.proofs.lemmas.List.Folds.{list_any_at, Any-from_list_any}
use Rattle.std.proofs.lemmas.List.FromFn.{get_or-enumerate_from, length-enumerate_from, length-map-range_with_len}
use Rattle.arr_view.specs.Views.{has}
use Rattle.arr_ops.specs.declared.op.Op.{Op}
use Rattle.arr_ops.specs.Ops.{dep}
use Rattle.arr_ops.specs.Formed.{all_pairs}
use Rattle.arr_ops.specs.Plans.{numbered, holders, place, pair_legal, not_empty, is_legal}
use Rattle.arr_ops.proofs.Tests.{or_cases}
use Rattle.arr_law.specs.Problem.{Problem, is_op, is_pair, operations}
use Rattle.arr_law.specs.Plans.{place_in, are_places, greatest, blocks_of, is_together, is_forward}
use Rattle.arr_law.specs.ProblemOf.{nothing, op_at, problem_of}
use Rattle.arr_law.proofs.Members.{all_at, filter_has, has_filter, member_at, op_range, op_from, has_ops, ops_are, at_pair, pair_from}
use Rattle.arr_law.proofs.Proper.{bool_ext}

-- ---- tests of a list, from tests at each index

all_from : {X : Type 0} (p : X → Bool) (xs : List X) (d : X) → ((i : ℕ) → i < length xs → p (get_or xs i d) ≡ true) → list_all p xs ≡ true
all_from p [] d h = refl
all_from p (x ∷ xs) d h = and_from (p x) (list_all p xs) (h 0 (omega arith)) (all_from p xs d (λ i l. h (suc i) (omega arith)))

pairs_from : {X : Type 0} (t : X → X → Bool) (xs : List X) (d : X) → ((i j : ℕ) → i < j → j < length xs → t (get_or xs i d) (get_or xs j d) ≡ true) → all_pairs t xs ≡ true
pairs_from t [] d h = refl
pairs_from t (x ∷ xs) d h =
    and_from (list_all (t x) xs) (all_pairs t xs) (all_from (t x) xs d (λ j l. h 0 (suc j) (omega arith) (omega arith))) (pairs_from t xs d (λ i j l m. h (suc i) (suc j) (omega arith) (omega arith)))

all_members : (p : ℕ → Bool) (xs : List ℕ) → ((x : ℕ) → has xs x ≡ true → p x ≡ true) → list_all p xs ≡ true
all_members p [] h = refl
all_members p (x ∷ xs) h = and_from (p x) (list_all p xs) (h x (or_left (x == x) (has xs x) (eq-eqb x x refl))) (all_members p xs (λ y k. h y (or_right (y == x) (has xs y) k)))

all_blocks : (test : List ℕ → Bool) (B : ℕ → List ℕ) (s m : ℕ) → ((k : ℕ) → s ≤ k → k < s + m → test (B k) ≡ true) → list_all test (map B (range_with_len s m)) ≡ true
all_blocks test B s zero h = refl
all_blocks test B s (suc m) h = and_from (test (B s)) (list_all test (map B (range_with_len (s + 1) m))) (h s (omega arith) (omega arith)) (all_blocks test B (s + 1) m (λ k a b. h k (omega arith) (omega arith)))

-- ---- the blocks of numbers in a row, of which just one has f

module _ (B : ℕ → List ℕ) (f p : ℕ) (own : (k : ℕ) → has (B k) f ≡ (p == k)) where
  held_below : (s m : ℕ) → p < s → holders (map B (range_with_len s m)) f ≡ 0
  held_below s zero l = refl
  held_below s (suc m) l =
      ap (λ b. cond b (suc (holders (map B (range_with_len (s + 1) m)) f)) (holders (map B (range_with_len (s + 1) m)) f)) (own s ∙ ne_eqb p s (λ e. absurd (omega arith)))
      ∙ held_below (s + 1) m (omega arith)

  held : (s m : ℕ) → s ≤ p → p < s + m → (holders (map B (range_with_len s m)) f ≡ 1) × (s + place (map B (range_with_len s m)) f ≡ p)
  held s zero l h = absurd (omega arith)
  held s (suc m) l h = ⊎_elim here (there (λ a b. held (s + 1) m a b)) (cases_eq p s)
    where
      rest : List (List ℕ)
      rest = map B (range_with_len (s + 1) m)

      here : p ≡ s → (holders (B s ∷ rest) f ≡ 1) × (s + place (B s ∷ rest) f ≡ p)
      here e = (
        ap (λ b. cond b (suc (holders rest f)) (holders rest f)) (own s ∙ eq-eqb p s e) ∙ ap suc (held_below (s + 1) m (omega arith)),
        ap (λ b. s + cond b 0 (suc (place rest f))) (own s ∙ eq-eqb p s e) ∙ omega arith,
      )

      there : (s + 1 ≤ p → p < s + 1 + m → (holders rest f ≡ 1) × (s + 1 + place rest f ≡ p)) → (p ≡ s → ⊥) → (holders (B s ∷ rest) f ≡ 1) × (s + place (B s ∷ rest) f ≡ p)
      there ih ne =
          let above : s + 1 ≤ p = ⊎_elim (λ (lt : p < s + 1). absurd (ne (omega arith))) (λ ge. ge) (cases_lt p (s + 1)) in
          let r : (holders rest f ≡ 1) × (s + 1 + place rest f ≡ p) = ih above (omega arith) in (
            ap (λ b. cond b (suc (holders rest f)) (holders rest f)) (own s ∙ ne_eqb p s ne) ∙ r.0,
            ap (λ b. s + cond b 0 (suc (place rest f))) (own s ∙ ne_eqb p s ne) ∙ omega (arith, r.1),
          )

-- ---- the greatest of a list

greatest_from : (a : ℕ) (xs : List ℕ) (i : ℕ) → i < length xs → (a ≤ fold max a xs) × (get_or xs i 0 ≤ fold max a xs)
greatest_from a [] i l = absurd (omega arith)
greatest_from a (x ∷ []) zero l = (omega arith, omega arith)
greatest_from a (x ∷ []) (suc i) l = absurd (omega arith)
greatest_from a (x ∷ y ∷ xs) zero l = let h = greatest_from (max a x) (y ∷ xs) zero (omega arith) in (omega (arith, h.0), omega (arith, h.0))
greatest_from a (x ∷ y ∷ xs) (suc i) l = let h = greatest_from (max a x) (y ∷ xs) i (omega arith) in (omega (arith, h.0), h.1)

greatest_reached : (a : ℕ) (xs : List ℕ) (k : ℕ) → a < k → k ≤ fold max a xs → (q : ℕ) × (has xs q ≡ true) × (k ≤ q)
greatest_reached a [] k l e = absurd (omega arith)
greatest_reached a (x ∷ xs) k l e = ⊎_elim (small (λ lt. greatest_reached (max a x) xs k lt e)) large (cases_lt x k)
  where
    small : (max a x < k → (q : ℕ) × (has xs q ≡ true) × (k ≤ q)) → x < k → (q : ℕ) × (has (x ∷ xs) q ≡ true) × (k ≤ q)
    small ih lt = let r = ih (omega arith) in (r.0, or_right (r.0 == x) (has xs r.0) r.1, r.2)

    large : k ≤ x → (q : ℕ) × (has (x ∷ xs) q ≡ true) × (k ≤ q)
    large le = (x, or_left (x == x) (has xs x) (eq-eqb x x refl), le)

module _ (list : List Op) (places : List ℕ) (good : are_places (problem_of list) places ≡ true) where
  abbrev P : Problem
  P = problem_of list

  abbrev block : ℕ → List ℕ
  block k = filter (λ f. place_in places f == k) (operations P)

  long : length places ≡ length list
  long = eqb-true _ _ (and_parts (length places == length list) (list_all (λ p. nat_le 1 p && ((p == 1) || list_any (λ q. q + 1 == p) places)) places) good).0

  each_place : (i : ℕ) → i < length places → (1 ≤ get_or places i 0) × (((get_or places i 0 == 1) || list_any (λ q. q + 1 == get_or places i 0) places) ≡ true)
  each_place i l =
      let h = and_parts (length places == length list) (list_all (λ p. nat_le 1 p && ((p == 1) || list_any (λ q. q + 1 == p) places)) places) good in
      let k = all_at (λ p. nat_le 1 p && ((p == 1) || list_any (λ q. q + 1 == p) places)) places i 0 l h.1 in
      let m = and_parts (nat_le 1 (get_or places i 0)) ((get_or places i 0 == 1) || list_any (λ q. q + 1 == get_or places i 0) places) k in
      (leb-true _ _ m.0, m.1)

  place_range : (f : ℕ) → is_op P f ≡ true → (1 ≤ place_in places f) × (place_in places f ≤ greatest places)
  place_range f op =
      let r : (1 ≤ f) × (f ≤ length list) = op_range P f op in
      let l : f - 1 < length places = omega (arith, long, r.0, r.1) in
      ((each_place (f - 1) l).0, (greatest_from 0 places (f - 1) l).1)

  -- a place above 1 is used only where the one before it is
  down : (d k : ℕ) → 1 ≤ k → has places (k + d) ≡ true → has places k ≡ true
  down zero k one e = subst (λ m. has places m ≡ true) (omega arith) e
  down (suc d) k one e =
      let h : (i : ℕ) × (i < length places) × (get_or places i 0 ≡ k + suc d) = member_at places (k + suc d) e in
      let p = each_place h.0 h.1 in
      down d k one
      (or_cases (get_or places h.0 0 == 1) (list_any (λ q. q + 1 == get_or places h.0 0) places) p.1
      (λ first. let s : get_or places h.0 0 ≡ 1 = eqb-true _ _ first in absurd (omega (arith, s, h.2)))
      (λ later.
      let m = Any-from_list_any (λ q. q + 1 == get_or places h.0 0) places later in
      let s : m.1 + 1 ≡ get_or places h.0 0 = eqb-true _ _ m.4 in
      list_any_at (λ g. k + d == g) places m.0 m.1 m.2 (eq-eqb (k + d) _ (omega (arith, m.3, s, h.2)))))

  used : (k : ℕ) → 1 ≤ k → k ≤ greatest places → has places k ≡ true
  used k one l =
      let h : (q : ℕ) × (has places q ≡ true) × (k ≤ q) = greatest_reached 0 places k (omega arith) l in
      down (h.0 - k) k one (subst (λ m. has places m ≡ true) (omega (arith, h.2)) h.1)

  own : (f : ℕ) → is_op P f ≡ true → (k : ℕ) → has (block k) f ≡ (place_in places f == k)
  own f op k = bool_ext (has (block k) f) (place_in places f == k) (λ e. (has_filter (λ f. place_in places f == k) (operations P) f e).0) (λ e. filter_has (λ f. place_in places f == k) (operations P) f (has_ops P f op) e)

  stands : (f : ℕ) → is_op P f ≡ true → (holders (blocks_of P places) f ≡ 1) × (1 + place (blocks_of P places) f ≡ place_in places f)
  stands f op =
      let r : (1 ≤ place_in places f) × (place_in places f ≤ greatest places) = place_range f op in
      held block f (place_in places f) (own f op) 1 (greatest places) r.0 (omega (arith, r.1))

  pub place_blocks : (f : ℕ) → is_op P f ≡ true → place (blocks_of P places) f ≡ place_in places f - 1
  place_blocks f op = let h : (holders (blocks_of P places) f ≡ 1) × (1 + place (blocks_of P places) f ≡ place_in places f) = stands f op in omega (arith, h.1)

  pub blocks_long : length (blocks_of P places) ≡ greatest places
  blocks_long = length-map-range_with_len block 1 (greatest places)

  full : (k : ℕ) → 1 ≤ k → k < 1 + greatest places → (not_empty (block k) && list_all (λ i. nat_lt 0 i && nat_le i (length list)) (block k)) ≡ true
  full k one l =
      let h : (i : ℕ) × (i < length places) × (get_or places i 0 ≡ k) = member_at places k (used k one (omega arith)) in
      let op : is_op P (suc h.0) ≡ true = op_from P (suc h.0) (omega arith) (omega (arith, h.1, long)) in
      let at : place_in places (suc h.0) ≡ k = ap (λ m. get_or places m 0) (omega arith) ∙ h.2 in
      and_from (not_empty (block k)) (list_all (λ i. nat_lt 0 i && nat_le i (length list)) (block k))
      (some (block k) (suc h.0) (own (suc h.0) op k ∙ eq-eqb (place_in places (suc h.0)) k at))
      (all_members (λ i. nat_lt 0 i && nat_le i (length list)) (block k) (λ x e.
      let r : (1 ≤ x) × (x ≤ length list) = op_range P x (ops_are P x (has_filter (λ f. place_in places f == k) (operations P) x e).1) in
      and_from (nat_lt 0 x) (nat_le x (length list)) (lt-ltb 0 x (omega (arith, r.0))) (le-leb x (length list) r.1)))
    where
      some : (xs : List ℕ) (x : ℕ) → has xs x ≡ true → not_empty xs ≡ true
      some [] x e = e
      some (y ∷ ys) x e = refl

  number : (i : ℕ) → i < length list → get_or (numbered list) i (0, nothing) ≡ (suc i, get_or list i nothing)
  number i l = get_or-enumerate_from 1 list i (0, nothing) l ∙ ap (λ (k : ℕ). (k, get_or list i nothing)) (omega arith)

  pub places_legal : is_together P places ≡ true → is_forward P places ≡ true → is_legal list (blocks_of P places) ≡ true
  places_legal together forward =
      and_from (list_all (λ block. not_empty block && list_all (λ i. nat_lt 0 i && nat_le i (length list)) block) (blocks_of P places)) (list_all (λ (x : ℕ × Op). holders (blocks_of P places) x.0 == 1) (numbered list) && all_pairs (pair_legal (blocks_of P places)) (numbered list))
      (all_blocks (λ block. not_empty block && list_all (λ i. nat_lt 0 i && nat_le i (length list)) block) block 1 (greatest places) full)
      (and_from (list_all (λ (x : ℕ × Op). holders (blocks_of P places) x.0 == 1) (numbered list)) (all_pairs (pair_legal (blocks_of P places)) (numbered list))
      (all_from (λ (x : ℕ × Op). holders (blocks_of P places) x.0 == 1) (numbered list) (0, nothing)
      (λ i l.
      let m : i < length list = omega (arith, length-enumerate_from 1 list, l) in
      subst (λ (x : ℕ × Op). (holders (blocks_of P places) x.0 == 1) ≡ true) (sym (number i m)) (eq-eqb (holders (blocks_of P places) (suc i)) 1 (stands (suc i) (op_from P (suc i) (omega arith) (omega arith))).0)))
      (pairs_from (pair_legal (blocks_of P places)) (numbered list) (0, nothing) (λ i j l m.
      let n : j < length list = omega (arith, length-enumerate_from 1 list, m) in
      subst (λ (x : ℕ × Op). pair_legal (blocks_of P places) x (get_or (numbered list) j (0, nothing)) ≡ true) (sym (number i (omega arith)))
      (subst (λ (y : ℕ × Op). pair_legal (blocks_of P places) (suc i, get_or list i nothing) y ≡ true) (sym (number j n)) (two i j l n)))))
    where
      two : (i j : ℕ) → i < j → j < length list → pair_legal (blocks_of P places) (suc i, get_or list i nothing) (suc j, get_or list j nothing) ≡ true
      two i j l m =
          let f : ℕ = suc i in
          let g : ℕ = suc j in
          let of : is_op P f ≡ true = op_from P f (omega arith) (omega arith) in
          let og : is_op P g ≡ true = op_from P g (omega arith) (omega arith) in
          let pair : is_pair P f g ≡ true = pair_from P f g of og (ap not (ne_eqb f g (λ e. absurd (omega arith)))) in
          let a : (1 ≤ place_in places f) × (place_in places f ≤ greatest places) = place_range f of in
          let b : (1 ≤ place_in places g) × (place_in places g ≤ greatest places) = place_range g og in
          and_from (not (place (blocks_of P places) f == place (blocks_of P places) g) || P.fusible f g) (not (dep (op_at list f) (op_at list g)) || nat_le (place (blocks_of P places) f) (place (blocks_of P places) g))
          (or_cases (not (place_in places f == place_in places g)) (P.fusible f g) (at_pair P (λ f g. not (place_in places f == place_in places g) || P.fusible f g) together f g pair)
          (λ no. or_left (not (place (blocks_of P places) f == place (blocks_of P places) g)) (P.fusible f g)
          (ap not (ne_eqb (place (blocks_of P places) f) (place (blocks_of P places) g) (λ e. eqb-false _ _ (not-true _ no) (omega (arith, place_blocks f of, place_blocks g og, e, a.0, b.0))))))
          (λ yes. or_right (not (place (blocks_of P places) f == place (blocks_of P places) g)) (P.fusible f g) yes))
          (or_cases (not (P.dep f g)) (nat_le (place_in places f) (place_in places g)) (at_pair P (λ f g. not (P.dep f g) || nat_le (place_in places f) (place_in places g)) forward f g pair)
          (λ no. or_left (not (dep (op_at list f) (op_at list g))) (nat_le (place (blocks_of P places) f) (place (blocks_of P places) g))
          (subst (λ t. not (t && dep (op_at list f) (op_at list g)) ≡ true) (lt-ltb f g (omega arith)) no))
          (λ yes. or_right (not (dep (op_at list f) (op_at list g))) (nat_le (place (blocks_of P places) f) (place (blocks_of P places) g))
          (le-leb (place (blocks_of P places) f) (place (blocks_of P places) g) (omega (arith, place_blocks f of, place_blocks g og, leb-true (place_in places f) (place_in places g) yes)))))
