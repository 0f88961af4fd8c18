-- What a loop over a list, or over the numbers from 1 on, knows.
use Rattle.std.proofs.Common.{◌≡◌, ℕ, zero, suc, ◌+◌, ◌-◌, ◌<◌, ◌≤◌, List, [], ◌∷◌, ◌++◌, Bool, true, false, not, ◌||◌, ◌&&◌, Some, length, take, drop, get_or, refl, ap, ap₂, sym, subst, ◌∙◌, arith}
use Rattle.std.specs.Prelude.{◌==◌, slice_get}
use Rattle.std.specs.List.{list_all, list_any, range_with_len}
use Rattle.std.proofs.lemmas.Bool.{and_parts, false≢true}
use Rattle.std.proofs.lemmas.List.{take_all, take_more, drop_more}
use Rattle.std.proofs.lemmas.List.Folds.{list_all-append, list_any-append}
use Rattle.arr_ops.specs.Formed.{all_pairs}

-- ---- different numbers

take_whole : (xs : List ℕ) → take (length xs) xs ≡ xs
take_whole [] = refl
take_whole (x ∷ xs) = ap (λ ys. x ∷ ys) (take_whole xs)

pub pairs_step : (xs : List ℕ) (r s : Bool) → 1 ≤ length xs → r ≡ list_all (λ g. not (get_or xs 0 0 == g)) (take (length xs - 1) (drop 1 xs)) → r ≡ true → s ≡ all_pairs (λ f g. not (f == g)) (take (length xs - 1) (drop 1 xs)) → s ≡ all_pairs (λ f g. not (f == g)) xs
pairs_step [] r s l h e k = absurd (omega arith)
pairs_step (x ∷ xs) r s l h e k =
    let n : suc (length xs) - 1 ≡ length xs = omega arith in
    let all : take (suc (length xs) - 1) xs ≡ xs = rw n (take_whole xs) in
    let k' : s ≡ all_pairs (λ f g. not (f == g)) xs = k ∙ ap (all_pairs (λ f g. not (f == g))) all in
    let h' : list_all (λ g. not (x == g)) xs ≡ true = ap (list_all (λ g. not (x == g))) (sym all) ∙ (sym h ∙ e) in
    k' ∙ ap (λ b. b && all_pairs (λ f g. not (f == g)) xs) (sym h')

-- ---- numbers from 1 on

at_front : (a : ℕ) (P : ℕ → Type 0) → P (a + 0) → P a
at_front a P p = let same : a + 0 ≡ a = omega arith in subst P same p

at_next : (a k : ℕ) (P : ℕ → Type 0) → P (a + suc k) → P ((a + 1) + k)
at_next a k P p = let same : a + suc k ≡ (a + 1) + k = omega arith in subst P same p

all_from : (G : ℕ → Bool) (a k : ℕ) → list_all G (range_with_len a k) ≡ true → G (a + k) ≡ true → list_all G (range_with_len a (suc k)) ≡ true
all_from G a zero all here = ap (λ b. b && true) (at_front a (λ n. G n ≡ true) here)
all_from G a (suc k) all here =
    let p = and_parts (G a) (list_all G (range_with_len (a + 1) k)) all in
    ap₂ (λ x y. x && y) p.0 (all_from G (a + 1) k p.1 (at_next a k (λ n. G n ≡ true) here))

fails_from : (G : ℕ → Bool) (a n k : ℕ) → k < n → G (a + k) ≡ false → list_all G (range_with_len a n) ≡ false
fails_from G a zero k l e = absurd (omega arith)
fails_from G a (suc n) zero l e = ap (λ b. b && list_all G (range_with_len (a + 1) n)) (at_front a (λ m. G m ≡ false) e)
fails_from G a (suc n) (suc k) l e = ap (λ b. G a && b) (fails_from G (a + 1) n k (omega arith) (at_next a k (λ m. G m ≡ false) e)) ∙ and_false (G a)
  where
    and_false : (b : Bool) → (b && false) ≡ false
    and_false true = refl
    and_false false = refl

turn_one : (k : ℕ) (P : ℕ → Type 0) → P (k + 1) → P (1 + k)
turn_one k P p = let same : k + 1 ≡ 1 + k = omega arith in subst P same p

pub numbers_more : (G : ℕ → Bool) (k : ℕ) → list_all G (range_with_len 1 k) ≡ true → G (k + 1) ≡ true → list_all G (range_with_len 1 (k + 1)) ≡ true
numbers_more G k all here =
    let next : suc k ≡ k + 1 = omega arith in
    subst (λ n. list_all G (range_with_len 1 n) ≡ true) next (all_from G 1 k all (turn_one k (λ n. G n ≡ true) here))

pub numbers_fail : (G : ℕ → Bool) (n k : ℕ) → k < n → G (k + 1) ≡ false → list_all G (range_with_len 1 n) ≡ false
numbers_fail G n k l e = fails_from G 1 n k l (turn_one k (λ m. G m ≡ false) e)

all_prefix : (G : ℕ → Bool) (a n k : ℕ) → n ≤ k → list_all G (range_with_len a k) ≡ true → list_all G (range_with_len a n) ≡ true
all_prefix G a zero k l all = refl
all_prefix G a (suc n) zero l all = absurd (omega arith)
all_prefix G a (suc n) (suc k) l all =
    let p = and_parts (G a) (list_all G (range_with_len (a + 1) k)) all in
    ap₂ (λ x y. x && y) p.0 (all_prefix G (a + 1) n k (omega arith) p.1)

pub numbers_done : (G : ℕ → Bool) (n k : ℕ) → n ≤ k → list_all G (range_with_len 1 k) ≡ true → list_all G (range_with_len 1 n) ≡ true
numbers_done G n k l all = all_prefix G 1 n k l all

neither : (p q : Bool) → (p || q) ≡ false → (p ≡ false) × (q ≡ false)
neither true q e = absurd (false≢true (sym e))
neither false q e = (refl, e)

none_prefix : (G : ℕ → Bool) (a n k : ℕ) → n ≤ k → list_any G (range_with_len a k) ≡ false → list_any G (range_with_len a n) ≡ false
none_prefix G a zero k l none = refl
none_prefix G a (suc n) zero l none = absurd (omega arith)
none_prefix G a (suc n) (suc k) l none =
    let p = neither (G a) (list_any G (range_with_len (a + 1) k)) none in
    ap₂ (λ x y. x || y) p.0 (none_prefix G (a + 1) n k (omega arith) p.1)

pub none_done : (G : ℕ → Bool) (n k : ℕ) → n ≤ k → list_any G (range_with_len 1 k) ≡ false → list_any G (range_with_len 1 n) ≡ false
none_done G n k l none = none_prefix G 1 n k l none

any_from : (G : ℕ → Bool) (a k : ℕ) → list_any G (range_with_len a k) ≡ false → G (a + k) ≡ false → list_any G (range_with_len a (suc k)) ≡ false
any_from G a zero none here = ap (λ b. b || false) (at_front a (λ n. G n ≡ false) here)
any_from G a (suc k) none here =
    let p = neither (G a) (list_any G (range_with_len (a + 1) k)) none in
    ap₂ (λ x y. x || y) p.0 (any_from G (a + 1) k p.1 (at_next a k (λ n. G n ≡ false) here))

found_from : (G : ℕ → Bool) (a n k : ℕ) → k < n → G (a + k) ≡ true → list_any G (range_with_len a n) ≡ true
found_from G a zero k l e = absurd (omega arith)
found_from G a (suc n) zero l e = ap (λ b. b || list_any G (range_with_len (a + 1) n)) (at_front a (λ m. G m ≡ true) e)
found_from G a (suc n) (suc k) l e = ap (λ b. G a || b) (found_from G (a + 1) n k (omega arith) (at_next a k (λ m. G m ≡ true) e)) ∙ or_true (G a)
  where
    or_true : (b : Bool) → (b || true) ≡ true
    or_true true = refl
    or_true false = refl

pub none_more : (G : ℕ → Bool) (k : ℕ) → list_any G (range_with_len 1 k) ≡ false → G (k + 1) ≡ false → list_any G (range_with_len 1 (k + 1)) ≡ false
none_more G k none here =
    let next : suc k ≡ k + 1 = omega arith in
    subst (λ n. list_any G (range_with_len 1 n) ≡ false) next (any_from G 1 k none (turn_one k (λ n. G n ≡ false) here))

pub numbers_found : (G : ℕ → Bool) (n k : ℕ) → k < n → G (k + 1) ≡ true → list_any G (range_with_len 1 n) ≡ true
numbers_found G n k l e = found_from G 1 n k l (turn_one k (λ m. G m ≡ true) e)

-- ---- a list by its places

there : {X : Type 0} (xs : List X) (i : ℕ) (x : X) → slice_get xs i ≡ Some x → (i < length xs) × (get_or xs i x ≡ x)
there [] i x e = absurd (cc)
there (y ∷ xs) zero x e = let same : y ≡ x = cc in (omega arith, same)
there (y ∷ xs) (suc i) x e = let r = there xs i x e in (omega (arith, r.0), r.1)

pub all_more : {X : Type 0} (p : X → Bool) (xs : List X) (i : ℕ) (x : X) → slice_get xs i ≡ Some x → list_all p (take i xs) ≡ true → p x ≡ true → list_all p (take (i + 1) xs) ≡ true
all_more p xs i x at all here =
    let t = there xs i x at in
    ap (list_all p) (take_more xs i x t.0) ∙ list_all-append p (take i xs) (get_or xs i x ∷ []) ∙ ap₂ (λ a b. a && (b && true)) all (ap p t.1 ∙ here)

pub all_fails : {X : Type 0} (p : X → Bool) (xs : List X) (i : ℕ) (x : X) → slice_get xs i ≡ Some x → p x ≡ false → list_all p xs ≡ false
all_fails p [] i x at e = absurd (cc)
all_fails p (y ∷ xs) zero x at e = let same : y ≡ x = cc in ap (λ z. p z && list_all p xs) same ∙ ap (λ b. b && list_all p xs) e
all_fails p (y ∷ xs) (suc i) x at e = ap (λ b. p y && b) (all_fails p xs i x at e) ∙ and_false (p y)
  where
    and_false : (b : Bool) → (b && false) ≡ false
    and_false true = refl
    and_false false = refl

pub all_done : {X : Type 0} (p : X → Bool) (xs : List X) (i : ℕ) → length xs ≤ i → list_all p (take i xs) ≡ true → list_all p xs ≡ true
all_done p xs i end all = ap (list_all p) (sym (take_all i xs end)) ∙ all

-- the rest from a place on
from_here : {X : Type 0} (xs : List X) (i : ℕ) (x : X) → slice_get xs i ≡ Some x → drop i xs ≡ x ∷ drop (i + 1) xs
from_here xs i x at = let t = there xs i x at in drop_more xs i x t.0 ∙ ap (λ y. y ∷ drop (i + 1) xs) t.1

drop_end : {X : Type 0} (xs : List X) (i : ℕ) → length xs ≤ i → drop i xs ≡ []
drop_end [] zero l = refl
drop_end [] (suc i) l = refl
drop_end (x ∷ xs) zero l = absurd (omega arith)
drop_end (x ∷ xs) (suc i) l = drop_end xs i (omega arith)

pub rest_more : {X : Type 0} (p : X → Bool) (xs : List X) (i : ℕ) (x : X) (whole : Bool) → slice_get xs i ≡ Some x → list_all p (drop i xs) ≡ whole → p x ≡ true → list_all p (drop (i + 1) xs) ≡ whole
rest_more p xs i x whole at all here = sym (ap (list_all p) (from_here xs i x at) ∙ ap (λ b. b && list_all p (drop (i + 1) xs)) here) ∙ all

pub rest_fails : {X : Type 0} (p : X → Bool) (xs : List X) (i : ℕ) (x : X) (whole : Bool) → slice_get xs i ≡ Some x → list_all p (drop i xs) ≡ whole → p x ≡ false → false ≡ whole
rest_fails p xs i x whole at all here = sym (ap (list_all p) (from_here xs i x at) ∙ ap (λ b. b && list_all p (drop (i + 1) xs)) here) ∙ all

pub rest_done : {X : Type 0} (p : X → Bool) (xs : List X) (i : ℕ) (whole : Bool) → length xs ≤ i → list_all p (drop i xs) ≡ whole → true ≡ whole
rest_done p xs i whole end all = sym (ap (list_all p) (drop_end xs i end)) ∙ all

pub pairs_more : {X : Type 0} (t : X → X → Bool) (xs : List X) (i : ℕ) (x : X) (whole : Bool) → slice_get xs i ≡ Some x → all_pairs t (drop i xs) ≡ whole → list_all (t x) (drop (i + 1) xs) ≡ true → all_pairs t (drop (i + 1) xs) ≡ whole
pairs_more t xs i x whole at all here = sym (ap (all_pairs t) (from_here xs i x at) ∙ ap (λ b. b && all_pairs t (drop (i + 1) xs)) here) ∙ all

pub pairs_fail : {X : Type 0} (t : X → X → Bool) (xs : List X) (i : ℕ) (x : X) (whole : Bool) → slice_get xs i ≡ Some x → all_pairs t (drop i xs) ≡ whole → list_all (t x) (drop (i + 1) xs) ≡ false → false ≡ whole
pairs_fail t xs i x whole at all here = sym (ap (all_pairs t) (from_here xs i x at) ∙ ap (λ b. b && all_pairs t (drop (i + 1) xs)) here) ∙ all

pub pairs_done : {X : Type 0} (t : X → X → Bool) (xs : List X) (i : ℕ) (whole : Bool) → length xs ≤ i → all_pairs t (drop i xs) ≡ whole → true ≡ whole
pairs_done t xs i whole end all = sym (ap (all_pairs t) (drop_end xs i end)) ∙ all

pub all_there : {X : Type 0} (p : X → Bool) (xs : List X) (i : ℕ) (x : X) → slice_get xs i ≡ Some x → list_all p xs ≡ true → p x ≡ true
all_there p [] i x at all = absurd (cc)
all_there p (y ∷ xs) zero x at all = let same : y ≡ x = cc in ap p (sym same) ∙ (and_parts (p y) (list_all p xs) all).0
all_there p (y ∷ xs) (suc i) x at all = all_there p xs i x at (and_parts (p y) (list_all p xs) all).1

all_both : {X : Type 0} (a b : X → Bool) (xs : List X) → list_all (λ x. a x && b x) xs ≡ (list_all a xs && list_all b xs)
all_both a b [] = refl
all_both a b (x ∷ xs) = ap (λ c. (a x && b x) && c) (all_both a b xs) ∙ regroup (a x) (b x) (list_all a xs) (list_all b xs)
  where
    regroup : (p q r s : Bool) → ((p && q) && (r && s)) ≡ ((p && r) && (q && s))
    regroup true true r s = refl
    regroup true false true s = refl
    regroup true false false s = refl
    regroup false q r s = refl

pub pairs_both : {X : Type 0} (a b : X → X → Bool) (xs : List X) → all_pairs (λ x y. a x y && b x y) xs ≡ (all_pairs a xs && all_pairs b xs)
pairs_both a b [] = refl
pairs_both a b (x ∷ xs) = ap₂ (λ c d. c && d) (all_both (a x) (b x) xs) (pairs_both a b xs) ∙ regroup (list_all (a x) xs) (list_all (b x) xs) (all_pairs a xs) (all_pairs b xs)
  where
    regroup : (p q r s : Bool) → ((p && q) && (r && s)) ≡ ((p && r) && (q && s))
    regroup true true r s = refl
    regroup true false true s = refl
    regroup true false false s = refl
    regroup false q r s = refl

pub group_when : (a b p q r s x : Bool) → a ≡ true → b ≡ true → s ≡ (p && q) → s ≡ true → x ≡ r → x ≡ ((a && b) && ((p && q) && r))
group_when a b p q r s x ea eb es et ex = ex ∙ sym (ap₂ (λ u v. u && (v && r)) (ap₂ (λ u v. u && v) ea eb) (sym es ∙ et))

pub group_unless : (a b p q r s : Bool) → a ≡ true → b ≡ true → s ≡ (p && q) → s ≡ false → s ≡ ((a && b) && ((p && q) && r))
group_unless a b p q r s ea eb es et = et ∙ sym (ap₂ (λ u v. u && (v && r)) (ap₂ (λ u v. u && v) ea eb) (sym es ∙ et))

pub any_there : {X : Type 0} (p : X → Bool) (xs : List X) (i : ℕ) (x : X) → slice_get xs i ≡ Some x → p x ≡ true → list_any p xs ≡ true
any_there p [] i x at e = absurd (cc)
any_there p (y ∷ xs) zero x at e = let same : y ≡ x = cc in ap (λ z. p z || list_any p xs) same ∙ ap (λ b. b || list_any p xs) e
any_there p (y ∷ xs) (suc i) x at e = ap (λ b. p y || b) (any_there p xs i x at e) ∙ or_true (p y)
  where
    or_true : (b : Bool) → (b || true) ≡ true
    or_true true = refl
    or_true false = refl

pub any_more : {X : Type 0} (p : X → Bool) (xs : List X) (i : ℕ) (x : X) → slice_get xs i ≡ Some x → list_any p (take i xs) ≡ false → p x ≡ false → list_any p (take (i + 1) xs) ≡ false
any_more p xs i x at none here =
    let t = there xs i x at in
    ap (list_any p) (take_more xs i x t.0) ∙ list_any-append p (take i xs) (get_or xs i x ∷ []) ∙ ap₂ (λ a b. a || (b || false)) none (ap p t.1 ∙ here)

pub taken_more : {X : Type 0} (xs : List X) (i : ℕ) (x : X) → slice_get xs i ≡ Some x → take (i + 1) xs ≡ take i xs ++ x ∷ []
taken_more xs i x at = let t = there xs i x at in take_more xs i x t.0 ∙ ap (λ y. take i xs ++ y ∷ []) t.1

pub and_false : (b : Bool) → (b && false) ≡ false
and_false true = refl
and_false false = refl
