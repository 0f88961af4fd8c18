-- Stretches of a numbered list, and what linear makes of them.
use Rattle.std.proofs.Common.{◌≡◌, ℕ, zero, suc, ◌+◌, ◌-◌, ◌<◌, ◌≤◌, List, [], ◌∷◌, ◌++◌, Bool, true, false, ◌&&◌, length, map, take, drop, get_or, refl, ap, ap₂, sym, ◌∙◌, arith}
use Rattle.std.specs.List.{list_all, range_with_len, enumerate_from}
use Rattle.std.proofs.lemmas.Bool.{lt-ltb}
use Rattle.std.proofs.lemmas.List.{take_more, append_assoc}
use Rattle.std.proofs.lemmas.List.Folds.{list_all-append}
use Rattle.std.proofs.Math.Seq.{drop-cons}
use Rattle.arr_ops.specs.declared.op.Op.{Op}
use Rattle.arr_ops.specs.Ops.{fusible}
use Rattle.arr_ops.specs.Plans.{ascends, numbered}
use Rattle.arr_deps.specs.Graph.{nothing, op_in}
use Rattle.arr_heur.specs.Planners.{linear_from, linear_plan, numbers}
use Rattle.arr_heur.specs.Segments.{segment}

abbrev pub none : ℕ × Op
none = (0, nothing)

-- ---- places

at_drop : {X : Type 0} (xs : List X) (s k : ℕ) (d : X) → get_or (drop s xs) k d ≡ get_or xs (s + k) d
at_drop xs zero k d = ap (λ n. get_or xs n d) (let e : k ≡ 0 + k = omega arith in e)
at_drop [] (suc s) k d = refl
at_drop (x ∷ xs) (suc s) k d = at_drop xs s k d ∙ ap (λ n. get_or (x ∷ xs) n d) (let e : suc (s + k) ≡ suc s + k = omega arith in e)

long_drop : {X : Type 0} (xs : List X) (s : ℕ) → length (drop s xs) ≡ length xs - s
long_drop xs zero = omega arith
long_drop [] (suc s) = omega arith
long_drop (x ∷ xs) (suc s) = long_drop xs s ∙ (let e : length xs - s ≡ suc (length xs) - suc s = omega arith in e)

long_numbered : (k : ℕ) (list : List Op) → length (enumerate_from k list) ≡ length list
long_numbered k [] = refl
long_numbered k (op ∷ list) = ap suc (long_numbered (k + 1) list)

pub numbered_at : (k : ℕ) (list : List Op) (i : ℕ) → i < length list → get_or (enumerate_from k list) i none ≡ (k + i, op_in list i)
numbered_at k [] i l = absurd (omega arith)
numbered_at k (op ∷ list) zero l = ap (λ n. (n, op)) (let e : k ≡ k + 0 = omega arith in e)
numbered_at k (op ∷ list) (suc i) l = numbered_at (k + 1) list i (omega arith) ∙ ap (λ n. (n, op_in list i)) (let e : k + 1 + i ≡ k + suc i = omega arith in e)

-- one more
pub segment_more : (list : List Op) (s i : ℕ) → s ≤ i → i < length list → segment (numbered list) s (i + 1) ≡ segment (numbered list) s i ++ (i + 1, op_in list i) ∷ []
segment_more list s i o l =
    let xs : List (ℕ × Op) = numbered list in
    let long : length (drop s xs) ≡ length xs - s = long_drop xs s in
    let same : length xs ≡ length list = long_numbered 1 list in
    ap (λ n. take n (drop s xs)) (let e : i + 1 - s ≡ (i - s) + 1 = omega arith in e)
    ∙ take_more (drop s xs) (i - s) none (omega arith)
    ∙ ap (λ x. segment xs s i ++ x ∷ [])
    (at_drop xs s (i - s) none ∙ ap (λ n. get_or xs n none) (let e : s + (i - s) ≡ i = omega arith in e) ∙ numbered_at 1 list i l ∙ ap (λ n. (n, op_in list i)) (let e : 1 + i ≡ i + 1 = omega arith in e))

pub segment_none : (xs : List (ℕ × Op)) (s : ℕ) → segment xs s s ≡ []
segment_none xs s = ap (λ n. take n (drop s xs)) (let e : s - s ≡ 0 = omega arith in e) ∙ nothing_taken (drop s xs)
  where
    nothing_taken : (ys : List (ℕ × Op)) → take 0 ys ≡ []
    nothing_taken ys = refl

-- ---- all of a stretch

list_all_end : (p : ℕ × Op → Bool) (ys : List (ℕ × Op)) (y : ℕ × Op) → list_all p (ys ++ y ∷ []) ≡ (list_all p ys && p y)
list_all_end p ys y = list_all-append p ys (y ∷ []) ∙ ap (λ b. list_all p ys && b) (and_true (p y))
  where
    and_true : (b : Bool) → (b && true) ≡ b
    and_true true = refl
    and_true false = refl

pub all_more : (p : ℕ × Op → Bool) (list : List Op) (s i : ℕ) → s ≤ i → i < length list → list_all p (segment (numbered list) s i) ≡ true → p (i + 1, op_in list i) ≡ true
    → list_all p (segment (numbered list) s (i + 1)) ≡ true
all_more p list s i o l h k = ap (list_all p) (segment_more list s i o l) ∙ list_all_end p (segment (numbered list) s i) (i + 1, op_in list i) ∙ ap₂ (λ a b. a && b) h k

-- where one fails, all up to a later place do not pass
pub all_fails : (p : ℕ × Op → Bool) (list : List Op) (s i d : ℕ) → s ≤ i → i + d < length list → p (i + 1, op_in list i) ≡ false → list_all p (segment (numbered list) s (i + 1 + d)) ≡ false
all_fails p list s i zero o l k =
    ap (λ n. list_all p (segment (numbered list) s n)) (let e : i + 1 + 0 ≡ i + 1 = omega arith in e)
    ∙ ap (list_all p) (segment_more list s i o (omega arith)) ∙ list_all_end p (segment (numbered list) s i) (i + 1, op_in list i)
    ∙ ap (λ b. list_all p (segment (numbered list) s i) && b) k ∙ and_false (list_all p (segment (numbered list) s i))
  where
    and_false : (b : Bool) → (b && false) ≡ false
    and_false true = refl
    and_false false = refl
all_fails p list s i (suc d) o l k =
    ap (λ n. list_all p (segment (numbered list) s n)) (let e : i + 1 + suc d ≡ (i + 1 + d) + 1 = omega arith in e)
    ∙ ap (list_all p) (segment_more list s (i + 1 + d) (omega arith) (omega arith)) ∙ list_all_end p (segment (numbered list) s (i + 1 + d)) (i + 1 + d + 1, op_in list (i + 1 + d))
    ∙ ap (λ b. b && p (i + 1 + d + 1, op_in list (i + 1 + d))) (all_fails p list s i d o (omega arith) k)

-- ---- blocks

pub range_more : (a n : ℕ) → range_with_len a (n + 1) ≡ range_with_len a n ++ (a + n) ∷ []
range_more a n = ap (range_with_len a) (let e : n + 1 ≡ suc n = omega arith in e) ∙ last a n
  where
    last : (a n : ℕ) → range_with_len a (suc n) ≡ range_with_len a n ++ (a + n) ∷ []
    last a zero = ap (λ k. k ∷ []) (let e : a ≡ a + 0 = omega arith in e)
    last a (suc n) = ap (λ r. a ∷ r) (last (a + 1) n ∙ ap (λ k. range_with_len (a + 1) n ++ k ∷ []) (let e : a + 1 + n ≡ a + suc n = omega arith in e))

pub range_ascends : (a n : ℕ) → ascends (range_with_len a n) ≡ true
range_ascends a zero = refl
range_ascends a (suc zero) = refl
range_ascends a (suc (suc n)) = ap₂ (λ s t. s && t) (lt-ltb a (a + 1) (omega arith)) (range_ascends (a + 1) (suc n))

-- the numbers of a stretch
pub segment_numbers : (list : List Op) (s d : ℕ) → s + d ≤ length list → numbers (segment (numbered list) s (s + d)) ≡ range_with_len (s + 1) (s + d - s)
segment_numbers list s zero h =
    ap (λ n. numbers (segment (numbered list) s n)) (let e : s + 0 ≡ s = omega arith in e) ∙ ap numbers (segment_none (numbered list) s)
    ∙ sym (ap (range_with_len (s + 1)) (let e : s + 0 - s ≡ 0 = omega arith in e))
segment_numbers list s (suc d) h =
    let more : s + suc d ≡ (s + d) + 1 = omega arith in
    ap (λ n. numbers (segment (numbered list) s n)) more
    ∙ ap numbers (segment_more list s (s + d) (omega arith) (omega arith))
    ∙ numbers_end (segment (numbered list) s (s + d)) (s + d + 1, op_in list (s + d))
    ∙ ap₂ (λ ns k. ns ++ k ∷ []) (segment_numbers list s d (omega arith) ∙ ap (range_with_len (s + 1)) (let e : s + d - s ≡ d = omega arith in e)) (let e : s + d + 1 ≡ s + 1 + d = omega arith in e)
    ∙ sym (range_more (s + 1) d) ∙ ap (range_with_len (s + 1)) (let e : d + 1 ≡ s + suc d - s = omega arith in e)
  where
    numbers_end : (ys : List (ℕ × Op)) (y : ℕ × Op) → numbers (ys ++ y ∷ []) ≡ numbers ys ++ y.0 ∷ []
    numbers_end [] y = refl
    numbers_end (z ∷ ys) y = ap (λ r. z.0 ∷ r) (numbers_end ys y)

pub block_numbers : (list : List Op) (s i : ℕ) → s ≤ i → i ≤ length list → range_with_len (s + 1) (i - s) ≡ numbers (segment (numbered list) s i)
block_numbers list s i o l =
    let same : s + (i - s) ≡ i = omega arith in
    sym (ap (λ n. numbers (segment (numbered list) s n)) (sym same) ∙ segment_numbers list s (i - s) (omega arith) ∙ ap (λ n. range_with_len (s + 1) (n - s)) same)

-- ---- linear, a place further

pub drop_at : (list : List Op) (i : ℕ) → i < length list → drop i (numbered list) ≡ (i + 1, op_in list i) ∷ drop (i + 1) (numbered list)
drop_at list i l =
    let same : length (numbered list) ≡ length list = long_numbered 1 list in
    drop-cons (numbered list) i none (omega arith)
    ∙ ap₂ (λ x n. x ∷ drop n (numbered list)) (numbered_at 1 list i l ∙ ap (λ n. (n, op_in list i)) (let e : 1 + i ≡ i + 1 = omega arith in e)) (let e : suc i ≡ i + 1 = omega arith in e)

-- whether the operation at a place may share a block with one before it
abbrev pub fits_at : List Op → ℕ → ℕ × Op → Bool
fits_at list i x = fusible x.1 (op_in list i)

pub linear_joins : (list : List Op) (s i : ℕ) → s ≤ i → i < length list → list_all (fits_at list i) (segment (numbered list) s i) ≡ true
    → linear_from (segment (numbered list) s i) (drop i (numbered list)) ≡ linear_from (segment (numbered list) s (i + 1)) (drop (i + 1) (numbered list))
linear_joins list s i o l e =
    let xs : List (ℕ × Op) = numbered list in
    let x : ℕ × Op = (i + 1, op_in list i) in
    ap (linear_from (segment xs s i)) (drop_at list i l)
    ∙ ap (λ b. elim b as (λ _. List (List ℕ)) [ true ↦ linear_from (segment xs s i ++ x ∷ []) (drop (i + 1) xs) | false ↦ numbers (segment xs s i) ∷ linear_from (x ∷ []) (drop (i + 1) xs) ]) e
    ∙ ap (λ ys. linear_from ys (drop (i + 1) xs)) (sym (segment_more list s i o l))

pub linear_opens : (list : List Op) (s i : ℕ) → s ≤ i → i < length list → list_all (fits_at list i) (segment (numbered list) s i) ≡ false
    → linear_from (segment (numbered list) s i) (drop i (numbered list)) ≡ range_with_len (s + 1) (i - s) ∷ linear_from (segment (numbered list) i (i + 1)) (drop (i + 1) (numbered list))
linear_opens list s i o l e =
    let xs : List (ℕ × Op) = numbered list in
    let x : ℕ × Op = (i + 1, op_in list i) in
    ap (linear_from (segment xs s i)) (drop_at list i l)
    ∙ ap (λ b. elim b as (λ _. List (List ℕ)) [ true ↦ linear_from (segment xs s i ++ x ∷ []) (drop (i + 1) xs) | false ↦ numbers (segment xs s i) ∷ linear_from (x ∷ []) (drop (i + 1) xs) ]) e
    ∙ ap₂ (λ ns ys. ns ∷ linear_from ys (drop (i + 1) xs)) (sym (block_numbers list s i o (omega arith)))
    (sym (segment_more list i i (omega arith) l ∙ ap (λ ys. ys ++ x ∷ []) (segment_none xs i)))

-- ---- the loop

-- the blocks made, and what linear makes of the last one and the rest, are the plan
pub record Made (list : List Op) (s i : ℕ) (blocks : List (List ℕ)) : Type 0 where
  pub before : s < i
  pub inside : i ≤ length list
  pub ascending : list_all ascends blocks ≡ true
  pub whole : blocks ++ linear_from (segment (numbered list) s i) (drop i (numbered list)) ≡ linear_plan list

pub made_first : (list : List Op) (blocks : List (List ℕ)) → 0 < length list → blocks ≡ [] → Made list 0 1 blocks
made_first [] blocks h e = absurd (omega arith)
made_first (op ∷ list) blocks h e = record {
  before = omega arith;
  inside = omega arith;
  ascending = ap (list_all ascends) e;
  whole = ap (λ bs. bs ++ linear_from (segment (numbered (op ∷ list)) 0 1) (drop 1 (numbered (op ∷ list)))) e;
}

pub made_joined : (list : List Op) (s i : ℕ) (blocks : List (List ℕ)) → i < length list → list_all (fits_at list i) (segment (numbered list) s i) ≡ true → Made list s i blocks → Made list s (i + 1) blocks
made_joined list s i blocks l e m =
    let b : s < i = m.before in
    record {
      before = omega arith;
      inside = omega arith;
      ascending = m.ascending;
      whole = ap (λ r. blocks ++ r) (sym (linear_joins list s i (omega arith) l e)) ∙ m.whole;
    }

ascending_more : (blocks : List (List ℕ)) (a n : ℕ) → list_all ascends blocks ≡ true → list_all ascends (blocks ++ range_with_len a n ∷ []) ≡ true
ascending_more blocks a n h = list_all-append ascends blocks (range_with_len a n ∷ []) ∙ ap₂ (λ s t. s && (t && true)) h (range_ascends a n)

pub made_opened : (list : List Op) (s i : ℕ) (blocks : List (List ℕ)) → i < length list → list_all (fits_at list i) (segment (numbered list) s i) ≡ false → Made list s i blocks
    → Made list i (i + 1) (blocks ++ range_with_len (s + 1) (i - s) ∷ [])
made_opened list s i blocks l e m =
    let b : s < i = m.before in
    record {
      before = omega arith;
      inside = omega arith;
      ascending = ascending_more blocks (s + 1) (i - s) m.ascending;
      whole = append_assoc blocks (range_with_len (s + 1) (i - s) ∷ []) (linear_from (segment (numbered list) i (i + 1)) (drop (i + 1) (numbered list)))
          ∙ ap (λ r. blocks ++ r) (sym (linear_opens list s i (omega arith) l e)) ∙ m.whole;
    }

pub record Done (list : List Op) (blocks : List (List ℕ)) : Type 0 where
  pub ascending : list_all ascends blocks ≡ true
  pub whole : blocks ≡ linear_plan list

pub made_all : (list : List Op) (s i : ℕ) (blocks : List (List ℕ)) → length list ≤ i → Made list s i blocks → Done list (blocks ++ range_with_len (s + 1) (i - s) ∷ [])
made_all list s i blocks h m =
    let b : s < i = m.before in
    let n : i ≤ length list = m.inside in
    record {
      ascending = ascending_more blocks (s + 1) (i - s) m.ascending;
      whole = ap (λ ns. blocks ++ ns ∷ []) (block_numbers list s i (omega arith) n)
          ∙ ap (λ ys. blocks ++ linear_from (segment (numbered list) s i) ys) (sym (none_left (numbered list) i (let e : length (numbered list) ≡ length list = long_numbered 1 list in omega arith))) ∙ m.whole;
    }
  where
    none_left : (xs : List (ℕ × Op)) (i : ℕ) → length xs ≤ i → drop i xs ≡ []
    none_left [] zero l = refl
    none_left [] (suc i) l = refl
    none_left (x ∷ xs) zero l = absurd (omega arith)
    none_left (x ∷ xs) (suc i) l = none_left xs i (omega arith)

pub items_end : {A B : Type 0} (f : A → B) (xs : List A) (x : A) → map f (xs ++ x ∷ []) ≡ map f xs ++ f x ∷ []
items_end f [] x = refl
items_end f (y ∷ xs) x = ap (λ r. f y ∷ r) (items_end f xs x)
