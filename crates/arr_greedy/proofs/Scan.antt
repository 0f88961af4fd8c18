-- The scan for the next pair, step by step.
use Rattle.std.proofs.lemmas.List.{at_drop_more}
use Rattle.std.proofs.Common.{◌≡◌, length, get_or, drop, ℕ, ◌+◌, ◌≤◌, ◌<◌, List, [], ◌∷◌, ◌++◌, Bool, true, false, cond, ◌&&◌, refl, ap, sym, ◌∙◌, arith, Option, Some, None}
use Rattle.std.proofs.lemmas.Bool.{ltb-true, ltb-false, lt-ltb, le-ltb}
use Rattle.std.specs.Prelude.{nat_lt}
use Rattle.std.specs.List.{filter}
use Rattle.arr_heur.specs.Planners.{heaviest, pairs}
use Rattle.arr_greedy.specs.Fast.{better, best_after, saves_more, row_pairs}

-- the heaviest of a list is its first, bettered by the heaviest of the rest
heaviest_first : {X : Type 0} (w : X → ℕ) (x : X) (xs : List X) → heaviest w (x ∷ xs) ≡ better w (Some x) (heaviest w xs)
heaviest_first {X} w x xs =
    elim (heaviest w xs) as (λ o. elim o as (λ _. Option X) [ None ↦ Some x | Some y ↦ cond (nat_lt (w x) (w y)) (Some y) (Some x) ] ≡ better w (Some x) o) [
      | None ↦ refl
      | Some y ↦ refl
    ]

three : {X : Type 0} (w : X → ℕ) (x y z : X) (s t : Bool) → nat_lt (w x) (w y) ≡ s → nat_lt (w y) (w z) ≡ t
    → better w (cond s (Some y) (Some x)) (Some z) ≡ better w (Some x) (cond t (Some z) (Some y))
three w x y z true true e f =
    let a : w x < w y = ltb-true (w x) (w y) e in let b : w y < w z = ltb-true (w y) (w z) f in
    ap (λ t. cond t (Some z) (Some y)) f ∙ sym (ap (λ t. cond t (Some z) (Some x)) (lt-ltb (w x) (w z) (omega arith)))
three w x y z true false e f = ap (λ t. cond t (Some z) (Some y)) f ∙ sym (ap (λ t. cond t (Some y) (Some x)) e)
three w x y z false true e f = refl
three w x y z false false e f =
    let a : w y ≤ w x = ltb-false (w x) (w y) e in let b : w z ≤ w y = ltb-false (w y) (w z) f in
    ap (λ t. cond t (Some z) (Some x)) (le-ltb (w x) (w z) (omega arith)) ∙ sym (ap (λ t. cond t (Some y) (Some x)) e)

better_joins : {X : Type 0} (w : X → ℕ) (o p q : Option X) → better w (better w o p) q ≡ better w o (better w p q)
better_joins w None p q = refl
better_joins w (Some x) None q = refl
better_joins w (Some x) (Some y) None = none (nat_lt (w x) (w y))
  where
    none : (t : Bool) → better w (cond t (Some y) (Some x)) None ≡ cond t (Some y) (Some x)
    none true = refl
    none false = refl
better_joins w (Some x) (Some y) (Some z) = three w x y z (nat_lt (w x) (w y)) (nat_lt (w y) (w z)) refl refl

pub better_none : {X : Type 0} (w : X → ℕ) (o : Option X) → better w o None ≡ o
better_none w None = refl
better_none w (Some x) = refl

pub best_both : {X : Type 0} (w : X → ℕ) (test : X → Bool) (o : Option X) (xs ys : List X) → best_after w test o (xs ++ ys) ≡ best_after w test (best_after w test o xs) ys
best_both w test o [] ys = ap (λ k. better w k (heaviest w (filter test ys))) (sym (better_none w o))
best_both w test o (x ∷ xs) ys =
    elim (test x) as (λ t. better w o (heaviest w (cond t (x ∷ filter test (xs ++ ys)) (filter test (xs ++ ys)))) ≡ better w (better w o (heaviest w (cond t (x ∷ filter test xs) (filter test xs)))) (heaviest w (filter test ys))) [
      | true ↦
          ap (better w o) (heaviest_first w x (filter test (xs ++ ys)))
          ∙ sym (better_joins w o (Some x) (heaviest w (filter test (xs ++ ys))))
          ∙ best_both w test (better w o (Some x)) xs ys
          ∙ ap (λ k. better w k (heaviest w (filter test ys))) (better_joins w o (Some x) (heaviest w (filter test xs)) ∙ ap (better w o) (sym (heaviest_first w x (filter test xs))))
      | false ↦ best_both w test o xs ys
    ]

more_is : (saved : ℕ → ℕ → ℕ) (o : Option (ℕ × ℕ)) (x y : ℕ) → better (λ (p : ℕ × ℕ). saved p.0 p.1) o (Some (x, y)) ≡ cond (saves_more saved o x y) (Some (x, y)) o
more_is saved None x y = refl
more_is saved (Some p) x y = refl

pub best_step : (saved : ℕ → ℕ → ℕ) (test : ℕ × ℕ → Bool) (o : Option (ℕ × ℕ)) (x y : ℕ) (rest : List (ℕ × ℕ))
    → best_after (λ p. saved p.0 p.1) test o ((x, y) ∷ rest) ≡ best_after (λ p. saved p.0 p.1) test (cond (test (x, y) && saves_more saved o x y) (Some (x, y)) o) rest
best_step saved test o x y rest =
    elim (test (x, y)) as (λ t. better (λ p. saved p.0 p.1) o (heaviest (λ p. saved p.0 p.1) (cond t ((x, y) ∷ filter test rest) (filter test rest)))
    ≡ better (λ p. saved p.0 p.1) (cond (t && saves_more saved o x y) (Some (x, y)) o) (heaviest (λ p. saved p.0 p.1) (filter test rest))) [
      | true ↦
          ap (better (λ p. saved p.0 p.1) o) (heaviest_first (λ p. saved p.0 p.1) (x, y) (filter test rest))
          ∙ sym (better_joins (λ p. saved p.0 p.1) o (Some (x, y)) (heaviest (λ p. saved p.0 p.1) (filter test rest)))
          ∙ ap (λ k. better (λ p. saved p.0 p.1) k (heaviest (λ p. saved p.0 p.1) (filter test rest))) (more_is saved o x y)
      | false ↦ refl
    ]

pub row_more : (saved : ℕ → ℕ → ℕ) (test : ℕ × ℕ → Bool) (keys : List ℕ) (found next : Option (ℕ × ℕ)) (left place : ℕ) → place < length keys
    → next ≡ cond (test (left, get_or keys place 0) && saves_more saved found left (get_or keys place 0)) (Some (left, get_or keys place 0)) found
    → best_after (λ p. saved p.0 p.1) test next (row_pairs left (drop (place + 1) keys)) ≡ best_after (λ p. saved p.0 p.1) test found (row_pairs left (drop place keys))
row_more saved test keys found next left place l e =
    ap (λ o. best_after (λ p. saved p.0 p.1) test o (row_pairs left (drop (place + 1) keys))) e
    ∙ sym (best_step saved test found left (get_or keys place 0) (row_pairs left (drop (place + 1) keys)))
    ∙ sym (at_drop_more (λ ks. best_after (λ p. saved p.0 p.1) test found (row_pairs left ks)) keys place 0 l)

pub pairs_more : (saved : ℕ → ℕ → ℕ) (test : ℕ × ℕ → Bool) (keys : List ℕ) (found next : Option (ℕ × ℕ)) (place : ℕ) → place < length keys
    → next ≡ best_after (λ p. saved p.0 p.1) test found (row_pairs (get_or keys place 0) (drop (place + 1) keys))
    → best_after (λ p. saved p.0 p.1) test next (pairs (drop (place + 1) keys)) ≡ best_after (λ p. saved p.0 p.1) test found (pairs (drop place keys))
pairs_more saved test keys found next place l e =
    ap (λ o. best_after (λ p. saved p.0 p.1) test o (pairs (drop (place + 1) keys))) e
    ∙ sym (best_both (λ p. saved p.0 p.1) test found (row_pairs (get_or keys place 0) (drop (place + 1) keys)) (pairs (drop (place + 1) keys)))
    ∙ sym (at_drop_more (λ ks. best_after (λ p. saved p.0 p.1) test found (pairs ks)) keys place 0 l)
