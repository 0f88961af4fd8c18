-- A run of places, one place more at a time.
use Rattle.std.proofs.Common.{◌≡◌, ◌≢◌, ℕ, suc, zero, ◌+◌, ◌-◌, ◌<◌, ◌≤◌, ℤ, pos, negsuc, ◌+ℤ◌, ◌≤ℤ◌, ◌<ℤ◌, List, [], ◌∷◌, ◌++◌, Bool, true, false, refl, ap, ap₂, sym, ◌∙◌, arith, map, length, get_or, set, take, drop, ◌&&◌, to_z, of_z, get_or-set_other, get_or-set_same}
use Rattle.std.proofs.lemmas.Bool.{and_parts, eqb-true, eqb-false, false≢true}
use Rattle.std.proofs.lemmas.Int.{ints}
use Rattle.std.proofs.lemmas.List.{take_more, length-take-le, get_or_default, get_or-drop, length-drop}
use Rattle.std.proofs.lemmas.List.FromFn.{map-range_with_len_more, length-map-range_with_len}
use Rattle.std.proofs.lemmas.List.Folds.{list_all-append}
use Rattle.std.specs.Int.{w32, w64}
use Rattle.std.specs.List.{list_all}
use Rattle.std.specs.Prelude.{◌==◌, Option, Some, None, IsSome}
use lib.IntN.{nat_abs}
use mir.Val.{SFits}
use Rattle.arr_num.specs.Numbers.{in_type}
use Rattle.arr_num.specs.declared.elem.Elem.{Elem}
use Rattle.arr_view.specs.Views.{to_place, is_place}
use Rattle.arr_view.proofs.Places.{place_low, place_high}
use Rattle.arr_ops.specs.Memory.{Cell, Slot, write}
use Rattle.arr_store.specs.Runs.{moved, run_place, run_places, IsOf, IsOfSlot}

-- ---- places

pub moved_on : (z s : ℤ) (i : ℕ) → moved z s (suc i) ≡ moved z s i +ℤ s
moved_on z s zero = refl
moved_on z s (suc i) = moved_on (z +ℤ s) s i

pub abs_place : (z : ℤ) → is_place z ≡ true → nat_abs z ≡ to_place z
abs_place (pos m) h = refl
abs_place (negsuc m) h = absurd (false≢true h)

summed : (x y : ℤ) → is_place x ≡ true → SFits w32 y → to_z w64 (of_z w64 (x +ℤ to_z w64 (of_z w64 (to_z w32 (of_z w32 y))))) ≡ x +ℤ y
summed x y h f = let a : pos 0 ≤ℤ x = place_low x h in let b : x <ℤ pos 1048576 = place_high x h in omega (arith, ints)

-- the place of the next number, as the code adds it up
pub step_place : (start : ℕ) (s place : ℤ) (i : ℕ) → SFits w32 s → place ≡ moved (pos start) s i → is_place (moved (pos start) s i) ≡ true
    → to_z w64 (of_z w64 (place +ℤ to_z w64 (of_z w64 (to_z w32 (of_z w32 s))))) ≡ moved (pos start) s (i + 1)
step_place start s place i small here inside =
    ap (λ x. to_z w64 (of_z w64 (x +ℤ to_z w64 (of_z w64 (to_z w32 (of_z w32 s)))))) here ∙ summed (moved (pos start) s i) s inside small ∙ sym (moved_on (pos start) s i)
    ∙ ap (moved (pos start) s) (let e : suc i ≡ i + 1 = omega arith in e)

-- ---- a list that gets the numbers of a run

pub item_more : {T : Type 0} (wanted : ℕ → T → T) (now : List T) (at i : ℕ) (x : T) → at + i < length now → ((k : ℕ) (d : T) → k < i → get_or now (at + k) d ≡ wanted k d)
    → ((d : T) → x ≡ wanted i d) → (k : ℕ) (d : T) → k < i + 1 → get_or (set now (at + i) x) (at + k) d ≡ wanted k d
item_more wanted now at i x l before here k d u =
    elim (k == i) as (λ t. (k == i) ≡ t → get_or (set now (at + i) x) (at + k) d ≡ wanted k d) [
      | true ↦ λ t. let e : k ≡ i = eqb-true k i t in ap (λ j. get_or (set now (at + i) x) (at + j) d) e ∙ get_or-set_same now (at + i) x d l ∙ here d ∙ ap (λ j. wanted j d) (sym e)
      | false ↦ λ t.
          let other : k ≢ i = eqb-false k i t in
          let ne : at + k ≢ at + i = λ e. other (omega arith) in
          get_or-set_other now (at + i) (at + k) x d ne ∙ before k d (omega arith)
    ] refl

pub item_before : {T : Type 0} (old now : List T) (at i : ℕ) (x : T) → ((k : ℕ) (d : T) → k < at → get_or now k d ≡ get_or old k d)
    → (k : ℕ) (d : T) → k < at → get_or (set now (at + i) x) k d ≡ get_or old k d
item_before old now at i x same k d u = let ne : k ≢ at + i = (λ e. let a : k < at = u in absurd (omega arith)) in get_or-set_other now (at + i) k x d ne ∙ same k d u

pub item_behind : {T : Type 0} (old now : List T) (at i : ℕ) (x : T) → ((k : ℕ) (d : T) → at + i ≤ k → get_or now k d ≡ get_or old k d)
    → (k : ℕ) (d : T) → at + (i + 1) ≤ k → get_or (set now (at + i) x) k d ≡ get_or old k d
item_behind old now at i x same k d u = let ne : k ≢ at + i = (λ e. absurd (omega arith)) in get_or-set_other now (at + i) k x d ne ∙ same k d (omega arith)

pub left_long : (at i : ℕ) (xs : List ℤ) → at + i < length xs → i < length (drop at xs)
left_long at i xs l = let e : length (drop at xs) ≡ length xs - at = length-drop at xs in omega arith

pub item_is : {T : Type 0} (xs : List T) (j k : ℕ) (x : T) → j ≡ k → k < length xs → x ≡ get_or xs j x → (d : T) → x ≡ get_or xs k d
item_is xs j k x e l h d = h ∙ ap (λ p. get_or xs p x) e ∙ get_or_default xs k x d l

-- ---- several numbers written at once

write_more : (es : List ℕ) (xs ns : List ℤ) (e : ℕ) (x : ℤ) → length es ≡ length xs → write (es ++ e ∷ []) (xs ++ x ∷ []) ns ≡ set (write es xs ns) e x
write_more [] [] ns e x l = refl
write_more [] (y ∷ xs) ns e x l = absurd (omega arith)
write_more (d ∷ es) [] ns e x l = absurd (omega arith)
write_more (d ∷ es) (y ∷ xs) ns e x l = write_more es xs (set ns d y) e x (omega arith)

pub run_more : (start : ℕ) (s : ℤ) (i : ℕ) (source ns : List ℤ) → i < length source
    → write (run_places start s (i + 1)) (take (i + 1) source) ns ≡ set (write (run_places start s i) (take i source) ns) (run_place start s i) (get_or source i (pos 0))
run_more start s i source ns l =
    ap₂ (λ es xs. write es xs ns) (map-range_with_len_more (run_place start s) 0 i i (let e : 0 + i ≡ i = omega arith in e)) (take_more source i (pos 0) l)
    ∙ write_more (run_places start s i) (take i source) ns (run_place start s i) (get_or source i (pos 0))
    (length-map-range_with_len (run_place start s) 0 i ∙ sym (length-take-le i source (let e : i ≤ length source = omega arith in e)))

pub typed_more : (t : Elem) (xs : List ℤ) (i : ℕ) → i < length xs → list_all (in_type t) (take i xs) ≡ true → in_type t (get_or xs i (pos 0)) ≡ true → list_all (in_type t) (take (i + 1) xs) ≡ true
typed_more t xs i l a b =
    ap (list_all (in_type t)) (take_more xs i (pos 0) l) ∙ list_all-append (in_type t) (take i xs) (get_or xs i (pos 0) ∷ []) ∙ ap₂ (λ x y. x && (y && true)) a b

-- a test that so many from the front pass is passed by each of them
pub typed_at : (test : ℤ → Bool) (xs : List ℤ) (n i : ℕ) → i < n → i < length xs → list_all test (take n xs) ≡ true → test (get_or xs i (pos 0)) ≡ true
typed_at test [] n i h l all = absurd (omega arith)
typed_at test (x ∷ xs) zero i h l all = absurd (omega arith)
typed_at test (x ∷ xs) (suc n) zero h l all = (and_parts (test x) _ all).0
typed_at test (x ∷ xs) (suc n) (suc i) h l all = typed_at test xs n i (omega arith) (omega arith) (and_parts (test x) _ all).1

pub next_typed : (t : Elem) (xs : List ℤ) (at n i : ℕ) → i < n → at + n ≤ length xs → list_all (in_type t) (take n (drop at xs)) ≡ true → in_type t (get_or xs (at + i) (pos 0)) ≡ true
next_typed t xs at n i h l all =
    ap (in_type t) (sym (get_or-drop at xs i (pos 0))) ∙ typed_at (in_type t) (drop at xs) n i h (left_long at i xs (omega arith)) all

-- ---- in a cell

pub get_pos : (xs : List ℕ) (i : ℕ) → get_or (map pos xs) i (pos 0) ≡ pos (get_or xs i 0)
get_pos [] i = refl
get_pos (x ∷ xs) zero = refl
get_pos (x ∷ xs) (suc i) = get_pos xs i

-- a list that was changed as a slice
pub taken_front : {T : Type 0} (xs ys : List T) (n : ℕ) → length xs ≡ n → take n (xs ++ ys) ≡ xs
taken_front [] ys n l = let e : n ≡ 0 = sym l in ap (λ k. take k ys) e
taken_front (x ∷ xs) ys zero l = absurd (omega arith)
taken_front (x ∷ xs) ys (suc n) l = ap (λ r. x ∷ r) (taken_front xs ys n (omega arith))

pub of_some : (t : Elem) (c : Option Cell) → IsOf t c → IsSome c
of_some t None h = absurd h
of_some t (Some c) h = refl

pub slot_some : (t : Elem) (s : Option Slot) → IsOfSlot t s → IsSome s
slot_some t None h = absurd h
slot_some t (Some s) h = refl
