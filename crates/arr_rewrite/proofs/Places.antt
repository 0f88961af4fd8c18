-- An application at a place of a list.
use Rattle.std.proofs.Common.{◌≡◌, ℕ, ◌+◌, ◌-◌, ◌<◌, zero, suc, List, [], ◌∷◌, ◌++◌, true, false, cond, not, refl, ap, ap₂, sym, ◌∙◌, arith, Some, length, take, drop, get_or, set}
use Rattle.std.proofs.lemmas.List.{take-append-drop, take-set, drop-set, take_more, drop_more, take_rest}
use Rattle.std.proofs.lemmas.List.Elements.{filter-append}
use Rattle.std.specs.Bool.{then_some}
use Rattle.std.specs.Option.{option_or}
use Rattle.std.specs.List.{list_all}
use Rattle.arr_view.specs.Views.{has}
use Rattle.arr_ops.specs.Ops.{named}
use Rattle.arr_ops.specs.declared.op.Op.{Op}
use Rattle.arr_ops.proofs.Tests.{both_left, both_right}
use Rattle.arr_rewrite.specs.Rules.{copies_itself}
use Rattle.arr_rewrite.specs.NextRewrite.{replacement, replaced, unused, unfreed, frees_base, rewrite_at, rewrite_from}
use Rattle.arr_rewrite.proofs.Agree.{unnamed_test}
use Rattle.arr_rewrite.proofs.Parts.{not_is}

-- ---- the element at a place

pub same_item : {X : Type 0} (xs : List X) (p : ℕ) (x y : X) → p < length xs → x ≡ get_or xs p x → y ≡ get_or xs p y → x ≡ y
same_item xs p x y h e f =
    let a : drop p xs ≡ get_or xs p x ∷ drop (p + 1) xs = drop_more xs p x h in
    let b : drop p xs ≡ get_or xs p y ∷ drop (p + 1) xs = drop_more xs p y h in
    let c : get_or xs p x ≡ get_or xs p y = cc in
    e ∙ c ∙ sym f

pub set_around : {X : Type 0} (xs : List X) (p : ℕ) (x : X) → p < length xs → set xs p x ≡ take p xs ++ x ∷ drop (p + 1) xs
set_around xs p x h = sym (take-append-drop p (set xs p x)) ∙ ap₂ (λ a b. a ++ b) (take-set xs p x) (drop-set xs p x h)

-- a list has an element at each place
pub record Item {X : Type 0} (xs : List X) (p : ℕ) : Type 0 where
  pub item : X
  pub is : item ≡ get_or xs p item
  pub rest : drop p xs ≡ item ∷ drop (p + 1) xs
  pub front : take (p + 1) xs ≡ take p xs ++ item ∷ []

pub item_at : {X : Type 0} (xs : List X) (p : ℕ) → p < length xs → Item xs p
item_at [] p h = absurd (omega arith)
item_at (x ∷ xs) p h =
    let y = get_or (x ∷ xs) p x in
    let same : y ≡ get_or (x ∷ xs) p y = known (x ∷ xs) p x in
    record { item = y; is = same; rest = drop_more (x ∷ xs) p x h; front = take_more (x ∷ xs) p x h }
  where
    known : {X : Type 0} (xs : List X) (p : ℕ) (d : X) → get_or xs p d ≡ get_or xs p (get_or xs p d)
    known [] p d = refl
    known (x ∷ xs) zero d = refl
    known (x ∷ xs) (suc p) d = known xs p d

-- what lies behind a place, where the slice is seen as a part of another list
pub behind : {X : Type 0} (xs ys : List X) (p : ℕ) → xs ≡ ys → take (length xs - (p + 1)) (drop (p + 1) xs) ≡ drop (p + 1) ys
behind xs ys p e = take_rest xs (p + 1) ∙ ap (drop (p + 1)) e

-- ---- an application at a place, or none

pub at_place : (list : List Op) (p : ℕ) (k : Item list p) → rewrite_from (take p list) (drop p list) ≡ option_or (rewrite_at (take p list) k.item (drop (p + 1) list)) (rewrite_from (take (p + 1) list) (drop (p + 1) list))
at_place list p k =
    ap (rewrite_from (take p list)) k.rest
    ∙ ap (λ front. option_or (rewrite_at (take p list) k.item (drop (p + 1) list)) (rewrite_from front (drop (p + 1) list))) (sym k.front)

pub replaced_place : (list next : List Op) (p : ℕ) (k : Item list p) → replaced (take p list) (drop (p + 1) list) (replacement (take p list) k.item (drop (p + 1) list)) ≡ Some next
    → rewrite_from (take p list) (drop p list) ≡ Some next
replaced_place list next p k e =
    at_place list p k
    ∙ ap (λ o. option_or (option_or o (option_or (then_some (copies_itself k.item) (take p list ++ drop (p + 1) list)) (unused (take p list) k.item (drop (p + 1) list) k.item.out))) (rewrite_from (take (p + 1) list) (drop (p + 1) list))) e

-- ---- what frees a base

front_kept : (b : ℕ) (front : List Op) → list_all (λ f. not (has (named f) b)) front ≡ true → unfreed front b ≡ front
front_kept b [] h = refl
front_kept b (f ∷ front) h =
    let free : frees_base f b ≡ false = (unnamed_test b f (not_is (has (named f) b) (both_left (not (has (named f) b)) _ h))).freed_not in
    ap (λ t. cond (not t) (f ∷ unfreed front b) (unfreed front b)) free ∙ ap (λ fs. f ∷ fs) (front_kept b front (both_right (not (has (named f) b)) _ h))

pub frees_removed : (b : ℕ) (front back : List Op) → list_all (λ f. not (has (named f) b)) front ≡ true → unfreed (front ++ back) b ≡ front ++ unfreed back b
frees_removed b front back h = filter-append (λ f. not (frees_base f b)) front back ∙ ap (λ fs. fs ++ unfreed back b) (front_kept b front h)
