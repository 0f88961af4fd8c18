-- What is picked by an index, from the store's cells to the store's cells.
use Rattle.std.proofs.Common.{◌≡◌, ℕ, ◌≤◌, ℤ, pos, List, [], ◌∷◌, length, map, get_or, true, ap, ◌∙◌, refl, arith, IsTrue, IsSome, Option}
use Rattle.std.proofs.lemmas.Bool.{le-leb}
use Rattle.std.proofs.lemmas.List.{length-map}
use Rattle.std.specs.List.{list_all}
use Rattle.std.specs.Prelude.{nat_le, zero, suc}
use Rattle.arr_num.specs.Numbers.{in_type}
use Rattle.arr_num.specs.declared.elem.Elem.{Elem}
use Rattle.arr_view.specs.Strided.{Strided}
use Rattle.arr_view.specs.Views.{elements, is_view, positions}
use Rattle.arr_view.proofs.Checks.{lawful as lawful_view}
use Rattle.arr_view.proofs.Counting.{some_position}
use Rattle.arr_ops.specs.Gathers.{picked}
use Rattle.arr_ops.specs.Memory.{Cell}
use Rattle.arr_ops.proofs.Parts.{length-elements}
use Rattle.arr_ops.proofs.Tests.{both_left, both_right}
use Rattle.arr_ops.proofs.Typed.{zero_in}
use Rattle.arr_picks.specs.Picks.{AllBelow, number_named, numbers_of}
use Rattle.arr_picks.proofs.Named.{below_at}
use Rattle.arr_store.specs.Cells.{lawful, size_at}
use Rattle.arr_store.proofs.Lawful.{both}
use Rattle.arr_store.proofs.Tables.{has_size}

-- a base that has the elements of a view is there
pub is_there : (c : Option Cell) (v : Strided) → is_view v ≡ true → AllBelow (size_at c) (elements v) → IsSome c
is_there c v law all =
    let some = some_position v.lengths (lawful_view v law).lengths in
    let long : length (elements v) ≡ positions v.lengths = length-elements v law in
    has_size c (get_or (elements v) 0 0) (below_at (size_at c) (elements v) 0 all (omega arith))

-- ---- numbers that are picked are of the type

get_in : (t : Elem) (ns : List ℤ) (k : ℕ) → list_all (in_type t) ns ≡ true → in_type t (get_or ns k (pos 0)) ≡ true
get_in t [] k all = zero_in t
get_in t (n ∷ ns) zero all = both_left _ _ all
get_in t (n ∷ ns) (suc k) all = get_in t ns k (both_right (in_type t n) _ all)

all_of : {X : Type 0} (t : Elem) (f : X → ℤ) (xs : List X) → ((x : X) → in_type t (f x) ≡ true) → list_all (in_type t) (map f xs) ≡ true
all_of t f [] h = refl
all_of t f (x ∷ xs) h = both _ _ (h x) (all_of t f xs h)

pub lawful_picked : (source b : Cell) (es : List ℕ) (index : List ℤ) → IsTrue (lawful source) → b.elem ≡ source.elem → b.numbers ≡ picked (numbers_of source.numbers es) index
    → 1 ≤ length index → length index ≤ 1048576 → IsTrue (lawful b)
lawful_picked source b es index law elem numbers some few =
    let ns : List ℤ = numbers_of source.numbers es in
    let typed : list_all (in_type source.elem) ns ≡ true = all_of source.elem (λ p. get_or source.numbers p (pos 0)) es (λ p. get_in source.elem source.numbers p (both_left _ _ law)) in
    let all : list_all (in_type source.elem) (picked ns index) ≡ true = all_of source.elem (number_named ns) index (λ i. get_in source.elem ns _ typed) in
    let e : length b.numbers ≡ length index = ap length numbers ∙ length-map index (number_named ns) in
    both _ _
    (ap (λ t. list_all (in_type t) b.numbers) elem ∙ ap (list_all (in_type source.elem)) numbers ∙ all)
    (both _ _ (ap (nat_le 1) e ∙ le-leb 1 (length index) some) (ap (λ k. nat_le k 1048576) e ∙ le-leb (length index) 1048576 few))
