-- How many numbers a gather or scatter gives, and of which type.
use Rattle.std.proofs.Common.{◌≡◌, ℕ, ℤ, pos, List, [], ◌∷◌, length, get_or, Option, Some, None, true, false, cond}
use Rattle.std.specs.Prelude.{◌==◌}
use Rattle.std.specs.List.{range_with_len}
use Rattle.std.proofs.lemmas.List.{length-map}
use Rattle.arr_num.specs.declared.elem.Elem.{Elem}
use Rattle.arr_num.specs.Numbers.{in_type}
use Rattle.arr_ops.specs.Gathers.{position_named, picked, later, last_value, value_or, placed}
use Rattle.arr_ops.proofs.Typed.{AllIn, map_in, get_in}

pub length-picked : (source index : List ℤ) → length (picked source index) ≡ length index
length-picked source index = length-map index _

pub picked_in : (t : Elem) (source index : List ℤ) → AllIn t source → AllIn t (picked source index)
picked_in t source [] h = tt
picked_in t source (i ∷ index) h = (get_in t source (position_named (length source) i) h, picked_in t source index h)

-- a value or none
abbrev OneIn : Elem → Option ℤ → Type 0
OneIn t None = Unit {0}
OneIn t (Some x) = in_type t x ≡ true

later_in : (t : Elem) (first next : Option ℤ) → OneIn t first → OneIn t next → OneIn t (later first next)
later_in t first None a b = a
later_in t first (Some x) a b = b

last_in : (t : Elem) (n q : ℕ) (index values : List ℤ) → AllIn t values → OneIn t (last_value n q index values)
last_in t n q [] values h = tt
last_in t n q (i ∷ index) [] h = tt
last_in t n q (i ∷ index) (x ∷ values) h =
    later_in t (cond (position_named n i == q) (Some x) None) (last_value n q index values)
    (elim (position_named n i == q) as (λ b. OneIn t (cond b (Some x) None)) [ true ↦ h.0 | false ↦ tt ]) (last_in t n q index values h.1)

value_in : (t : Elem) (o : Option ℤ) (x : ℤ) → OneIn t o → in_type t x ≡ true → in_type t (value_or o x) ≡ true
value_in t None x a b = b
value_in t (Some y) x a b = a

pub placed_in : (t : Elem) (target index values : List ℤ) → AllIn t target → AllIn t values → AllIn t (placed target index values)
placed_in t target index values a b =
    let n : ℕ = length target in
    map_in t (λ q. value_or (last_value n q index values) (get_or target q (pos 0)))
    (λ q. value_in t (last_value n q index values) (get_or target q (pos 0)) (last_in t n q index values b) (get_in t target q a)) (range_with_len 0 n)
