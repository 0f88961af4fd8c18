-- What a view stands for, when two views meet, and which views there are.
use Rattle.std.specs.Prelude.{ℕ, zero, suc, ℤ, pos, negsuc, ◌+ℤ◌, ◌*◌, List, [], ◌∷◌, ◌++◌, Bool, true, false, cond, not, ◌||◌, ◌&&◌, ◌==◌, nat_eq, nat_lt, nat_le, map, length, take, drop, Option, Some, None}
use Rattle.std.specs.List.{list_any, list_all, range_with_len}
use Rattle.arr_view.specs.Strided.{Strided}

-- ---- elements

-- f at z, z + s and so on, n times, one after another
abbrev pub at_steps : (ℤ → List ℤ) → ℕ → ℤ → ℤ → List ℤ
at_steps f zero s z = []
at_steps f (suc n) s z = f z ++ at_steps f n s (z +ℤ s)

-- the places from z on, the last dimension fastest
abbrev pub places : List ℕ → List ℤ → ℤ → List ℤ
places [] ss z = z ∷ []
places (n ∷ ns) [] z = []
places (n ∷ ns) (s ∷ ss) z = at_steps (places ns ss) n s z

abbrev pub to_place : ℤ → ℕ
to_place (pos n) = n
to_place (negsuc n) = 0

-- the elements of a view, in row-major order
unfoldable pub elements : Strided → List ℕ
elements v = map to_place (places v.lengths v.strides (pos v.start))

-- how many positions a shape has
abbrev pub positions : List ℕ → ℕ
positions [] = 1
positions (n ∷ ns) = n * positions ns

-- a number from `least` to `greatest`
abbrev pub lies : ℕ → ℕ → ℕ → Bool
lies least greatest x = nat_le least x && nat_le x greatest

-- ---- two views

abbrev pub has : List ℕ → ℕ → Bool
has xs x = list_any (nat_eq x) xs

-- a number stands in both lists
abbrev pub share : List ℕ → List ℕ → Bool
share xs ys = list_any (has ys) xs

abbrev pub same_lists : List ℕ → List ℕ → Bool
same_lists [] [] = true
same_lists (x ∷ xs) (y ∷ ys) = (x == y) && same_lists xs ys
same_lists _ _ = false

-- the same base, and a common element
abbrev pub overlap : Strided → Strided → Bool
overlap v w = (v.base == w.base) && share (elements v) (elements w)

-- the same base, the same shape, and the same element at each position
abbrev pub identical : Strided → Strided → Bool
identical v w = (v.base == w.base) && (same_lists v.lengths w.lengths && same_lists (elements v) (elements w))

-- a number stands at two places of the list
abbrev pub repeated : List ℕ → Bool
repeated [] = false
repeated (x ∷ xs) = has xs x || repeated xs

-- ---- one view

-- its elements are consecutive and rising, in row-major order
abbrev pub is_consecutive : Strided → Bool
is_consecutive v = same_lists (elements v) (range_with_len v.start (positions v.lengths))

-- two positions have the same element
abbrev pub repeats : Strided → Bool
repeats v = repeated (elements v)

-- ---- which views there are

-- no base has more elements
abbrev pub most_elements : ℕ
most_elements = 1048576

-- an element lies from 0 to 1,048,575
abbrev pub is_place : ℤ → Bool
is_place (pos n) = nat_lt n most_elements
is_place (negsuc n) = false

abbrev pub is_zero : ℤ → Bool
is_zero (pos zero) = true
is_zero _ = false

-- as many strides as lengths, and 0 where a length is 1
abbrev pub strides_kept : List ℕ → List ℤ → Bool
strides_kept [] [] = true
strides_kept (n ∷ ns) (s ∷ ss) = (not (n == 1) || is_zero s) && strides_kept ns ss
strides_kept _ _ = false

-- from 1 to 4 dimensions
abbrev pub has_rank : List ℕ → Bool
has_rank lengths = nat_le 1 (length lengths) && nat_le (length lengths) 4

abbrev pub is_view : Strided → Bool
is_view v =
    has_rank v.lengths
    && (list_all (nat_le 1) v.lengths && (strides_kept v.lengths v.strides
    && (nat_le (positions v.lengths) most_elements && list_all is_place (places v.lengths v.strides (pos v.start)))))

-- ---- views from their parts

-- a stride of a dimension of length 1 is kept as 0
abbrev pub kept_strides : List ℕ → List ℤ → List ℤ
kept_strides (n ∷ ns) (s ∷ ss) = cond (n == 1) (pos 0) s ∷ kept_strides ns ss
kept_strides _ ss = ss

-- the strides with which a shape fills a stretch of its base without a gap
abbrev pub whole_strides : List ℕ → List ℤ
whole_strides [] = []
whole_strides (n ∷ ns) = cond (n == 1) (pos 0) (pos (positions ns)) ∷ whole_strides ns

-- the view, where it is one
abbrev pub checked : Strided → Option Strided
checked v = cond (is_view v) (Some v) None

abbrev pub view_from : ℕ → ℕ → List ℕ → List ℤ → Option Strided
view_from base start lengths strides = checked (record { base = base; start = start; lengths = lengths; strides = kept_strides lengths strides })

-- a whole base of this shape, in order
abbrev pub whole_view : ℕ → List ℕ → Strided
whole_view base lengths = record { base = base; start = 0; lengths = lengths; strides = whole_strides lengths }

abbrev pub shape_from : List ℕ → Option (List ℕ)
shape_from lengths = cond (has_rank lengths) (Some lengths) None

-- the lengths without one axis, counted from 0, or [1] where that is all there is
abbrev pub dropped_axis : ℕ → List ℕ → List ℕ
dropped_axis axis (n ∷ []) = 1 ∷ []
dropped_axis axis lengths = take axis lengths ++ drop (suc axis) lengths
