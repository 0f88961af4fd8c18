-- What becomes of views.
use Rattle.std.specs.Prelude.{◌≡◌, ℕ, ℤ, pos, ◌+ℤ◌, ◌*ℤ◌, ◌-◌, List, [], ◌∷◌, ◌++◌, Bool, true, false, IsTrue, ◌||◌, ◌&&◌, ◌==◌, not, nat_lt, nat_le, if◌then◌else◌, cond, length, drop, replicate, reverse, unsigned_abs, Option, Some, None, Result, Ok, Err}
use Rattle.std.specs.List.{list_all}
use Rattle.arr_view.specs.Strided.{Strided}
use Rattle.arr_view.specs.Views.{places, positions, most_elements, is_place, to_place, whole_strides, kept_strides}
pub use Rattle.arr_view.specs.Views.{is_consecutive}
use Rattle.arr_shape.specs.Shapes.{padded}
use Rattle.arr_shape.specs.declared.fault.ShapeFault.{ShapeFault}
use Rattle.arr_shape.specs.declared.fault.ShapeFault.TheVariants.{ShapeMismatch, RankRange, NotContiguous, CountMismatch, OutsideBase}

-- ---- one element

-- so many steps of each stride away
abbrev pub place_at : ℤ → List ℤ → List ℕ → ℤ
place_at z (s ∷ ss) (i ∷ is) = place_at (z +ℤ (pos i *ℤ s)) ss is
place_at z _ _ = z

-- an index for each length, counted from 0
abbrev pub is_index : List ℕ → List ℕ → Bool
is_index [] [] = true
is_index (n ∷ ns) (i ∷ is) = nat_lt i n && is_index ns is
is_index _ _ = false

-- the element of a view at an index
abbrev pub element_at : Strided → List ℕ → ℤ
element_at v index = place_at (pos v.start) v.strides index

-- the same element at each index of these lengths
abbrev pub AgreeAt : List ℕ → (List ℕ → ℤ) → (List ℕ → ℤ) → Type 0
AgreeAt ns left right = (index : List ℕ) → IsTrue (is_index ns index) → left index ≡ right index

-- ---- spreading

-- strides of 0 in front, so that there are as many as dimensions
abbrev pub padded_strides : ℕ → List ℤ → List ℤ
padded_strides rank ss = replicate (rank - length ss) (pos 0) ++ ss

-- each length is the other's, or the other's is 1
abbrev pub all_spread : List ℕ → List ℕ → Bool
all_spread (m ∷ ms) (n ∷ ns) = (n == m || n == 1) && all_spread ms ns
all_spread _ _ = true

-- a dimension that is spread has stride 0
abbrev pub spread_strides : List ℕ → List ℕ → List ℤ → List ℤ
spread_strides (m ∷ ms) (n ∷ ns) (s ∷ ss) = (if n == m then s else pos 0) ∷ spread_strides ms ns ss
spread_strides _ _ _ = []

-- the view spread to a shape, matched from the last dimension on
abbrev pub spread : Strided → List ℕ → Result Strided ShapeFault
spread v shape =
    let rank = length shape in
    if nat_le (length v.lengths) rank && all_spread shape (padded rank v.lengths)
    then Ok (record { base = v.base; start = v.start; lengths = shape; strides = spread_strides shape (padded rank v.lengths) (padded_strides rank v.strides) })
    else Err ShapeMismatch

-- 0 for each dimension of length 1
abbrev pub own_index : List ℕ → List ℕ → List ℕ
own_index (n ∷ ns) (i ∷ is) = (if n == 1 then 0 else i) ∷ own_index ns is
own_index _ _ = []

-- the index of a view with these lengths for an index of a shape that it is spread to: the last dimensions'
abbrev pub spread_from : List ℕ → List ℕ → List ℕ
spread_from ns index = own_index ns (drop (length index - length ns) index)

-- the element of the view at an index of a shape that it is spread to
abbrev pub spread_element : Strided → List ℕ → ℤ
spread_element v index = element_at v (spread_from v.lengths index)

-- ---- turning round

abbrev pub transpose : Strided → Strided
transpose v = record { base = v.base; start = v.start; lengths = reverse v.lengths; strides = reverse v.strides }

-- the element of a view at the index turned round
abbrev pub turned_element : Strided → List ℕ → ℤ
turned_element v index = element_at v (reverse index)

-- ---- reshaping

-- the same elements in another shape
abbrev pub reshape : Strided → List ℕ → Result Strided ShapeFault
reshape v shape =
    if not (positions v.lengths == positions shape) then Err CountMismatch
    else (if not (is_consecutive v) then Err NotContiguous
    else Ok (record { base = v.base; start = v.start; lengths = shape; strides = whole_strides shape }))

-- ---- by strides

-- an element of a base of so many elements; no base has more than 1,048,576
abbrev pub is_within : ℕ → ℤ → Bool
is_within count z = is_place z && nat_lt (to_place z) count

-- the view of a base of `count` elements with these strides
abbrev pub strided : ℕ → ℕ → ℕ → List ℕ → List ℤ → Result Strided ShapeFault
strided base count start shape strides =
    if not (length strides == length shape) then Err RankRange
    else (if not (list_all (is_within count) (places shape strides (pos start))) then Err OutsideBase
    else Ok (record { base = base; start = start; lengths = shape; strides = kept_strides shape strides }))

-- a stride that can lead from one element of a base to another
abbrev pub is_narrow : ℤ → Bool
is_narrow s = nat_lt (unsigned_abs s) most_elements

-- the stride that a view keeps, where it is narrow
abbrev pub narrow : ℕ → ℤ → Option ℤ
narrow n s = let kept = cond (n == 1) (pos 0) s in cond (is_narrow kept) (Some kept) None

-- the strides that a view keeps, where all are narrow
abbrev pub narrowed : List ℕ → List ℤ → Option (List ℤ)
narrowed ns ss = cond (list_all is_narrow (kept_strides ns ss)) (Some (kept_strides ns ss)) None
