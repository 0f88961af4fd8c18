-- Which shapes there are, and what becomes of them.
use Rattle.std.specs.Prelude.{ℕ, ◌-◌, max, List, [], ◌∷◌, ◌++◌, Bool, true, not, ◌||◌, ◌&&◌, ◌==◌, nat_lt, nat_le, if◌then◌else◌, length, replicate, Result, Ok, Err}
use Rattle.std.specs.List.{list_all}
use Rattle.arr_view.specs.Views.{has_rank, most_elements, positions}
pub use Rattle.arr_view.specs.Views.{dropped_axis}
use Rattle.arr_shape.specs.declared.fault.ShapeFault.{ShapeFault}
use Rattle.arr_shape.specs.declared.fault.ShapeFault.TheVariants.{ShapeMismatch, EmptyArray, AxisRange, RankRange, TooManyElements}

-- one to four lengths, none of them 0, and at most 1,048,576 positions
abbrev pub is_shape : List ℕ → Bool
is_shape ns = has_rank ns && (list_all (nat_le 1) ns && nat_le (positions ns) most_elements)

-- the shape of these lengths, or the first reason why there is none
abbrev pub checked_shape : List ℕ → Result (List ℕ) ShapeFault
checked_shape ns =
    if not (has_rank ns) then Err RankRange
    else (if not (list_all (nat_le 1) ns) then Err EmptyArray
    else (if nat_lt most_elements (positions ns) then Err TooManyElements
    else Ok ns))

-- ---- one axis

abbrev pub checked_axis : List ℕ → ℕ → Result ℕ ShapeFault
checked_axis ns axis = if nat_lt axis (length ns) then Ok axis else Err AxisRange

abbrev pub reduced : List ℕ → ℕ → Result (List ℕ) ShapeFault
reduced ns axis = if nat_lt axis (length ns) then Ok (dropped_axis axis ns) else Err AxisRange

-- ---- two shapes

-- lengths of 1 in front, so that there are as many as dimensions
abbrev pub padded : ℕ → List ℕ → List ℕ
padded rank ns = replicate (rank - length ns) 1 ++ ns

-- two lengths that are equal, or of which one is 1
abbrev pub matches : ℕ → ℕ → Bool
matches m n = m == n || (m == 1 || n == 1)

abbrev pub all_match : List ℕ → List ℕ → Bool
all_match (m ∷ ms) (n ∷ ns) = matches m n && all_match ms ns
all_match _ _ = true

-- the greater of each two lengths
abbrev pub greater : List ℕ → List ℕ → List ℕ
greater (m ∷ ms) (n ∷ ns) = max m n ∷ greater ms ns
greater _ _ = []

-- of two shapes with as many dimensions
abbrev pub joined : List ℕ → List ℕ → Result (List ℕ) ShapeFault
joined ms ns =
    if not (all_match ms ns) then Err ShapeMismatch
    else (if nat_lt most_elements (positions (greater ms ns)) then Err TooManyElements
    else Ok (greater ms ns))

-- the shape to which both can be spread, matched from the last dimension on
abbrev pub broadcast : List ℕ → List ℕ → Result (List ℕ) ShapeFault
broadcast left right =
    let rank = max (length left) (length right) in
    joined (padded rank left) (padded rank right)
