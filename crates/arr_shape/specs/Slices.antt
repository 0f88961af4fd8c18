-- What slices take of a view.
use Rattle.std.specs.Prelude.{◌≡◌, ℕ, zero, suc, ◌+◌, ◌-◌, ◌<◌, ◌≤◌, ℤ, pos, negsuc, ◌+ℤ◌, ◌*ℤ◌, List, [], ◌∷◌, Bool, false, ◌||◌, ◌==◌, nat_lt, nat_le, if◌then◌else◌, length, get_or, map, Option, Some, None, unwrap_or, Result, Ok, Err}
use Rattle.std.specs.List.{range_with_len}
use Rattle.arr_view.specs.Strided.{Strided}
use Rattle.arr_view.specs.Views.{to_place}
use Rattle.arr_shape.specs.Views.{place_at, element_at}
use Rattle.arr_shape.specs.declared.bounds.Slice.{Slice}
use Rattle.arr_shape.specs.declared.bounds.Cut.{Cut}
use Rattle.arr_shape.specs.declared.fault.ShapeFault.{ShapeFault}
use Rattle.arr_shape.specs.declared.fault.ShapeFault.TheVariants.{SliceRange, ZeroStep, EmptyArray, RankRange}

-- ---- the indices of one dimension

-- from i on, a step apart, while below stop; at most so many
abbrev pub rising : ℕ → ℕ → ℕ → ℕ → List ℕ
rising zero i stop step = []
rising (suc most) i stop step = if nat_lt i stop then i ∷ rising most (i + step) stop step else []

-- from i down, a step apart, while not below floor; at most so many
abbrev pub falling : ℕ → ℕ → ℕ → ℕ → List ℕ
falling zero i floor step = []
falling (suc most) i floor step = if nat_le floor i then i ∷ (if nat_le step i then falling most (i - step) floor step else []) else []

-- the first index, how many there are, and the step, which is 0 for one index alone
abbrev pub cut_of : List ℕ → ℤ → Result Cut ShapeFault
cut_of [] step = Err EmptyArray
cut_of (i ∷ is) step = Ok (record { first = i; count = suc (length is); step = if length is == 0 then pos 0 else step })

abbrev pub lies_above : ℕ → Option ℕ → Bool
lies_above n None = false
lies_above n (Some i) = nat_lt n i

-- an absent stop of a step down lies before 0
abbrev pub floor_of : Option ℕ → ℕ
floor_of None = 0
floor_of (Some stop) = suc stop

abbrev pub cut_up : ℕ → Option ℕ → Option ℕ → ℕ → Result Cut ShapeFault
cut_up n start stop step =
    if lies_above n start || lies_above n stop then Err SliceRange
    else cut_of (rising n (unwrap_or start 0) (unwrap_or stop n) step) (pos step)

abbrev pub cut_down : ℕ → Option ℕ → Option ℕ → ℕ → Result Cut ShapeFault
cut_down n start stop back =
    if lies_above (n - 1) start || lies_above (n - 1) stop then Err SliceRange
    else cut_of (falling n (unwrap_or start (n - 1)) (floor_of stop) (suc back)) (negsuc back)

abbrev pub cut_by : ℕ → Option ℕ → Option ℕ → ℤ → Result Cut ShapeFault
cut_by n start stop (pos zero) = Err ZeroStep
cut_by n start stop (pos (suc k)) = cut_up n start stop (suc k)
cut_by n start stop (negsuc k) = cut_down n start stop k

-- what a slice takes of a dimension of length n
abbrev pub cut : ℕ → Slice → Result Cut ShapeFault
cut n slice = cut_by n slice.start slice.stop slice.step

-- ---- all dimensions

-- a dimension that stays whole
abbrev pub whole_cut : ℕ → Cut
whole_cut n = record { first = 0; count = n; step = if n == 1 then pos 0 else pos 1 }

-- the first fault of two, or both cuts
abbrev pub and_then : Result Cut ShapeFault → Result (List Cut) ShapeFault → Result (List Cut) ShapeFault
and_then (Err e) rest = Err e
and_then (Ok c) (Err e) = Err e
and_then (Ok c) (Ok cs) = Ok (c ∷ cs)

-- slices of the first dimensions; the others stay whole
abbrev pub all_cuts : List ℕ → List Slice → Result (List Cut) ShapeFault
all_cuts [] slices = Ok []
all_cuts (n ∷ ns) [] = and_then (Ok (whole_cut n)) (all_cuts ns [])
all_cuts (n ∷ ns) (slice ∷ slices) = and_then (cut n slice) (all_cuts ns slices)

abbrev pub scaled : List Cut → List ℤ → List ℤ
scaled (c ∷ cs) (s ∷ ss) = (c.step *ℤ s) ∷ scaled cs ss
scaled _ _ = []

-- the view of the indices that the cuts take
abbrev pub cut_view : Strided → List Cut → Strided
cut_view v cuts =
    record {
      base = v.base;
      start = to_place (place_at (pos v.start) v.strides (map (λ (c : Cut). c.first) cuts));
      lengths = map (λ (c : Cut). c.count) cuts;
      strides = scaled cuts v.strides;
    }

abbrev pub cut_result : Strided → Result (List Cut) ShapeFault → Result Strided ShapeFault
cut_result v (Err e) = Err e
cut_result v (Ok cuts) = Ok (cut_view v cuts)

abbrev pub slice : Strided → List Slice → Result Strided ShapeFault
slice v slices = if nat_lt (length v.lengths) (length slices) then Err RankRange else cut_result v (all_cuts v.lengths slices)

-- ---- the indices of the view that an index of the slice stands for

-- first to last
abbrev pub taken_by : ℕ → Option ℕ → Option ℕ → ℤ → List ℕ
taken_by n start stop (pos step) = rising n (unwrap_or start 0) (unwrap_or stop n) step
taken_by n start stop (negsuc back) = falling n (unwrap_or start (n - 1)) (floor_of stop) (suc back)

-- of each dimension; one without a slice stays whole
abbrev pub taken : List ℕ → List Slice → List (List ℕ)
taken [] slices = []
taken (n ∷ ns) [] = range_with_len 0 n ∷ taken ns []
taken (n ∷ ns) (slice ∷ slices) = taken_by n slice.start slice.stop slice.step ∷ taken ns slices

abbrev pub picked : List (List ℕ) → List ℕ → List ℕ
picked (xs ∷ rest) (i ∷ is) = get_or xs i 0 ∷ picked rest is
picked _ _ = []

-- the element of the view at an index of the slice
abbrev pub sliced_element : Strided → List Slice → List ℕ → ℤ
sliced_element v slices index = element_at v (picked (taken v.lengths slices) index)

-- ---- what a cut keeps to

-- each index that it takes lies in the dimension
pub record IsCut (n : ℕ) (c : Cut) : Type 0 where
  pub some : 1 ≤ c.count
  pub few : c.count ≤ n
  pub lone : c.count ≡ 1 → c.step ≡ pos 0
  pub within : (j : ℕ) → j < c.count → (i : ℕ) × (i < n) × (pos i ≡ pos c.first +ℤ (pos j *ℤ c.step))

abbrev pub AreCuts : List ℕ → List Cut → Type 0
AreCuts [] [] = Unit {0}
AreCuts (n ∷ ns) (c ∷ cs) = IsCut n c × AreCuts ns cs
AreCuts _ _ = ⊥
