-- Sums of lanes.
use Rattle.std.specs.Prelude.{ℕ, ℤ, List, Option, Some, None, slice_get}
use Rattle.arr_num.specs.declared.elem.Elem.{Elem}
use Rattle.arr_store.specs.declared.buffer.Buffer.{Buffer}
use Rattle.arr_vector.specs.Sorts.{plus}
use Rattle.arr_lanes.specs.declared.sum.Sum.{Sum}
use Rattle.arr_lanes.specs.declared.strip.Strip.{Strip}
use Rattle.arr_lanes.specs.Lanes.{Becomes, IsLane}

-- a number with those of two more lanes, or of none
abbrev pub with_more : (ℕ → ℕ → ℤ) → Elem → Option (ℕ × ℕ) → ℕ → ℤ → ℤ
with_more held t None i x = x
with_more held t (Some r) i x = plus t (plus t x (held r.0 i)) (held r.1 i)

-- the sum at place i, by what lanes hold
abbrev pub sum_value : (ℕ → ℕ → ℤ) → Sum → ℕ → ℤ
sum_value held s i = with_more held s.to s.more i (plus s.to (plus s.to (held s.first i) (held s.second i)) (held s.third i))

abbrev pub MoreFit : ℕ → List Buffer → Elem → Option (ℕ × ℕ) → Type 0
MoreFit n lanes t None = Unit {0}
MoreFit n lanes t (Some r) = IsLane t n (slice_get lanes r.0) × IsLane t n (slice_get lanes r.1)

-- the lanes of a sum are there, and of its type
pub record SumFits (n : ℕ) (lanes : List Buffer) (s : Sum) : Type 0 where
  pub first : IsLane s.to n (slice_get lanes s.first)
  pub second : IsLane s.to n (slice_get lanes s.second)
  pub third : IsLane s.to n (slice_get lanes s.third)
  pub more : MoreFit n lanes s.to s.more
  pub dest : IsLane s.to n (slice_get lanes s.dest)

-- a lane got the sums at the positions of a strip, told what lanes held
abbrev pub SumRan : Strip → Sum → (ℕ → ℕ → ℤ) → List Buffer → List Buffer → Type 0
SumRan strip s held old new = Becomes s.to strip.room strip.count s.dest (sum_value held s) old new
