-- What stands in lanes, and what lines over them compute.
use Rattle.std.specs.Prelude.{ℕ, ℤ, pos, ◌≡◌, ◌≢◌, ◌≤◌, ◌<◌, ◌+◌, List, Bool, true, false, IsTrue, length, get_or, Option, Some, None, slice_get}
use Rattle.arr_num.specs.declared.elem.Elem.{Elem}
use Rattle.arr_num.specs.declared.elem.Elem.TheVariants.{U8}
use Rattle.arr_num.specs.declared.code.Code.TheVariants.{Power as power_code, Identity, Range}
use Rattle.arr_vector.specs.Sorts.{is_arithmetic, is_comparison}
use Rattle.arr_store.specs.Buffers.{cell_of}
use Rattle.arr_ops.specs.Memory.{Cell}
use Rattle.arr_store.specs.Cells.{number_at, size_at}
use Rattle.arr_store.specs.Runs.{IsOf}
use Rattle.arr_store.specs.declared.buffer.Buffer.{Buffer}
use Rattle.arr_strips.specs.Registers as law
use Rattle.arr_lanes.specs.declared.line.Line.{Line}
use Rattle.arr_lanes.specs.declared.line.Work.{Work}
use Rattle.arr_lanes.specs.declared.line.Work.TheVariants.{Arithmetic, Comparison, Power, Conversion, Positions}
use Rattle.arr_lanes.specs.declared.strip.Place.{Place}
use Rattle.arr_lanes.specs.declared.strip.Strip.{Strip}

abbrev pub lane_number : Option Buffer → ℕ → ℤ
lane_number None i = pos 0
lane_number (Some l) i = get_or (cell_of l).numbers i (pos 0)

-- the number at place i of lane r
abbrev pub number : List Buffer → ℕ → ℕ → ℤ
number lanes r i = lane_number (slice_get lanes r) i

-- the number at place i of a lane, or of a place that is read for it
abbrev pub held_at : (ℕ → Option Cell) → Option Place → Option Buffer → ℕ → ℤ
held_at f None l i = lane_number l i
held_at f (Some p) l i = number_at (f p.base) (p.start + i)

-- the number that stands for place i of lane r: in the lane, or where it is read in a base
abbrev pub held : List Buffer → List (Option Place) → (ℕ → Option Cell) → ℕ → ℕ → ℤ
held lanes places f r i = held_at f (get_or places r None) (slice_get lanes r) i

-- n numbers are there from a place on, of the type of the lane that they are read for
abbrev pub PlaceFits : ℕ → (ℕ → Option Cell) → Option Buffer → Option Place → Type 0
PlaceFits n f l None = Unit {0}
PlaceFits n f None (Some p) = ⊥
PlaceFits n f (Some l) (Some p) = IsOf (cell_of l).elem (f p.base) × (p.start + n ≤ size_at (f p.base))

-- so it is with each place; there is one for each lane, or none
pub record PlacesFit (n : ℕ) (lanes : List Buffer) (places : List (Option Place)) (f : ℕ → Option Cell) : Type 0 where
  pub long : length places ≡ length lanes
  pub each : (r : ℕ) → PlaceFits n f (slice_get lanes r) (get_or places r None)

-- a lane of the type with at least n numbers
abbrev pub IsLane : Elem → ℕ → Option Buffer → Type 0
IsLane t n None = ⊥
IsLane t n (Some l) = ((cell_of l).elem ≡ t) × (n ≤ length (cell_of l).numbers)

-- the lane `dest`, with room for so many numbers, got other numbers; every other lane is as it was
pub record Becomes (t : Elem) (room count dest : ℕ) (wanted : ℕ → ℤ) (old new : List Buffer) : Type 0 where
  pub long : length new ≡ length old
  pub numbers : (i : ℕ) → i < count → number new dest i ≡ wanted i
  pub there : IsLane t room (slice_get new dest)
  pub others : (r : ℕ) → dest ≢ r → slice_get new r ≡ slice_get old r

-- the registers at place i of a strip, by what lanes hold
abbrev pub registers : (ℕ → ℕ → ℤ) → ℕ → law.Registers
registers held i r = held r i

-- the line of the law
abbrev pub shown_work : Work → Elem → ℕ → law.Line
shown_work (Arithmetic code first second) t dest = record { code = code; elem = t; first = law.Register first; second = law.Register second; dest = dest }
shown_work (Comparison code from first second) t dest = record { code = code; elem = t; first = law.Register first; second = law.Register second; dest = dest }
shown_work (Power first exponent) t dest = record { code = power_code; elem = t; first = law.Register first; second = law.Constant (pos exponent); dest = dest }
shown_work (Conversion from first) t dest = record { code = Identity; elem = t; first = law.Register first; second = law.Constant (pos 0); dest = dest }
shown_work Positions t dest = record { code = Range; elem = t; first = law.Position; second = law.Constant (pos 0); dest = dest }

abbrev pub shown : Line → law.Line
shown l = shown_work l.work l.to l.dest

-- what a line reads is there, and of the types that it says
abbrev pub WorkFits : ℕ → List Buffer → Work → Elem → Type 0
WorkFits n lanes (Arithmetic code first second) t = IsTrue (is_arithmetic code) × (IsLane t n (slice_get lanes first) × IsLane t n (slice_get lanes second))
WorkFits n lanes (Comparison code from first second) t = IsTrue (is_comparison code) × ((t ≡ U8) × (IsLane from n (slice_get lanes first) × IsLane from n (slice_get lanes second)))
WorkFits n lanes (Power first exponent) t = IsLane t n (slice_get lanes first)
WorkFits n lanes (Conversion from first) t = IsLane from n (slice_get lanes first)
WorkFits n lanes Positions t = Unit {0}

abbrev pub LineFits : ℕ → List Buffer → Line → Type 0
LineFits n lanes l = WorkFits n lanes l.work l.to × IsLane l.to n (slice_get lanes l.dest)

-- a lane got what a line computes at the positions of a strip, told what lanes held
abbrev pub LineRan : Strip → Line → (ℕ → ℕ → ℤ) → List Buffer → List Buffer → Type 0
LineRan s l held old new = Becomes l.to s.room s.count l.dest (λ i. law.line_value (s.position + i) (registers held i) (shown l)) old new

abbrev pub compares : Work → Bool
compares (Comparison code from first second) = true
compares _ = false
