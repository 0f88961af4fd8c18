-- What a task does of an operation, and where its operands stand in lanes.
use Rattle.std.specs.Prelude.{ℕ, ℤ, pos, ◌≡◌, ◌+◌, ◌<◌, ◌≤◌, true, false, List, IsTrue, get_or, length, Option, Some, None, slice_get}
use Rattle.arr_num.specs.declared.elem.Elem.{Elem}
use Rattle.arr_num.specs.declared.code.Code.TheVariants.{Power as power_code, Identity, Range}
use Rattle.arr_num.specs.Kinds.{Ending, Printing, Reduction, Scan as scan_kind, is_element_wise, kind}
use Rattle.arr_vector.specs.Sorts.{is_arithmetic, is_comparison}
use Rattle.arr_view.specs.Strided.{Strided}
use Rattle.arr_ops.specs.declared.op.Op.{Op}
use Rattle.arr_ops.specs.declared.op.Operand.{Operand}
use Rattle.arr_ops.specs.declared.op.Operand.TheVariants.{Array, Number}
use Rattle.arr_ops.specs.Costs.{elem_of}
use Rattle.arr_ops.specs.Traffic.{axis_length}
use Rattle.arr_store.specs.declared.buffer.Buffer.{Buffer}
use Rattle.arr_strips.specs.Registers.{number_in, register_views}
use Rattle.arr_strips.specs.Strips.{loaded}
use Rattle.arr_lanes.specs.declared.line.Line.{Line}
use Rattle.arr_lanes.specs.declared.line.Work.{Work}
use Rattle.arr_lanes.specs.declared.line.Work.TheVariants.{Arithmetic, Comparison, Power, Conversion, Positions}
use Rattle.arr_lanes.specs.Lanes.{IsLane, number}
use Rattle.arr_machine.specs.Kept.{inner_of, kept_from, outer_of}
use Rattle.arr_machine.specs.Needed.{needed}
use Rattle.arr_machine.specs.declared.task.Along.{Along}
use Rattle.arr_machine.specs.declared.task.Task.{Task}
use Rattle.arr_machine.specs.declared.task.Task.TheVariants.{Line as line_task, Link, Scan, Fold, Show, Nothing}

-- the lane of each view is its register, of the type of its base
abbrev pub TypedLanes : List Op → ℕ → List Buffer → Type 0
TypedLanes ops room lanes = (v : Strided) → loaded (register_views ops) v ≡ true → IsLane (elem_of ops v.base) room (slice_get lanes (number_in (register_views ops) v))

-- a lane behind the registers has one number at each place
pub record Holds (ops : List Op) (room : ℕ) (lanes : List Buffer) (t : Elem) (z : ℤ) (lane : ℕ) : Type 0 where
  pub behind : length (register_views ops) ≤ lane
  pub there : IsLane t room (slice_get lanes lane)
  pub each : (i : ℕ) → i < room → number lanes lane i ≡ z

-- a lane stands for an operand: for a view its register, for a constant one that holds it, for none any of the type
abbrev pub Stands : List Op → ℕ → List Buffer → Elem → Option Operand → ℕ → Type 0
Stands ops room lanes t None lane = IsLane t room (slice_get lanes lane)
Stands ops room lanes t (Some (Number z)) lane = Holds ops room lanes t z lane
Stands ops room lanes t (Some (Array v)) lane = lane ≡ number_in (register_views ops) v

-- a line's work is that of an element-wise operation
abbrev pub WorkOf : List Op → ℕ → List Buffer → Op → Work → Type 0
WorkOf ops room lanes op (Arithmetic code first second) =
    (code ≡ op.code) × (IsTrue (is_arithmetic code) × (Stands ops room lanes op.from op.first first × Stands ops room lanes op.from op.second second))
WorkOf ops room lanes op (Comparison code from first second) =
    (code ≡ op.code) × (IsTrue (is_comparison code) × ((from ≡ op.from) × (Stands ops room lanes op.from op.first first × Stands ops room lanes op.from op.second second)))
WorkOf ops room lanes op (Power first exponent) = (op.code ≡ power_code) × ((op.second ≡ Some (Number (pos exponent))) × Stands ops room lanes op.from op.first first)
WorkOf ops room lanes op (Conversion from first) = (op.code ≡ Identity) × ((from ≡ op.from) × Stands ops room lanes op.from op.first first)
WorkOf ops room lanes op Positions = op.code ≡ Range

-- a lane is the register of an output
abbrev pub IsOutput : List Op → Op → ℕ → Type 0
IsOutput ops op lane = (o : Strided) × ((op.out ≡ Some o) × (lane ≡ number_in (register_views ops) o))

-- what an operation folds along an axis: the register of its input, where its own numbers are kept, and the axis
pub record IsAlongAt (views : List Strided) (at : ℕ) (op : Op) (along : Along) : Type 0 where
  pub code : along.code ≡ op.code
  pub elem : along.elem ≡ op.to
  pub source : (v : Strided) × ((op.first ≡ Some (Array v)) × (along.source ≡ number_in views v))
  pub kept : along.kept ≡ at
  pub outer : along.axis.outer ≡ outer_of op
  pub rows : along.axis.length ≡ axis_length op
  pub inner : along.axis.inner ≡ inner_of op

abbrev pub IsAlong : List Op → ℕ → Op → Along → Type 0
IsAlong ops k op along = IsAlongAt (register_views ops) (kept_from ops k) op along

-- a line is that of an element-wise operation
abbrev pub IsLine : List Op → ℕ → List Buffer → Op → Line → Type 0
IsLine ops room lanes op line = (is_element_wise op.code ≡ true) × (WorkOf ops room lanes op line.work × ((line.to ≡ op.to) × IsOutput ops op line.dest))

-- what operation k computes no operation behind the next one reads, and no walk stores
abbrev pub PassesOn : List Op → ℕ → Op → Type 0
PassesOn ops k op = (o : Strided) → op.out ≡ Some o → needed ops (k + 2) o ≡ false

-- a task is what operation k does to lanes, to the numbers that are kept, and to slots
abbrev pub IsTask : List Op → ℕ → List Buffer → ℕ → Op → Task → Type 0
IsTask ops room lanes k op (line_task line) = IsLine ops room lanes op line
IsTask ops room lanes k op (Link line) = IsLine ops room lanes op line × PassesOn ops k op
IsTask ops room lanes k op (Scan along dest) = (kind op.code ≡ scan_kind) × (IsAlong ops k op along × IsOutput ops op dest)
IsTask ops room lanes k op (Fold along) = (kind op.code ≡ Reduction) × IsAlong ops k op along
IsTask ops room lanes k op (Show slot lane) = (kind op.code ≡ Printing) × ((op.slot ≡ Some slot) × Stands ops room lanes op.from op.first lane)
IsTask ops room lanes k op Nothing = kind op.code ≡ Ending

-- a task is that of the operation with an index
abbrev pub IsTaskAt : List Op → ℕ → List Buffer → ℕ → Task → Type 0
IsTaskAt ops room lanes k task = (op : Op) → op ≡ get_or ops k op → IsTask ops room lanes k op task

-- one task for each operation
pub record AreTasks (ops : List Op) (room : ℕ) (lanes : List Buffer) (tasks : List Task) : Type 0 where
  pub long : length tasks ≡ length ops
  pub each : (k : ℕ) (op : Op) (task : Task) → k < length ops → op ≡ get_or ops k op → task ≡ get_or tasks k task → IsTask ops room lanes k op task

-- lanes keep their types, and those behind the registers their numbers
pub record Steady (ops : List Op) (room : ℕ) (old new : List Buffer) : Type 0 where
  pub long : length new ≡ length old
  pub types : (t : Elem) (r : ℕ) → IsLane t room (slice_get old r) → IsLane t room (slice_get new r)
  pub constants : (r : ℕ) → length (register_views ops) ≤ r → slice_get new r ≡ slice_get old r
