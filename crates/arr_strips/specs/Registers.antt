-- Registers: identical views have one number.
use Rattle.std.specs.Prelude.{ℕ, suc, ℤ, pos, ◌-◌, ◌==◌, List, [], ◌∷◌, ◌++◌, cond, Option, Some, None}
use Rattle.std.specs.List.{flat_map}
use Rattle.arr_view.specs.Strided.{Strided}
use Rattle.arr_view.specs.Views.{identical}
use Rattle.arr_num.specs.Numbers.{value}
use Rattle.arr_num.specs.declared.elem.Elem.{Elem}
use Rattle.arr_num.specs.declared.code.Code.{Code}
use Rattle.arr_num.specs.declared.code.Code.TheVariants.{Range}
use Rattle.arr_ops.specs.declared.op.Op.{Op}
use Rattle.arr_ops.specs.declared.op.Operand.{Operand}
use Rattle.arr_ops.specs.declared.op.Operand.TheVariants.{Array, Number}
use Rattle.arr_ops.specs.Ops.{views}
use Rattle.arr_ops.specs.Costs.{distinct}
use Rattle.arr_strips.specs.Columns.{Row, Columns, fills}

-- the place of the first view in the list that is identical to it
abbrev pub number_in : List Strided → Strided → ℕ
number_in [] v = 0
number_in (w ∷ ws) v = cond (identical w v) 0 (suc (number_in ws v))

abbrev pub Registers : Type 0
Registers = ℕ → ℤ

abbrev pub assign : Registers → ℕ → ℤ → Registers
assign regs r x q = cond (r == q) x (regs q)

pub data Source : Type 0 where
  Register : ℕ → Source
  Constant : ℤ → Source
  Position : Source

pub record Line : Type 0 where
  pub code : Code
  pub elem : Elem
  pub first : Source
  pub second : Source
  pub dest : ℕ

abbrev pub source_value : Registers → ℕ → Source → ℤ
source_value regs p (Register r) = regs r
source_value regs p (Constant z) = z
source_value regs p Position = pos p

abbrev pub line_value : ℕ → Registers → Line → ℤ
line_value p regs l = value l.code l.elem (source_value regs p l.first) (source_value regs p l.second)

-- the lines of a block at one position
abbrev pub ran : ℕ → List Line → Registers → Registers
ran p [] regs = regs
ran p (l ∷ ls) regs = ran p ls (assign regs l.dest (line_value p regs l))

abbrev pub source_of : List Strided → Option Operand → Source
source_of vs None = Constant (pos 0)
source_of vs (Some (Number z)) = Constant z
source_of vs (Some (Array v)) = Register (number_in vs v)

abbrev pub first_source : List Strided → Code → Option Operand → Source
first_source vs Range o = Position
first_source vs _ o = source_of vs o

-- an operation that fills a column is a line
abbrev pub line_at : List Strided → Op → Option Strided → List Line
line_at vs op None = []
line_at vs op (Some o) = record { code = op.code; elem = op.to; first = first_source vs op.code op.first; second = source_of vs op.second; dest = number_in vs o } ∷ []

abbrev pub lines_of : List Strided → List Op → List Line
lines_of vs [] = []
lines_of vs (op ∷ ops) = line_at vs op (fills op) ++ lines_of vs ops

-- a row of numbers for views, from registers
abbrev pub row_of : List Strided → Registers → Row
row_of vs regs v = regs (number_in vs v)

-- the views of a block, one of each kind: its registers
abbrev pub register_views : List Op → List Strided
register_views ops = distinct identical (flat_map views ops)

-- registers at each place of a strip that begins at p, as columns
abbrev pub columns_from : List Strided → ℕ → (ℕ → Registers) → Columns
columns_from vs p regs q = row_of vs (regs (q - p))
