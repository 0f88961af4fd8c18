-- The rules that look at the list around an operation, and the application that comes next. A list is taken apart at the operation's
-- place: `front`, the operation, and `back`.
use Rattle.std.specs.Prelude.{ℕ, ℤ, List, [], ◌∷◌, ◌++◌, Bool, true, false, cond, not, ◌&&◌, ◌||◌, take, drop, Option, Some, None}
use Rattle.std.specs.Bool.{then_some}
use Rattle.std.specs.Option.{option_or}
use Rattle.std.specs.List.{list_any, list_all, filter}
use Rattle.arr_num.specs.Numbers.{wrap, value}
use Rattle.arr_num.specs.declared.code.Code.{Code}
use Rattle.arr_num.specs.declared.code.Code.TheVariants.{Add, Multiply, BitwiseAnd, BitwiseOr, BitwiseXor}
use Rattle.arr_view.specs.Strided.{Strided}
use Rattle.arr_view.specs.Views.{identical, has}
use Rattle.arr_ops.specs.Ops.{outputs, freed, named}
use Rattle.arr_ops.specs.Formed.{same_elem}
use Rattle.arr_ops.specs.declared.op.Op.{Op}
use Rattle.arr_ops.specs.declared.op.Operand.{Operand}
use Rattle.arr_ops.specs.declared.op.Operand.TheVariants.{Array, Number}
use Rattle.arr_rewrite.specs.Rules.{constant_op, code_op, with_first, with_second, is_identity, is_scalar, constant_folded, neutral_dropped, fixed_known, power_unrolled, subtraction_turned, copies_itself}
use Rattle.arr_rewrite.specs.Writers.{Writer, only_writer, unspoiled}

-- ---- a constant that fills the base which an operand reads

abbrev pub source_number : Option Operand → Option ℤ
source_number (Some (Number z)) = Some z
source_number _ = None

abbrev pub filled_with : Option Writer → Option ℤ
filled_with None = None
filled_with (Some w) = cond (is_identity w.op.code) (source_number w.op.first) None

abbrev pub known_operand : List Op → List Op → Option Operand → Option ℤ
known_operand front back (Some (Array x)) = filled_with (only_writer front back x.base)
known_operand front back _ = None

-- IDENTITY has the constant wrapped into its type
abbrev pub first_number : Op → Option ℤ → Option Op
first_number op None = None
first_number op (Some z) = Some (cond (is_identity op.code) (constant_op op (wrap op.to z)) (with_first op (Number z)))

abbrev pub second_number : Op → Option ℤ → Option Op
second_number op None = None
second_number op (Some z) = Some (with_second op (Number z))

-- a binary or unary code reads a base whose only writer stands before it and is IDENTITY of a constant: it takes the constant
abbrev pub constant_carried : List Op → Op → List Op → Option Op
constant_carried front op back =
    cond (is_scalar op.code)
    (option_or (first_number op (known_operand front (op ∷ back) op.first)) (second_number op (known_operand front (op ∷ back) op.second))) None

-- ---- a view that was copied to the view which an operand reads

abbrev pub source_view : List Op → Option Operand → Option Strided
source_view between (Some (Array w)) = then_some (unspoiled between w) w
source_view between _ = None

-- IDENTITY into the view, in one type
abbrev pub copies_into : Op → Strided → Bool
copies_into op x = is_identity op.code && (same_elem op.from op.to && list_any (identical x) (outputs op))

abbrev pub copied_from : Strided → Option Writer → Option Strided
copied_from x None = None
copied_from x (Some w) = cond (copies_into w.op x) (source_view w.between w.op.first) None

abbrev pub copied_operand : List Op → List Op → Option Operand → Option Strided
copied_operand front back (Some (Array x)) = copied_from x (only_writer front back x.base)
copied_operand front back _ = None

abbrev pub first_view : Op → Option Strided → Option Op
first_view op None = None
first_view op (Some w) = Some (with_first op (Array w))

abbrev pub second_view : Op → Option Strided → Option Op
second_view op None = None
second_view op (Some w) = Some (with_second op (Array w))

-- an operation reads a view that is the output of its base's only writer, which stands before it and is IDENTITY of a view of the same
-- type, unwritten in between: it reads that view
abbrev pub copy_carried : List Op → Op → List Op → Option Op
copy_carried front op back =
    option_or (first_view op (copied_operand front (op ∷ back) op.first)) (second_view op (copied_operand front (op ∷ back) op.second))

-- ---- a constant that is joined to the one before it

-- a view and a constant, in either order
pub record Beside : Type 0 where
  pub view : Strided
  pub number : ℤ

abbrev pub beside : Option Operand → Option Operand → Option Beside
beside (Some (Array x)) (Some (Number c)) = Some (record { view = x; number = c })
beside (Some (Number c)) (Some (Array x)) = Some (record { view = x; number = c })
beside _ _ = None

-- (x with d) with c is x with (d with c), and the operands may change places
abbrev pub regroups : Code → Bool
regroups Add = true
regroups Multiply = true
regroups BitwiseAnd = true
regroups BitwiseOr = true
regroups BitwiseXor = true
regroups _ = false

-- both are one code that regroups
abbrev pub same_code : Code → Code → Bool
same_code Add Add = true
same_code Multiply Multiply = true
same_code BitwiseAnd BitwiseAnd = true
same_code BitwiseOr BitwiseOr = true
same_code BitwiseXor BitwiseXor = true
same_code _ _ = false

abbrev pub joined : Op → ℤ → List Op → Option Beside → Option Op
joined op c between None = None
joined op c between (Some y) = then_some (unspoiled between y.view) (code_op op op.code y.view (Number (value op.code op.to y.number c)))

abbrev pub joined_to : Op → Beside → Option Writer → Option Op
joined_to op y None = None
joined_to op y (Some w) = cond (same_code op.code w.op.code && list_any (identical y.view) (outputs w.op)) (joined op y.number w.between (beside w.op.first w.op.second)) None

abbrev pub joined_beside : List Op → Op → List Op → Option Beside → Option Op
joined_beside front op back None = None
joined_beside front op back (Some y) = joined_to op y (only_writer front (op ∷ back) y.view.base)

-- a code that regroups, of a constant c and a view that is the output of its base's only writer, which stands before it and is the same
-- code of a view w and a constant d, w unwritten in between: the code of w and of its value on d and c
abbrev pub constants_joined : List Op → Op → List Op → Option Op
constants_joined front op back = cond (regroups op.code) (joined_beside front op back (beside op.first op.second)) None

-- ---- a base that nothing uses

abbrev pub frees_base : Op → ℕ → Bool
frees_base f b = has (freed f) b

-- some operation frees the base, and the others don't name it
abbrev pub only_freed : List Op → ℕ → Bool
only_freed fs b = list_any (λ f. frees_base f b) fs && list_all (λ f. frees_base f b || not (has (named f) b)) fs

abbrev pub unfreed : List Op → ℕ → List Op
unfreed fs b = filter (λ f. not (frees_base f b)) fs

-- none of the operations names the base
abbrev pub unnamed_base : List Op → ℕ → Bool
unnamed_base fs b = list_all (λ f. not (has (named f) b)) fs

-- the operation makes a base, and no other names the base but for those behind that free it
abbrev pub is_unused : List Op → Op → List Op → ℕ → Bool
is_unused front op back b = op.makes && (unnamed_base front b && only_freed back b)

-- what is left without the base's creator, which stands between, and what frees the base
abbrev pub without_base : List Op → List Op → ℕ → List Op
without_base front back b = front ++ unfreed back b

-- a creator, and the base's FREE, where no third operation names the base: both are removed
abbrev pub unused : List Op → Op → List Op → Option Strided → Option (List Op)
unused front op back None = None
unused front op back (Some o) = then_some (is_unused front op back o.base) (without_base front back o.base)

-- ---- the next application

-- what the operation becomes by the first rule that applies, of those that keep it
abbrev pub replacement : List Op → Op → List Op → Option Op
replacement front op back =
    option_or (constant_folded op) (option_or (neutral_dropped op) (option_or (fixed_known op) (option_or (power_unrolled op)
    (option_or (constant_carried front op back) (option_or (copy_carried front op back) (option_or (constants_joined front op back) (subtraction_turned op)))))))

abbrev pub replaced : List Op → List Op → Option Op → Option (List Op)
replaced front back None = None
replaced front back (Some op) = Some (front ++ op ∷ back)

-- the list after each kind of rule at an operation, where it applies: another operation stands there; a view's copy to itself is
-- gone; so is a base that nothing uses
abbrev pub with_replacement : List Op → Op → List Op → Option (List Op)
with_replacement front op back = replaced front back (replacement front op back)

abbrev pub without_copy : List Op → Op → List Op → Option (List Op)
without_copy front op back = then_some (copies_itself op) (front ++ back)

abbrev pub without_unused : List Op → Op → List Op → Option (List Op)
without_unused front op back = unused front op back op.out

-- the ten rules in order, at one operation
abbrev pub rewrite_at : List Op → Op → List Op → Option (List Op)
rewrite_at front op back = option_or (with_replacement front op back) (option_or (without_copy front op back) (without_unused front op back))

-- the first application at an operation of the second list
abbrev pub rewrite_from : List Op → List Op → Option (List Op)
rewrite_from front [] = None
rewrite_from front (op ∷ back) = option_or (rewrite_at front op back) (rewrite_from (front ++ op ∷ []) back)

-- the first application at a place of a list, or behind it
abbrev pub rewrite_behind : ℕ → List Op → Option (List Op)
rewrite_behind place list = rewrite_from (take place list) (drop place list)

-- the list after the application of least place, then of the earliest rule, then of the earlier operand
abbrev pub next_rewrite : List Op → Option (List Op)
next_rewrite list = rewrite_from [] list
