-- The list that is left when no rule applies.
use Rattle.std.specs.Prelude.{ℕ, zero, suc, ◌+◌, ◌*◌, List, [], ◌∷◌, cond, Some, None}
use Rattle.arr_num.specs.declared.code.Code.{Code}
use Rattle.arr_num.specs.declared.code.Code.TheVariants.{Power, Subtract, Identity}
use Rattle.arr_view.specs.Strided.{Strided}
use Rattle.arr_ops.specs.Ops.{inputs, makes_base}
use Rattle.arr_ops.specs.Costs.{total}
use Rattle.arr_ops.specs.declared.op.Op.{Op}
use Rattle.arr_rewrite.specs.NextRewrite.{next_rewrite}

-- ---- a number that each application lowers

-- one more, but 0 stays
abbrev pub bump : ℕ → ℕ
bump zero = zero
bump (suc n) = suc (suc n)

-- the place of the base's creator, from 1; 0 where the list doesn't make the base
abbrev pub maker_place : List Op → ℕ → ℕ
maker_place [] b = 0
maker_place (f ∷ fs) b = cond (makes_base f b) 1 (bump (maker_place fs b))

-- an operation, one more if it isn't IDENTITY, and one more for POWER and SUBTRACT
abbrev pub code_worth : Code → ℕ
code_worth Identity = 1
code_worth Power = 3
code_worth Subtract = 3
code_worth _ = 2

-- a power may become a product of its operand with itself, so its operand counts twice
abbrev pub operand_worth : Code → ℕ
operand_worth Power = 2
operand_worth _ = 1

-- a view that is read counts one, and the place of its base's creator
abbrev pub op_worth : (ℕ → ℕ) → Op → ℕ
op_worth places op = code_worth op.code + operand_worth op.code * total (λ (v : Strided). 1 + places v.base) (inputs op)

abbrev pub potential : List Op → ℕ
potential list = total (op_worth (maker_place list)) list

-- ---- the normal form

-- after at most so many applications
abbrev pub normal_within : ℕ → List Op → List Op
normal_within zero list = list
normal_within (suc n) list = elim (next_rewrite list) as (λ o. List Op) [ None ↦ list | Some next ↦ normal_within n next ]

-- applications are made until none is left: a formed list has no more of them than its potential
abbrev pub normal_form : List Op → List Op
normal_form list = normal_within (potential list) list
