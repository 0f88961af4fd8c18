-- A constant that changes nothing keeps the memory that a formed list leaves.
use Rattle.std.proofs.Common.{◌≡◌, List, ◌∷◌, ◌++◌, true, refl, ap, sym, subst, ◌∙◌, Option, Some, None}
use Rattle.std.specs.Prelude.{is_none}
use Rattle.std.specs.List.{AllByRecursion}
use Rattle.arr_view.specs.Strided.{Strided}
use Rattle.arr_ops.specs.Ops.{inputs}
use Rattle.arr_num.specs.Kinds.{kind}
use Rattle.arr_ops.specs.Memory.{Memory, eager, step}
use Rattle.arr_ops.specs.Formed.{elementwise, plain, well_formed}
use Rattle.arr_ops.specs.Fits.{fits}
use Rattle.arr_rewrite.specs.Rules.{neutral_right, neutral_left, neutral_beside, neutral_dropped, copy_op}
use Rattle.arr_ops.proofs.Spots.{is_scalar, Formed, held, well_at, operands_of, types_of, scalar_elementwise, none_from}
use Rattle.arr_ops.specs.declared.op.Op.{Op}
use Rattle.arr_ops.specs.declared.op.Operand.{Operand}
use Rattle.arr_ops.specs.declared.op.Operand.TheVariants.{Array, Number}
use Rattle.arr_ops.proofs.Tests.{both_left, both_right}
use Rattle.arr_rewrite.proofs.Codes.{OneType, neutral_right_code, neutral_left_code}
use Rattle.arr_rewrite.proofs.Agree.{eager-append}
use Rattle.arr_ops.proofs.Typed.{CellFits}
use Rattle.arr_rewrite.proofs.Options.{some_true}
use Rattle.arr_rewrite.proofs.Replace.{neutral_keeps}

pub same_step : (m : Memory) (front back : List Op) (op next : Op) → step (eager m front) op ≡ step (eager m front) next → eager m (front ++ op ∷ back) ≡ eager m (front ++ next ∷ back)
same_step m front back op next e = eager-append m front (op ∷ back) ∙ ap (λ k. eager k back) e ∙ sym (eager-append m front (next ∷ back))

-- a rule on one operation keeps the memory that a formed list leaves
abbrev pub KeepsMemory : (Op → Option Op) → Type 0
KeepsMemory rule =
    (m : Memory) (front back : List Op) (op next : Op) → Formed (front ++ op ∷ back) → fits m (front ++ op ∷ back) ≡ true → rule op ≡ Some next
    → eager m (front ++ op ∷ back) ≡ eager m (front ++ next ∷ back)

-- the code of an operation beside a constant that changes nothing
pub neutral_code : (op next : Op) (first second : Option Operand) → neutral_beside op first second ≡ Some next → OneType op.code
neutral_code op next (Some (Array x)) (Some (Number c)) e = neutral_right_code op.code op.to c (some_true (neutral_right op.code op.to c) (copy_op op x) next e)
neutral_code op next (Some (Number c)) (Some (Array x)) e = neutral_left_code op.code op.to c (some_true (neutral_left op.code op.to c) (copy_op op x) next e)
neutral_code op next None second e = absurd (cc)
neutral_code op next (Some (Array x)) None e = absurd (cc)
neutral_code op next (Some (Array x)) (Some (Array y)) e = absurd (cc)
neutral_code op next (Some (Number x)) None e = absurd (cc)
neutral_code op next (Some (Number x)) (Some (Number y)) e = absurd (cc)

pub neutral_dropped_keeps : (m : Memory) (front back : List Op) (op next : Op) → Formed (front ++ op ∷ back) → fits m (front ++ op ∷ back) ≡ true
    → neutral_dropped op ≡ Some next → eager m (front ++ op ∷ back) ≡ eager m (front ++ next ∷ back)
neutral_dropped_keeps m front back op next formed fit e =
    let well : well_formed op ≡ true = well_at front back op formed in
    let about : OneType op.code = neutral_code op next op.first op.second e in
    let el : elementwise op ≡ true = scalar_elementwise (kind op.code) op (ap is_scalar about.binary) (operands_of op well) in
    let none : op.slot ≡ None = none_from op.slot (both_left (is_none op.slot) _ (both_right (is_none op.axis) _ (both_left (plain op) _ el))) in
    same_step m front back op next
    (neutral_keeps (eager m front) op next op.first op.second refl refl none
    (subst (λ t. AllByRecursion (λ (v : Strided). CellFits t ((eager m front).bases v.base)) (inputs op)) (sym (about.types op (types_of op well))) (held m front back op formed fit)) e)
