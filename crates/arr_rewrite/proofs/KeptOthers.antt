-- Constants folded, and subtractions turned, keep the memory that a formed list leaves.
use Rattle.std.proofs.Common.{◌≡◌, ℕ, ◌+◌, ◌%◌, suc, zero, ℤ, pos, List, [], ◌∷◌, ◌++◌, true, false, cond, not, ◌&&◌, refl, ap, ap₂, sym, ◌∙◌, arith, Option, Some, None, replicate}
use Rattle.std.proofs.lemmas.Int.{ints}
use Rattle.std.specs.Prelude.{◌+ℤ◌, ◌-ℤ◌, is_none}
use Rattle.arr_view.specs.Views.{elements}
use Rattle.arr_num.specs.Kinds.{kind}
use Rattle.arr_num.specs.Numbers.{value, wrap, digits, size}
use Rattle.arr_ops.specs.Memory.{Memory, eager, step, zip_with, operand, read}
use Rattle.arr_ops.specs.Formed.{elementwise, plain, well_formed}
use Rattle.arr_ops.proofs.Spots.{is_scalar, well_at, operands_of, scalar_elementwise, none_from}
use Rattle.arr_rewrite.specs.Rules.{is_scalar as scalar_code, is_identity, constant_folded, known_value, constant_op, subtraction_turned, less_constant, code_op}
use Rattle.arr_num.specs.declared.elem.Elem.{Elem}
use Rattle.arr_num.specs.declared.code.Code.{Code}
use Rattle.arr_num.specs.declared.code.Code.TheVariants.{Add, Subtract, Identity}
use Rattle.arr_ops.specs.declared.op.Op.{Op}
use Rattle.arr_ops.specs.declared.op.Operand.{Operand}
use Rattle.arr_ops.specs.declared.op.Operand.TheVariants.{Array, Number}
use Rattle.arr_ops.proofs.Tests.{both_left, both_right}
use Rattle.arr_num.proofs.Wrapping.{wrap_same, wrap_by_digits, digits_wrap}
use Rattle.arr_ops.proofs.Typed.{in_type_value}
use Rattle.arr_rewrite.proofs.Scalars.{value_identity}
use Rattle.arr_num.proofs.Products.{digits_add}
use Rattle.arr_rewrite.proofs.Replace.{scalar_kind, to_changed, computed_scalar, walk_length}
use Rattle.arr_rewrite.proofs.History.{zip_constant}
use Rattle.arr_rewrite.proofs.Kept.{same_step, KeepsMemory}

no_slot_of : (op : Op) → is_scalar (kind op.code) ≡ true → well_formed op ≡ true → op.slot ≡ None
no_slot_of op s h =
    let el : elementwise op ≡ true = scalar_elementwise (kind op.code) op s (operands_of op h) in
    none_from op.slot (both_left (is_none op.slot) _ (both_right (is_none op.axis) _ (both_left (plain op) _ el)))

-- ---- constants alone

constant_step : (m : Memory) (op : Op) (x y : ℤ) (second : Option Operand) → is_scalar (kind op.code) ≡ true → op.slot ≡ None → op.first ≡ Some (Number x) → op.second ≡ second
    → ((n : ℕ) → operand m n second ≡ replicate n y) → step m op ≡ step m (constant_op op (value op.code op.to x y))
constant_step m op x y second s none p q r =
    let n : ℕ = walk_length op in
    let v : ℤ = value op.code op.to x y in
    to_changed m op Identity op.to (Some (Number v)) None none
    (computed_scalar m op s
    ∙ ap₂ (λ a b. zip_with (value op.code op.to) (operand m n a) (operand m n b)) p q
    ∙ ap (λ ys. zip_with (value op.code op.to) (replicate n x) ys) (r n)
    ∙ zip_constant (value op.code op.to) n x y
    ∙ ap (replicate n) (sym (value_identity op.to v (pos 0) ∙ wrap_same op.to v (in_type_value op.code op.to x y)))
    ∙ sym (zip_constant (value Identity op.to) n v (pos 0))
    ∙ sym (computed_scalar m (constant_op op v) refl))

folded_step : (m : Memory) (op next : Op) (first second : Option Operand) → is_scalar (kind op.code) ≡ true → op.slot ≡ None → op.first ≡ first → op.second ≡ second
    → known_value op first second ≡ Some next → step m op ≡ step m next
folded_step m op next (Some (Number x)) (Some (Number y)) s none p q e =
    let same : constant_op op (value op.code op.to x y) ≡ next = cc in constant_step m op x y (Some (Number y)) s none p q (λ n. refl) ∙ ap (step m) same
folded_step m op next (Some (Number x)) None s none p q e =
    let same : constant_op op (value op.code op.to x (pos 0)) ≡ next = cc in constant_step m op x (pos 0) None s none p q (λ n. refl) ∙ ap (step m) same
folded_step m op next (Some (Number x)) (Some (Array y)) s none p q e = absurd (cc)
folded_step m op next (Some (Array x)) second s none p q e = absurd (cc)
folded_step m op next None second s none p q e = absurd (cc)

pub constant_folded_keeps : KeepsMemory constant_folded
constant_folded_keeps m front back op next h f e =
    elim (scalar_code op.code) as (λ t. scalar_code op.code ≡ t → cond (t && not (is_identity op.code)) (known_value op op.first op.second) None ≡ Some next
    → eager m (front ++ op ∷ back) ≡ eager m (front ++ next ∷ back)) [
      | false ↦ λ s g. absurd (cc)
      | true ↦ λ t g.
          let s : is_scalar (kind op.code) ≡ true = scalar_kind op.code t in
          elim (not (is_identity op.code)) as (λ t. cond t (known_value op op.first op.second) None ≡ Some next → eager m (front ++ op ∷ back) ≡ eager m (front ++ next ∷ back)) [
            | false ↦ λ k. absurd (cc)
            | true ↦ λ k. same_step m front back op next (folded_step (eager m front) op next op.first op.second s (no_slot_of op s (well_at front back op h)) refl refl k)
          ] g
    ] refl e

-- ---- a constant that is subtracted

subtract_add : (t : Elem) (x c : ℤ) → value Subtract t x c ≡ value Add t x (wrap t (pos 0 -ℤ c))
unfolding value
subtract_add t x c =
    let split : x -ℤ c ≡ x +ℤ (pos 0 -ℤ c) = omega (arith, ints) in
    ap (wrap t) split
    ∙ wrap_by_digits t _ _ (digits_add t x (pos 0 -ℤ c) ∙ sym (digits_add t x (wrap t (pos 0 -ℤ c)) ∙ ap (λ k. (digits t x + k) % size t) (digits_wrap t (pos 0 -ℤ c))))

zip_turned : (t : Elem) (c : ℤ) (xs : List ℤ) (n : ℕ) → zip_with (value Subtract t) xs (replicate n c) ≡ zip_with (value Add t) xs (replicate n (wrap t (pos 0 -ℤ c)))
zip_turned t c [] n = refl
zip_turned t c (x ∷ xs) zero = refl
zip_turned t c (x ∷ xs) (suc n) = let p = subtract_add t x c in let q = zip_turned t c xs n in λ i. p i ∷ q i

turned_step : (m : Memory) (op next : Op) (code : Code) (first second : Option Operand) → op.slot ≡ None → op.code ≡ code → op.first ≡ first → op.second ≡ second
    → less_constant code op first second ≡ Some next → step m op ≡ step m next
turned_step m op next Subtract (Some (Array x)) (Some (Number c)) none r p q e =
    let n : ℕ = walk_length op in
    let w : ℤ = wrap op.to (pos 0 -ℤ c) in
    let same : code_op op Add x (Number (wrap op.to (pos 0 -ℤ c))) ≡ next = cc in
    to_changed m op Add op.from (Some (Array x)) (Some (Number (wrap op.to (pos 0 -ℤ c)))) none
    (computed_scalar m op (ap (λ c. is_scalar (kind c)) r)
    ∙ ap (λ c. zip_with (value c op.to) (operand m n op.first) (operand m n op.second)) r
    ∙ ap₂ (λ a b. zip_with (value Subtract op.to) (operand m n a) (operand m n b)) p q
    ∙ zip_turned op.to c (read (m.bases x.base) (elements x)) n
    ∙ sym (computed_scalar m (code_op op Add x (Number (wrap op.to (pos 0 -ℤ c)))) refl))
    ∙ ap (step m) same
turned_step m op next Subtract None second none r p q e = absurd (cc)
turned_step m op next Subtract (Some (Number x)) second none r p q e = absurd (cc)
turned_step m op next Subtract (Some (Array x)) None none r p q e = absurd (cc)
turned_step m op next Subtract (Some (Array x)) (Some (Array y)) none r p q e = absurd (cc)
turned_step m op next _ first second none r p q e = absurd (cc)

scalar_less : (code : Code) (op next : Op) (first second : Option Operand) → less_constant code op first second ≡ Some next → is_scalar (kind code) ≡ true
scalar_less Subtract op next first second e = refl
scalar_less _ op next first second e = absurd (cc)

pub subtraction_turned_keeps : KeepsMemory subtraction_turned
subtraction_turned_keeps m front back op next h f e =
    same_step m front back op next
    (turned_step (eager m front) op next op.code op.first op.second (no_slot_of op (scalar_less op.code op next op.first op.second e) (well_at front back op h)) refl refl refl e)
