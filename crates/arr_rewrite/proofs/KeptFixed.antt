-- A constant that alone decides keeps the memory that a formed list leaves.
use Rattle.std.proofs.Common.{◌≡◌, ℕ, suc, zero, ℤ, pos, List, [], ◌∷◌, ◌++◌, true, refl, ap, ap₂, sym, subst, ◌∙◌, arith, Option, Some, None, length, replicate}
use Rattle.std.specs.Prelude.{is_some}
use Rattle.std.specs.List.{AllByRecursion}
use Rattle.arr_view.specs.Strided.{Strided}
use Rattle.arr_view.specs.Views.{elements, positions}
use Rattle.arr_ops.specs.Ops.{inputs}
use Rattle.arr_num.specs.Kinds.{kind}
use Rattle.arr_num.specs.Numbers.{in_type, value}
use Rattle.arr_num.specs.declared.elem.Elem.{Elem}
use Rattle.arr_num.specs.declared.code.Code.TheVariants.{Identity}
use Rattle.arr_ops.specs.Memory.{Memory, eager, step, zip_with, operand, read, out_lengths}
use Rattle.arr_ops.specs.Formed.{elementwise, plain, well_formed}
use Rattle.arr_ops.specs.declared.op.Op.{Op}
use Rattle.arr_ops.specs.declared.op.Operand.{Operand}
use Rattle.arr_ops.specs.declared.op.Operand.TheVariants.{Array, Number}
use Rattle.arr_ops.proofs.Tests.{both_left, both_right}
use Rattle.arr_ops.proofs.Typed.{zero_in, AllIn, CellFits, read_in}
use Rattle.arr_ops.proofs.Spots.{is_scalar, held, well_at, operands_of, types_of, scalar_elementwise, by_output, Plain, plain_at}
use Rattle.arr_num.proofs.Wrapping.{wrap_same}
use Rattle.arr_rewrite.specs.Rules.{fixed_right, fixed_left, fixed_to, fixed_beside, fixed_known, constant_op}
use Rattle.arr_rewrite.proofs.Codes.{OneType, fixed_right_code, fixed_left_code}
use Rattle.arr_rewrite.proofs.Fixed.{fixed_right_law, fixed_left_law}
use Rattle.arr_rewrite.proofs.Scalars.{value_identity}
use Rattle.arr_rewrite.proofs.Replace.{to_changed, computed_scalar, walk_length}
use Rattle.arr_rewrite.proofs.History.{zip_constant, length_read}
use Rattle.arr_rewrite.proofs.Kept.{same_step, KeepsMemory}
use Rattle.arr_rewrite.proofs.Parts.{at_first, at_second}

zip_right : (f : ℤ → ℤ → ℤ) (t : Elem) (c z : ℤ) → ((x : ℤ) → in_type t x ≡ true → f x c ≡ z) → (xs : List ℤ) (n : ℕ) → AllIn t xs → length xs ≡ n → zip_with f xs (replicate n c) ≡ replicate n z
zip_right f t c z h [] zero a e = refl
zip_right f t c z h [] (suc n) a e = absurd (omega arith)
zip_right f t c z h (x ∷ xs) zero a e = absurd (omega arith)
zip_right f t c z h (x ∷ xs) (suc n) a e = let p = h x a.0 in let q = zip_right f t c z h xs n a.1 (omega arith) in λ i. p i ∷ q i

zip_left : (f : ℤ → ℤ → ℤ) (t : Elem) (c z : ℤ) → ((x : ℤ) → in_type t x ≡ true → f c x ≡ z) → (xs : List ℤ) (n : ℕ) → AllIn t xs → length xs ≡ n → zip_with f (replicate n c) xs ≡ replicate n z
zip_left f t c z h [] zero a e = refl
zip_left f t c z h [] (suc n) a e = absurd (omega arith)
zip_left f t c z h (x ∷ xs) zero a e = absurd (omega arith)
zip_left f t c z h (x ∷ xs) (suc n) a e = let p = h x a.0 in let q = zip_left f t c z h xs n a.1 (omega arith) in λ i. p i ∷ q i

-- an operation whose every result is z
pub constant_results : (m : Memory) (op : Op) (z : ℤ) → is_scalar (kind op.code) ≡ true → op.slot ≡ None → in_type op.to z ≡ true
    → zip_with (value op.code op.to) (operand m (walk_length op) op.first) (operand m (walk_length op) op.second) ≡ replicate (walk_length op) z → step m op ≡ step m (constant_op op z)
constant_results m op z s none h e =
    to_changed m op Identity op.to (Some (Number z)) None none
    (computed_scalar m op s ∙ e
    ∙ ap (replicate (walk_length op)) (sym (value_identity op.to z (pos 0) ∙ wrap_same op.to z h))
    ∙ sym (zip_constant (value Identity op.to) (walk_length op) z (pos 0))
    ∙ sym (computed_scalar m (constant_op op z) refl))

-- what a constant says that alone decides
pub record Decided (op next : Op) : Type 0 where
  pub number : ℤ
  pub code : OneType op.code
  pub inside : in_type op.to number ≡ true
  pub is : constant_op op number ≡ next
  pub results : (m : Memory) → op.to ≡ op.from → AllByRecursion (λ (v : Strided). CellFits op.from (m.bases v.base)) (inputs op) → AllByRecursion (λ (v : Strided). length (elements v) ≡ walk_length op) (inputs op)
      → zip_with (value op.code op.to) (operand m (walk_length op) op.first) (operand m (walk_length op) op.second) ≡ replicate (walk_length op) number

decided : (op next : Op) (first second : Option Operand) → op.first ≡ first → op.second ≡ second → fixed_beside op first second ≡ Some next → Decided op next
decided op next (Some (Array x)) (Some (Number c)) p q e = at (fixed_right op.code op.to c) refl e
  where
    at : (o : Option ℤ) → fixed_right op.code op.to c ≡ o → fixed_to op o ≡ Some next → Decided op next
    at None r f = absurd (cc)
    at (Some z) r f = record {
      number = z;
      code = fixed_right_code op.code op.to c z r;
      inside = (fixed_right_law op.code op.to (pos 0) c z (zero_in op.to) r).1;
      is = cc;
      results = λ m same cells sizes.
          let cell : CellFits op.to (m.bases x.base) = subst (λ t. CellFits t (m.bases x.base)) (sym same) (at_first (λ (v : Strided). CellFits op.from (m.bases v.base)) op x p cells) in
          let long : length (read (m.bases x.base) (elements x)) ≡ walk_length op = length_read (m.bases x.base) (elements x) ∙ at_first (λ (v : Strided). length (elements v) ≡ walk_length op) op x p sizes in
          ap₂ (λ a b. zip_with (value op.code op.to) (operand m (walk_length op) a) (operand m (walk_length op) b)) p q
          ∙ zip_right (value op.code op.to) op.to c z (λ y k. (fixed_right_law op.code op.to y c z k r).0) (read (m.bases x.base) (elements x)) (walk_length op) (read_in op.to (m.bases x.base) (elements x) cell) long;
    }
decided op next (Some (Number c)) (Some (Array x)) p q e = at (fixed_left op.code op.to c) refl e
  where
    at : (o : Option ℤ) → fixed_left op.code op.to c ≡ o → fixed_to op o ≡ Some next → Decided op next
    at None r f = absurd (cc)
    at (Some z) r f = record {
      number = z;
      code = fixed_left_code op.code op.to c z r;
      inside = (fixed_left_law op.code op.to (pos 0) c z (zero_in op.to) r).1;
      is = cc;
      results = λ m same cells sizes.
          let cell : CellFits op.to (m.bases x.base) = subst (λ t. CellFits t (m.bases x.base)) (sym same) (at_second (λ (v : Strided). CellFits op.from (m.bases v.base)) op x q cells) in
          let long : length (read (m.bases x.base) (elements x)) ≡ walk_length op = length_read (m.bases x.base) (elements x) ∙ at_second (λ (v : Strided). length (elements v) ≡ walk_length op) op x q sizes in
          ap₂ (λ a b. zip_with (value op.code op.to) (operand m (walk_length op) a) (operand m (walk_length op) b)) p q
          ∙ zip_left (value op.code op.to) op.to c z (λ y k. (fixed_left_law op.code op.to y c z k r).0) (read (m.bases x.base) (elements x)) (walk_length op) (read_in op.to (m.bases x.base) (elements x) cell) long;
    }
decided op next None second p q e = absurd (cc)
decided op next (Some (Array x)) None p q e = absurd (cc)
decided op next (Some (Array x)) (Some (Array y)) p q e = absurd (cc)
decided op next (Some (Number x)) None p q e = absurd (cc)
decided op next (Some (Number x)) (Some (Number y)) p q e = absurd (cc)

pub decided_by : (op next : Op) → fixed_known op ≡ Some next → Decided op next
decided_by op next e = decided op next op.first op.second refl refl e

pub fixed_known_keeps : KeepsMemory fixed_known
fixed_known_keeps m front back op next h f e =
    let d : Decided op next = decided_by op next e in
    let s : is_scalar (kind op.code) ≡ true = ap is_scalar d.code.binary in
    let well : well_formed op ≡ true = well_at front back op h in
    let el : elementwise op ≡ true = scalar_elementwise (kind op.code) op s (operands_of op well) in
    by_output (λ k. eager m (front ++ op ∷ back) ≡ eager m (front ++ next ∷ back)) op
    (λ o out. let p : Plain op o = plain_at op o out well el in
    let sizes : AllByRecursion (λ (v : Strided). length (elements v) ≡ walk_length op) (inputs op) =
    subst (λ k. AllByRecursion (λ (v : Strided). length (elements v) ≡ k) (inputs op)) (sym (ap (λ u. positions (out_lengths u)) out)) p.sizes in
    same_step m front back op next
    (constant_results (eager m front) op d.number s p.no_slot d.inside (d.results (eager m front) (d.code.types op (types_of op well)) (held m front back op h f) sizes) ∙ ap (step (eager m front)) d.is))
    (both_left (is_some op.out) _ (both_right (plain op) _ el))
