-- A small power keeps the memory that a formed list leaves.
use Rattle.std.proofs.Common.{◌≡◌, ℕ, ◌*◌, ◌^◌, suc, zero, ℤ, pos, negsuc, List, [], ◌∷◌, ◌++◌, true, false, cond, refl, ap, ap₂, sym, ◌∙◌, arith, Option, Some, None, replicate, length}
use Rattle.std.proofs.lemmas.Int.{ints}
use Rattle.std.proofs.Math.Nat.{pow-zero, pow-suc}
use Rattle.std.proofs.Math.IntN.{pos-*ℤ-pos, negsuc-*ℤ-negsuc}
use Rattle.std.specs.Prelude.{◌*ℤ◌, is_some}
use Rattle.std.specs.Int.{int_pow}
use Rattle.arr_view.specs.Strided.{Strided}
use Rattle.arr_view.specs.Views.{elements, positions}
use Rattle.arr_num.specs.Kinds.{kind}
use Rattle.arr_num.specs.Numbers.{value, wrap, same}
use Rattle.arr_ops.specs.Memory.{Memory, eager, step, zip_with, operand, read, computed, out_lengths}
use Rattle.arr_ops.specs.Formed.{elementwise, plain, well_formed}
use Rattle.arr_ops.proofs.Spots.{is_scalar, well_at, operands_of, scalar_elementwise, by_output, Plain, plain_at}
use Rattle.arr_rewrite.specs.Rules.{power_unrolled, small_power, constant_op, copy_op, code_op}
use Rattle.std.specs.Bool.{then_some}
use Rattle.arr_num.specs.declared.elem.Elem.{Elem}
use Rattle.arr_num.specs.declared.code.Code.{Code}
use Rattle.arr_num.specs.declared.code.Code.TheVariants.{Power, Multiply, Identity}
use Rattle.arr_ops.specs.declared.op.Op.{Op}
use Rattle.arr_ops.specs.declared.op.Operand.{Operand}
use Rattle.arr_ops.specs.declared.op.Operand.TheVariants.{Array, Number}
use Rattle.arr_ops.proofs.Tests.{both_left, both_right}
use Rattle.arr_num.proofs.Wrapping.{same_is}
use Rattle.arr_rewrite.proofs.Options.{some_true, some_same}
use Rattle.arr_rewrite.proofs.Replace.{to_changed, computed_scalar, walk_length}
use Rattle.arr_rewrite.proofs.Kept.{same_step, KeepsMemory}
use Rattle.arr_rewrite.proofs.History.{length_read}
use Rattle.arr_rewrite.proofs.Parts.{at_first}

power_none : (x : ℤ) → int_pow x 0 ≡ pos 1
power_none (pos n) = ap pos (pow-zero n)
power_none (negsuc n) = ap pos (pow-zero (suc n))

to_one : (n : ℕ) → n ^ 1 ≡ n
to_one n = let a : n ^ suc 0 ≡ n ^ 0 * n = pow-suc n 0 in let b : n ^ 0 ≡ 1 = pow-zero n in a ∙ ap (λ k. k * n) b ∙ (let c : 1 * n ≡ n = omega arith in c)

to_two : (n : ℕ) → n ^ 2 ≡ n * n
to_two n = let a : n ^ suc 1 ≡ n ^ 1 * n = pow-suc n 1 in a ∙ ap (λ k. k * n) (to_one n)

power_one : (x : ℤ) → int_pow x 1 ≡ x
power_one (pos n) = ap pos (to_one n)
power_one (negsuc n) = let e : suc n ^ 1 ≡ suc n = to_one (suc n) in omega (arith, ints)

power_two : (x : ℤ) → int_pow x 2 ≡ x *ℤ x
power_two (pos n) = ap pos (to_two n) ∙ sym (pos-*ℤ-pos n n)
power_two (negsuc n) = ap pos (to_two (suc n)) ∙ sym (negsuc-*ℤ-negsuc n n)

zip_none : (t : Elem) (xs : List ℤ) (n : ℕ) → length xs ≡ n → zip_with (value Power t) xs (replicate n (pos 0)) ≡ zip_with (value Identity t) (replicate n (pos 1)) (replicate n (pos 0))
unfolding value
zip_none t [] zero e = refl
zip_none t [] (suc n) e = absurd (omega arith)
zip_none t (x ∷ xs) zero e = absurd (omega arith)
zip_none t (x ∷ xs) (suc n) e = let p = ap (wrap t) (power_none x) in let q = zip_none t xs n (omega arith) in λ i. p i ∷ q i

zip_one : (t : Elem) (xs : List ℤ) (n : ℕ) → zip_with (value Power t) xs (replicate n (pos 1)) ≡ zip_with (value Identity t) xs (replicate n (pos 0))
unfolding value
zip_one t [] n = refl
zip_one t (x ∷ xs) zero = refl
zip_one t (x ∷ xs) (suc n) = let p = ap (wrap t) (power_one x) in let q = zip_one t xs n in λ i. p i ∷ q i

zip_two : (t : Elem) (xs : List ℤ) (n : ℕ) → length xs ≡ n → zip_with (value Power t) xs (replicate n (pos 2)) ≡ zip_with (value Multiply t) xs xs
unfolding value
zip_two t [] n e = refl
zip_two t (x ∷ xs) zero e = absurd (omega arith)
zip_two t (x ∷ xs) (suc n) e = let p = ap (wrap t) (power_two x) in let q = zip_two t xs n (omega arith) in λ i. p i ∷ q i

power_step : (m : Memory) (op next : Op) (code : Code) (first second : Option Operand) → op.slot ≡ None → op.code ≡ code → op.first ≡ first → op.second ≡ second
    → ((x : Strided) → first ≡ Some (Array x) → length (elements x) ≡ walk_length op) → small_power code op first second ≡ Some next → step m op ≡ step m next
power_step m op next Power (Some (Array x)) (Some (Number c)) none r p q size e =
    let n : ℕ = walk_length op in
    let xs : List ℤ = read (m.bases x.base) (elements x) in
    let long : length (read (m.bases x.base) (elements x)) ≡ walk_length op = length_read (m.bases x.base) (elements x) ∙ size x refl in
    let got : computed m op ≡ zip_with (value Power op.to) xs (replicate n c) =
    computed_scalar m op (ap (λ c. is_scalar (kind c)) r)
    ∙ ap (λ c. zip_with (value c op.to) (operand m n op.first) (operand m n op.second)) r
    ∙ ap₂ (λ a b. zip_with (value Power op.to) (operand m n a) (operand m n b)) p q in
    elim (same c (pos 0)) as (λ t. same c (pos 0) ≡ t → cond t (Some (constant_op op (pos 1))) (cond (same c (pos 1)) (Some (copy_op op x)) (then_some (same c (pos 2)) (code_op op Multiply x (Array x)))) ≡ Some next → step m op ≡ step m next) [
      | true ↦ λ t f.
          let new : constant_op op (pos 1) ≡ next = cc in
          to_changed m op Identity op.to (Some (Number (pos 1))) None none
          (got ∙ ap (λ z. zip_with (value Power op.to) xs (replicate n z)) (same_is c (pos 0) t) ∙ zip_none op.to xs n long ∙ sym (computed_scalar m (constant_op op (pos 1)) refl)) ∙ ap (step m) new
      | false ↦ λ t f.
          elim (same c (pos 1)) as (λ t. same c (pos 1) ≡ t → cond t (Some (copy_op op x)) (then_some (same c (pos 2)) (code_op op Multiply x (Array x))) ≡ Some next → step m op ≡ step m next) [
            | true ↦ λ t f.
                let new : copy_op op x ≡ next = cc in
                to_changed m op Identity op.from (Some (Array x)) None none
                (got ∙ ap (λ z. zip_with (value Power op.to) xs (replicate n z)) (same_is c (pos 1) t) ∙ zip_one op.to xs n ∙ sym (computed_scalar m (copy_op op x) refl)) ∙ ap (step m) new
            | false ↦ λ t f.
                let two : c ≡ pos 2 = same_is c (pos 2) (some_true (same c (pos 2)) (code_op op Multiply x (Array x)) next f) in
                to_changed m op Multiply op.from (Some (Array x)) (Some (Array x)) none
                (got ∙ ap (λ z. zip_with (value Power op.to) xs (replicate n z)) two ∙ zip_two op.to xs n long ∙ sym (computed_scalar m (code_op op Multiply x (Array x)) refl))
                ∙ ap (step m) (some_same (same c (pos 2)) (code_op op Multiply x (Array x)) next f)
          ] refl f
    ] refl e
power_step m op next Power None second none r p q size e = absurd (cc)
power_step m op next Power (Some (Number x)) second none r p q size e = absurd (cc)
power_step m op next Power (Some (Array x)) None none r p q size e = absurd (cc)
power_step m op next Power (Some (Array x)) (Some (Array y)) none r p q size e = absurd (cc)
power_step m op next _ first second none r p q size e = absurd (cc)

power_scalar : (code : Code) (op next : Op) (first second : Option Operand) → small_power code op first second ≡ Some next → is_scalar (kind code) ≡ true
power_scalar Power op next first second e = refl
power_scalar _ op next first second e = absurd (cc)

pub power_unrolled_keeps : KeepsMemory power_unrolled
power_unrolled_keeps m front back op next h f e =
    let well : well_formed op ≡ true = well_at front back op h in
    let el : elementwise op ≡ true = scalar_elementwise (kind op.code) op (power_scalar op.code op next op.first op.second e) (operands_of op well) in
    by_output (λ k. eager m (front ++ op ∷ back) ≡ eager m (front ++ next ∷ back)) op
    (λ o out. let p : Plain op o = plain_at op o out well el in
    same_step m front back op next
    (power_step (eager m front) op next op.code op.first op.second p.no_slot refl refl refl
    (λ x first. at_first (λ (v : Strided). length (elements v) ≡ positions o.lengths) op x first p.sizes ∙ sym (ap (λ u. positions (out_lengths u)) out)) e))
    (both_left (is_some op.out) _ (both_right (plain op) _ el))
