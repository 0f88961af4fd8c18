-- Operations with the same results make the same step.
use Rattle.std.proofs.Common.{◌≡◌, ℕ, suc, zero, ℤ, pos, List, [], ◌∷◌, ◌++◌, true, ◌||◌, refl, ap, ap₂, sym, ◌∙◌, Option, Some, None, replicate}
use Rattle.std.proofs.lemmas.Bool.{false≢true}
use Rattle.std.specs.List.{AllByRecursion}
use Rattle.arr_view.specs.Strided.{Strided}
use Rattle.arr_view.specs.Views.{elements, positions}
use Rattle.arr_ops.specs.Ops.{view_of}
use Rattle.arr_num.specs.Kinds.{binds_two, binds_one, Kind, Binary, Unary, kind}
use Rattle.arr_num.specs.Numbers.{in_type, value}
use Rattle.arr_ops.specs.Memory.{Memory, Slot, changed, change, slot_after, read, put, computed, step, results, results_of, zip_with, lengths_of, out_lengths, or_zero, first_numbers, operand}
use Rattle.arr_rewrite.specs.Rules.{is_scalar as scalar_code, changed_op, copy_op, neutral_right, neutral_left, neutral_beside}
use Rattle.arr_ops.proofs.Spots.{is_scalar}
use Rattle.arr_num.specs.declared.elem.Elem.{Elem}
use Rattle.arr_num.specs.declared.code.Code.{Code}
use Rattle.arr_num.specs.declared.code.Code.TheVariants.{Identity, Range}
use Rattle.arr_ops.specs.declared.op.Op.{Op}
use Rattle.arr_ops.specs.declared.op.Operand.{Operand}
use Rattle.arr_ops.specs.declared.op.Operand.TheVariants.{Array, Number}
use Rattle.arr_num.proofs.Wrapping.{wrap_same}
use Rattle.arr_rewrite.proofs.Codes.{neutral_right_code, neutral_left_code}
use Rattle.arr_rewrite.proofs.Options.{some_true, some_same}
use Rattle.arr_rewrite.proofs.Scalars.{value_identity, neutral_right_law, neutral_left_law}
use Rattle.arr_ops.proofs.Typed.{AllIn, CellFits, read_in}

-- ---- the same results, the same step

pub to_changed : (m : Memory) (op : Op) (code : Code) (from : Elem) (first second : Option Operand) → op.slot ≡ None
    → computed m op ≡ computed m (changed_op op code from first second) → step m op ≡ step m (changed_op op code from first second)
to_changed m op code from first second none e =
    let other : Op = changed_op op code from first second in
    let xs : List ℤ = computed m other in
    let a : Slot = record { elem = op.from; lengths = lengths_of op.first; numbers = xs } in
    let b : Slot = record { elem = from; lengths = lengths_of first; numbers = xs } in
    let slots : (s : ℕ) → slot_after op.slot a s (m.slots s) ≡ slot_after op.slot b s (m.slots s) =
    λ s. ap (λ k. slot_after k a s (m.slots s)) none ∙ sym (ap (λ k. slot_after k b s (m.slots s)) none) in
    let last : put m op xs ≡ put m other xs = λ i. record { bases = λ b. changed (change op xs b) (m.bases b); slots = λ s. slots s i } in
    ap (put m op) e ∙ last

first_operand : (code : Code) (m : Memory) (n : ℕ) (o : Option Operand) → is_scalar (kind code) ≡ true → first_numbers code m n o ≡ operand m n o
first_operand Range m n o h = absurd (false≢true h)
first_operand _ m n o h = refl

pub scalar_kind : (code : Code) → scalar_code code ≡ true → is_scalar (kind code) ≡ true
scalar_kind code h = at (kind code) h
  where
    at : (k : Kind) → (binds_two k || binds_one k) ≡ true → is_scalar k ≡ true
    at Binary h = refl
    at Unary h = refl
    at _ h = absurd (false≢true h)

results_kind : (k : Kind) (code : Code) (t : Elem) (lengths : List ℕ) (axis : ℕ) (xs ys : List ℤ) → is_scalar k ≡ true → results_of k code t lengths axis xs ys ≡ zip_with (value code t) xs ys
results_kind Binary code t lengths axis xs ys h = refl
results_kind Unary code t lengths axis xs ys h = refl
results_kind _ code t lengths axis xs ys h = absurd (false≢true h)

results_zip : (code : Code) (t : Elem) (lengths : List ℕ) (axis : ℕ) (xs ys : List ℤ) → is_scalar (kind code) ≡ true → results code t lengths axis xs ys ≡ zip_with (value code t) xs ys
unfolding results
results_zip code t lengths axis xs ys h = results_kind (kind code) code t lengths axis xs ys h

abbrev pub walk_length : Op → ℕ
walk_length op = positions (out_lengths op.out)

pub computed_scalar : (m : Memory) (op : Op) → is_scalar (kind op.code) ≡ true
    → computed m op ≡ zip_with (value op.code op.to) (operand m (walk_length op) op.first) (operand m (walk_length op) op.second)
computed_scalar m op h =
    ap (λ xs. results op.code op.to (lengths_of op.first) (or_zero op.axis) xs (operand m (walk_length op) op.second)) (first_operand op.code m (walk_length op) op.first h)
    ∙ results_zip op.code op.to (lengths_of op.first) (or_zero op.axis) _ _ h

-- ---- a constant that changes nothing

zip_right : (t : Elem) (f : ℤ → ℤ → ℤ) (c : ℤ) → ((x : ℤ) → in_type t x ≡ true → f x c ≡ x) → (xs : List ℤ) (n : ℕ) → AllIn t xs
    → zip_with f xs (replicate n c) ≡ zip_with (value Identity t) xs (replicate n (pos 0))
zip_right t f c h [] n a = refl
zip_right t f c h (x ∷ xs) zero a = refl
zip_right t f c h (x ∷ xs) (suc n) a =
    let p : f x c ≡ value Identity t x (pos 0) = h x a.0 ∙ sym (value_identity t x (pos 0) ∙ wrap_same t x a.0) in
    let q = zip_right t f c h xs n a.1 in
    λ i. p i ∷ q i

zip_left : (t : Elem) (f : ℤ → ℤ → ℤ) (c : ℤ) → ((x : ℤ) → in_type t x ≡ true → f c x ≡ x) → (xs : List ℤ) (n : ℕ) → AllIn t xs
    → zip_with f (replicate n c) xs ≡ zip_with (value Identity t) xs (replicate n (pos 0))
zip_left t f c h [] zero a = refl
zip_left t f c h [] (suc n) a = refl
zip_left t f c h (x ∷ xs) zero a = refl
zip_left t f c h (x ∷ xs) (suc n) a =
    let p : f c x ≡ value Identity t x (pos 0) = h x a.0 ∙ sym (value_identity t x (pos 0) ∙ wrap_same t x a.0) in
    let q = zip_left t f c h xs n a.1 in
    λ i. p i ∷ q i

pub neutral_keeps : (m : Memory) (op next : Op) (first second : Option Operand) → op.first ≡ first → op.second ≡ second → op.slot ≡ None
    → AllByRecursion (λ (v : Strided). CellFits op.to (m.bases v.base)) (view_of first ++ view_of second)
    → neutral_beside op first second ≡ Some next → step m op ≡ step m next
neutral_keeps m op next (Some (Array x)) (Some (Number c)) p q none h e =
    let test : neutral_right op.code op.to c ≡ true = some_true (neutral_right op.code op.to c) (copy_op op x) next e in
    let n : ℕ = walk_length op in
    to_changed m op Identity op.from (Some (Array x)) None none
    (computed_scalar m op (ap is_scalar (neutral_right_code op.code op.to c test).binary)
    ∙ ap₂ (λ a b. zip_with (value op.code op.to) (operand m n a) (operand m n b)) p q
    ∙ zip_right op.to (value op.code op.to) c (λ z k. neutral_right_law op.code op.to z c k test) (read (m.bases x.base) (elements x)) n (read_in op.to (m.bases x.base) (elements x) h.0)
    ∙ sym (computed_scalar m (copy_op op x) refl))
    ∙ ap (step m) (some_same (neutral_right op.code op.to c) (copy_op op x) next e)
neutral_keeps m op next (Some (Number c)) (Some (Array x)) p q none h e =
    let test : neutral_left op.code op.to c ≡ true = some_true (neutral_left op.code op.to c) (copy_op op x) next e in
    let n : ℕ = walk_length op in
    to_changed m op Identity op.from (Some (Array x)) None none
    (computed_scalar m op (ap is_scalar (neutral_left_code op.code op.to c test).binary)
    ∙ ap₂ (λ a b. zip_with (value op.code op.to) (operand m n a) (operand m n b)) p q
    ∙ zip_left op.to (value op.code op.to) c (λ z k. neutral_left_law op.code op.to z c k test) (read (m.bases x.base) (elements x)) n (read_in op.to (m.bases x.base) (elements x) h.0)
    ∙ sym (computed_scalar m (copy_op op x) refl))
    ∙ ap (step m) (some_same (neutral_left op.code op.to c) (copy_op op x) next e)
neutral_keeps m op next None second p q none h e = absurd (cc)
neutral_keeps m op next (Some (Array x)) None p q none h e = absurd (cc)
neutral_keeps m op next (Some (Array x)) (Some (Array y)) p q none h e = absurd (cc)
neutral_keeps m op next (Some (Number x)) None p q none h e = absurd (cc)
neutral_keeps m op next (Some (Number x)) (Some (Number y)) p q none h e = absurd (cc)
