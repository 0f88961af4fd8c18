-- The sum of an array, number by number, and its lines.
use Rattle.std.proofs.Common.{◌≡◌, ◌∙◌, ℕ, ◌+◌, ◌*◌, ◌^◌, ◌<◌, ◌≤◌, ℤ, pos, ◌+ℤ◌, ◌≤ℤ◌, List, ◌++◌, length, drop, get_or, true, false, Option, Some, None, FitsSigned, to_z, of_z, codes, decimal, ap, ap₂, sym, subst, arith}
use Rattle.std.specs.Int.{w128}
use Rattle.std.specs.Fmt.{signed_decimal}
use Rattle.std.proofs.Math.IntN.{+ℤ_assoc, +ℤ_idr}
use Rattle.std.proofs.lemmas.Int.{ints}
use Rattle.std.proofs.lemmas.List.{drop_more, drop_all}
use Rattle.arr_num.proofs.Reading.{read}
use Rattle.arr_num.proofs.Wrapping.{high_of_type, low_of_type}
use Rattle.arr_ops.specs.Memory.{Slot, lengths_of}
use Rattle.arr_ops.specs.declared.op.Op.{Op}
use Rattle.arr_ops.specs.declared.op.Operand.TheVariants.{Array}
use Rattle.arr_store.specs.Slots.{slot_number, slot_takes}
use Rattle.arr_view.specs.Strided.{Strided}
use Rattle.arr_listing.specs.Shown.{Shows, numbers_of}
use Rattle.arr_listing.specs.Texts.{numbers_text, type_name}
use Rattle.arr_listing.specs.Totals.{plain_sum, shown_total, total_text}
use Rattle.arr_listing.proofs.Rows.{number_is}

-- a sum of so many numbers of 64 bits
pub record Bounded (count : ℕ) (sum : ℤ) : Type 0 where
  pub low : pos 0 ≤ℤ (sum +ℤ pos (count * 2 ^ 64))
  pub high : sum ≤ℤ pos (count * 2 ^ 64)

-- a slot gives a number of 64 bits
one_bounded : (o : Option Slot) (z : ℤ) → slot_takes o z ≡ true → Bounded 1 z
one_bounded None z h = absurd (let f : false ≡ true = h in cc)
one_bounded (Some s) z h = let a = low_of_type s.elem z h in let b = high_of_type s.elem z h in record { low = omega (arith, ints); high = omega (arith, ints) }

one_more : (count : ℕ) (sum z : ℤ) → Bounded count sum → Bounded 1 z → Bounded (count + 1) (sum +ℤ z)
one_more count sum z b c =
    let a = b.low in
    let d = b.high in
    let e = c.low in
    let f = c.high in
    record { low = omega (arith, ints); high = omega (arith, ints) }

bounded_fits : (count : ℕ) (sum : ℤ) → count ≤ 1048576 → Bounded count sum → FitsSigned w128 sum
bounded_fits count sum few b = let a = b.low in let d = b.high in omega (arith, ints)

sum_turn : (ns : List ℤ) (i : ℕ) (sum z : ℤ) → i < length ns → z ≡ get_or ns i (pos 0) → (sum +ℤ z) +ℤ plain_sum (drop (i + 1) ns) ≡ sum +ℤ plain_sum (drop i ns)
sum_turn ns i sum z h is =
    +ℤ_assoc sum z (plain_sum (drop (i + 1) ns)) ∙ ap (λ n. sum +ℤ (n +ℤ plain_sum (drop (i + 1) ns))) is ∙ ap (λ xs. sum +ℤ plain_sum xs) (sym (drop_more ns i (pos 0) h))

-- one number more of a slot, as it is kept
pub record Added (ns : List ℤ) (i : ℕ) (sum z : ℤ) : Type 0 where
  pub fits : FitsSigned w128 (sum +ℤ to_z w128 (of_z w128 z))
  pub total : to_z w128 (of_z w128 (sum +ℤ to_z w128 (of_z w128 z))) +ℤ plain_sum (drop (i + 1) ns) ≡ sum +ℤ plain_sum (drop i ns)
  pub bounded : Bounded (i + 1) (to_z w128 (of_z w128 (sum +ℤ to_z w128 (of_z w128 z))))

pub added : (o : Option Slot) (i : ℕ) (sum z : ℤ) → i < length (numbers_of o) → i < 1048576 → slot_takes o z ≡ true → z ≡ slot_number o i → Bounded i sum → Added (numbers_of o) i sum z
added o i sum z inside few typed is b =
    let own : Bounded 1 z = one_bounded o z typed in
    let same : to_z w128 (of_z w128 z) ≡ z = read z (bounded_fits 1 z (omega arith) own) in
    let next : ℤ = sum +ℤ to_z w128 (of_z w128 z) in
    let more : Bounded (i + 1) next = subst (λ x. Bounded (i + 1) (sum +ℤ x)) (sym same) (one_more i sum z b own) in
    let fits : FitsSigned w128 next = bounded_fits (i + 1) next (omega arith) more in
    let kept : to_z w128 (of_z w128 next) ≡ next = read next fits in
    record {
      fits = fits;
      total = ap (λ x. x +ℤ plain_sum (drop (i + 1) (numbers_of o))) (kept ∙ ap (λ x. sum +ℤ x) same) ∙ sum_turn (numbers_of o) i sum z inside (is ∙ number_is o i);
      bounded = subst (Bounded (i + 1)) (sym kept) more;
    }

pub sum_end : (ns : List ℤ) (i : ℕ) (sum : ℤ) → length ns ≤ i → sum +ℤ plain_sum (drop i ns) ≡ sum
sum_end ns i sum h = ap (λ xs. sum +ℤ plain_sum xs) (drop_all i ns h) ∙ +ℤ_idr sum

-- the two lines of a slot that is there
pub lines_are : (number : ℕ) (op : Op) (view : Strided) (o : Option Slot) (sum : ℤ) → Shows op o → op.first ≡ Some (Array view) → sum ≡ plain_sum (numbers_of o)
    → codes "array " ++ decimal number ++ codes " " ++ type_name op.from ++ numbers_text view.lengths ++ codes "\nsum " ++ signed_decimal sum ++ codes "\n" ≡ shown_total number o
unfolding total_text
lines_are number op view o sum s is total =
    let lengths : view.lengths ≡ lengths_of op.first = sym (ap lengths_of is) in
    ap₂ (λ ls z. codes "array " ++ decimal number ++ codes " " ++ type_name op.from ++ numbers_text ls ++ codes "\nsum " ++ signed_decimal z ++ codes "\n") lengths (total ∙ ap (λ x. plain_sum (numbers_of x)) s.is)
    ∙ sym (ap (shown_total number) s.is)
