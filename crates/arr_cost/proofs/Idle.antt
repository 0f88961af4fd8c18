-- Rows that touch nothing, and what they add to a sum over two footprints.
use Rattle.std.proofs.Common.{◌≡◌, ℕ, ◌+◌, ◌-◌, ◌*◌, ◌/◌, ◌%◌, ◌<◌, ◌≤◌, List, Bool, true, false, not, ◌&&◌, ◌||◌, get_or, inl, inr, refl, ap, ap₂, ◌∙◌, arith}
use Rattle.std.specs.Prelude.{◌⊎◌, ◌==◌, bit_or}
use Rattle.std.specs.Int.Bits.{or_zero_l, or_zero_r}
use Rattle.std.proofs.lemmas.Bool.{eqb-false, eqb-true}
use Rattle.arr_ops.proofs.Tests.{both_left, both_right}
use Rattle.arr_cost.specs.declared.footprints.Row.{Row}
use Rattle.arr_cost.specs.Footprints.{IsIdle, blank, has_bit, is_blank, join, keeps, keeps_class, loses, row_for, span}
use Rattle.arr_cost.proofs.Digits.{no_bit, span_none, span_rest}

pub blank_row : (r : Row) → is_blank r ≡ true → r ≡ blank
blank_row r h =
    let more = both_right (r.reads == 0) (r.writes == 0 && (r.makes == 0 && r.frees == 0)) h in
    let last = both_right (r.writes == 0) (r.makes == 0 && r.frees == 0) more in
    ap (λ x. record { reads = x; writes = r.writes; makes = r.makes; frees = r.frees }) (eqb-true r.reads 0 (both_left (r.reads == 0) (r.writes == 0 && (r.makes == 0 && r.frees == 0)) h))
    ∙ ap (λ x. record { reads = 0; writes = x; makes = r.makes; frees = r.frees }) (eqb-true r.writes 0 (both_left (r.writes == 0) (r.makes == 0 && r.frees == 0) more))
    ∙ ap (λ x. record { reads = 0; writes = 0; makes = x; frees = r.frees }) (eqb-true r.makes 0 (both_left (r.makes == 0) (r.frees == 0) last))
    ∙ ap (λ x. record { reads = 0; writes = 0; makes = 0; frees = x }) (eqb-true r.frees 0 (both_right (r.makes == 0) (r.frees == 0) last))

-- one row more in front, and one more behind
pub front_more : (rows : List Row) (at : ℕ) → ((i : ℕ) → i < at → get_or rows i blank ≡ blank) → is_blank (get_or rows at blank) ≡ true → (i : ℕ) → i < at + 1 → get_or rows i blank ≡ blank
front_more rows at h e i l =
    elim (i == at) as (λ b. (i == at) ≡ b → get_or rows i blank ≡ blank) [
      | true ↦ λ q. ap (λ n. get_or rows n blank) (eqb-true i at q) ∙ blank_row (get_or rows at blank) e
      | false ↦ λ q. h i (let ne = eqb-false i at q in omega (arith, ne))
    ] refl

pub rest_more : (rows : List Row) (end : ℕ) → ((i : ℕ) → end ≤ i → get_or rows i blank ≡ blank) → is_blank (get_or rows (end - 1) blank) ≡ true → (i : ℕ) → end - 1 ≤ i → get_or rows i blank ≡ blank
rest_more rows end h e i l =
    elim (i == end - 1) as (λ b. (i == end - 1) ≡ b → get_or rows i blank ≡ blank) [
      | true ↦ λ q. ap (λ n. get_or rows n blank) (eqb-true i (end - 1) q) ∙ blank_row (get_or rows (end - 1) blank) e
      | false ↦ λ q. h i (let ne = eqb-false i (end - 1) q in omega (arith, ne))
    ] refl

keeps_blank : (i : ℕ) → keeps blank i ≡ false
keeps_blank i = ap (λ b. (b && not (has_bit 0 i)) || (b && not (has_bit 0 i))) (no_bit i)

join_blank : (r : Row) → join blank r ≡ r
join_blank r =
    ap (λ x. record { reads = x; writes = bit_or 0 r.writes; makes = bit_or 0 r.makes; frees = bit_or 0 r.frees }) (or_zero_l r.reads)
    ∙ ap (λ x. record { reads = r.reads; writes = x; makes = bit_or 0 r.makes; frees = bit_or 0 r.frees }) (or_zero_l r.writes)
    ∙ ap (λ x. record { reads = r.reads; writes = r.writes; makes = x; frees = bit_or 0 r.frees }) (or_zero_l r.makes)
    ∙ ap (λ x. record { reads = r.reads; writes = r.writes; makes = r.makes; frees = x }) (or_zero_l r.frees)

blank_joins : (r : Row) → join r blank ≡ r
blank_joins r =
    ap (λ x. record { reads = x; writes = bit_or r.writes 0; makes = bit_or r.makes 0; frees = bit_or r.frees 0 }) (or_zero_r r.reads)
    ∙ ap (λ x. record { reads = r.reads; writes = x; makes = bit_or r.makes 0; frees = bit_or r.frees 0 }) (or_zero_r r.writes)
    ∙ ap (λ x. record { reads = r.reads; writes = r.writes; makes = x; frees = bit_or r.frees 0 }) (or_zero_r r.makes)
    ∙ ap (λ x. record { reads = r.reads; writes = r.writes; makes = r.makes; frees = x }) (or_zero_r r.frees)

and_not : (b : Bool) → (b && not b) ≡ false
and_not true = refl
and_not false = refl

or_and_not : (b : Bool) → ((b || false) && not b) ≡ false
or_and_not true = refl
or_and_not false = refl

and_false : (b : Bool) → (b && false) ≡ false
and_false true = refl
and_false false = refl

-- where one of two rows touches nothing, none is shared and none is lost
none_shared : (a b : Row) (i : ℕ) → (a ≡ blank) ⊎ (b ≡ blank) → (keeps a i && keeps b i) ≡ false
none_shared a b i (inl e) = ap (λ r. keeps r i && keeps b i) e ∙ ap (λ x. x && keeps b i) (keeps_blank i)
none_shared a b i (inr e) = ap (λ r. keeps a i && keeps r i) e ∙ ap (λ x. keeps a i && x) (keeps_blank i) ∙ and_false (keeps a i)

none_lost : (a b : Row) (i : ℕ) → (a ≡ blank) ⊎ (b ≡ blank) → loses a b i ≡ false
none_lost a b i (inl e) =
    ap (λ r. loses r b i) e ∙ ap₂ (λ x r. (x || keeps b i) && not (keeps r i)) (keeps_blank i) (join_blank b) ∙ and_not (keeps b i)
none_lost a b i (inr e) =
    ap (λ r. loses a r i) e ∙ ap₂ (λ x r. (keeps a i || x) && not (keeps r i)) (keeps_blank i) (blank_joins a) ∙ or_and_not (keeps a i)

-- the sum of what is shared and of what is lost, of the first classes
abbrev pub saved_upto : List ℕ → List Row → List Row → ℕ → ℕ
saved_upto ws a b n = span ws 0 n (λ c. keeps_class a c && keeps_class b c) + span ws 0 n (λ c. loses (row_for a c) (row_for b c) (c % 64))

pub idle_front : (ws : List ℕ) (a b : List Row) (from : ℕ) → ((i : ℕ) → i < from → IsIdle a b i) → saved_upto ws a b (64 * from) ≡ 0
idle_front ws a b from h =
    let one : span ws 0 (64 * from) (λ c. keeps_class a c && keeps_class b c) ≡ 0
    = span_none ws 0 (64 * from) (λ c. keeps_class a c && keeps_class b c) (λ c l. none_shared (row_for a c) (row_for b c) (c % 64) (h (c / 64) (omega arith))) in
    let two : span ws 0 (64 * from) (λ c. loses (row_for a c) (row_for b c) (c % 64)) ≡ 0
    = span_none ws 0 (64 * from) (λ c. loses (row_for a c) (row_for b c) (c % 64)) (λ c l. none_lost (row_for a c) (row_for b c) (c % 64) (h (c / 64) (omega arith))) in
    omega arith

pub idle_rest : (ws : List ℕ) (a b : List Row) (upto end : ℕ) → upto ≤ end → ((i : ℕ) → upto ≤ i → IsIdle a b i) → saved_upto ws a b (64 * end) ≡ saved_upto ws a b (64 * upto)
idle_rest ws a b upto end l h =
    ap (saved_upto ws a b) (let e : 64 * end ≡ 64 * upto + (64 * end - 64 * upto) = omega arith in e)
    ∙ ap₂ (λ x y. x + y)
    (span_rest ws 0 (64 * upto) (64 * end - 64 * upto) (λ c. keeps_class a c && keeps_class b c) (λ c low high. none_shared (row_for a c) (row_for b c) (c % 64) (h (c / 64) (omega arith))))
    (span_rest ws 0 (64 * upto) (64 * end - 64 * upto) (λ c. loses (row_for a c) (row_for b c) (c % 64)) (λ c low high. none_lost (row_for a c) (row_for b c) (c % 64) (h (c / 64) (omega arith))))
