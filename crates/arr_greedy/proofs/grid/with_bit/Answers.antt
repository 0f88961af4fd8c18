use Rattle.std.proofs.Common.{◌≡◌, ◌*◌, ◌^◌, ◌%◌, ◌-◌, ◌∙◌, ◌||◌, ◌&&◌, ℕ, Bool, true, false, not, cond, inl, inr, refl, ap, sym, arith}
use Rattle.std.specs.Prelude.{◌==◌}
use Rattle.std.proofs.lemmas.Bool.{cases_eq, eq-eqb, ne_eqb}
use Rattle.arr_cost.specs.Footprints.{has_bit}
use Rattle.arr_cost.proofs.Digits.{and_bit, more_bit, not_bit, one_bit}
use Rattle.arr_greedy.proofs.grid.with_bit.Goals as goal

turned : (k i : ℕ) → (k == i) ≡ (i == k)
turned k i = elim (cases_eq k i) as (λ _. (k == i) ≡ (i == k)) [ inl e ↦ eq-eqb k i e ∙ sym (eq-eqb i k (sym e)) | inr e ↦ ne_eqb k i e ∙ sym (ne_eqb i k (λ z. e (sym z))) ]

pub returns-then-value : goal.returns-then-value
returns-then-value c = λ i l.
    more_bit c.args.word c.args.digit i c.requires l ∙ ap (λ t. has_bit c.args.word i || t) (turned c.args.digit i) ∙ chosen (i == c.args.digit) (has_bit c.args.word i)
    ∙ ap (λ v. cond (i == c.args.digit) v (has_bit c.args.word i)) (sym c.if-value.true)
  where
    chosen : (t b : Bool) → (b || t) ≡ cond t true b
    chosen true true = refl
    chosen true false = refl
    chosen false true = refl
    chosen false false = refl

pub returns : goal.returns
returns c = λ i l.
    let one : ℕ = 1 * 2 ^ c.args.digit % 18446744073709551616 in
    and_bit c.args.word (18446744073709551615 - one) i
    ∙ ap (λ t. has_bit c.args.word i && t) (not_bit one i (omega arith) l ∙ ap not (one_bit c.args.digit i c.requires l ∙ turned c.args.digit i))
    ∙ cleared (i == c.args.digit) (has_bit c.args.word i) ∙ ap (λ v. cond (i == c.args.digit) v (has_bit c.args.word i)) (sym c.if-value.false)
  where
    cleared : (t b : Bool) → (b && not t) ≡ cond t false b
    cleared true true = refl
    cleared true false = refl
    cleared false true = refl
    cleared false false = refl
