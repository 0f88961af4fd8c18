-- The codes without a line in the table, and lists of one number.
use Rattle.std.proofs.Common.{◌≡◌, ◌≢◌, ◌∙◌, ℕ, ◌+◌, ◌<◌, ℤ, pos, Bool, true, false, ◌&&◌, sym, ap, refl, arith}
use Rattle.std.proofs.lemmas.Bool.{and_parts, eqb-true, eqb-false}
use Rattle.std.specs.Prelude.{◌==◌}
use Rattle.arr_num.specs.Numbers.{digits, in_type, wrap, value}
use Rattle.arr_num.specs.declared.elem.Elem.{Elem}
use Rattle.arr_num.specs.declared.elem.Elem.TheVariants.{U64}
use Rattle.arr_num.specs.declared.code.Code.TheVariants.{Identity, Range}
use Rattle.arr_num.proofs.Wrapping.{wrap_same}
use Rattle.arr_kernel.proofs.Settled.{converted, identity_value, range_value as position_value}

pub converted_value : (t : Elem) (bits : ℕ) (z r : ℤ) → bits ≡ digits U64 z → r ≡ wrap t (pos bits) → r ≡ value Identity t z (pos 0)
converted_value t bits z r from to = to ∙ ap (λ n. wrap t (pos n)) from ∙ converted t z ∙ identity_value Identity t z (pos 0) refl

pub range_value : (t : Elem) (x : ℤ) → wrap t x ≡ value Range t x (pos 0)
range_value t x = position_value Range t x (pos 0) refl

-- a number of a type is told by its bits
pub by_bits : (t : Elem) (bits : ℕ) (z : ℤ) → bits ≡ digits U64 z → in_type t z ≡ true → z ≡ wrap t (pos bits)
by_bits t bits z is typed = sym (ap (λ n. wrap t (pos n)) is ∙ converted t z ∙ wrap_same t z typed)

-- a test of all so far, and of one more
pub one_more : (f : ℕ → ℤ) (z : ℤ) (same equal : Bool) (i : ℕ) → (same ≡ true → (k : ℕ) → k < i → f k ≡ z) → (equal ≡ true → f i ≡ z)
    → (same && equal) ≡ true → (k : ℕ) → k < i + 1 → f k ≡ z
one_more f z same equal i before here both k u =
    let parts = and_parts same equal both in
    elim (k == i) as (λ d. (k == i) ≡ d → f k ≡ z) [
      | true ↦ λ d. ap f (eqb-true k i d) ∙ here parts.1
      | false ↦ λ d. let ne : k ≢ i = eqb-false k i d in before parts.0 k (omega arith)
    ] refl
