-- A dimension that stays whole.
use Rattle.std.proofs.Common.{◌≡◌, ℕ, zero, suc, ◌+◌, ◌*◌, ◌<◌, ◌≤◌, pos, ◌+ℤ◌, ◌*ℤ◌, List, [], ◌∷◌, Bool, true, false, cond, length, get_or, refl, ap, sym, ◌∙◌, arith, leb-true}
use Rattle.std.specs.Prelude.{nat_le, ◌==◌}
use Rattle.std.specs.List.{list_all}
use Rattle.std.proofs.Math.Nat.{mul-le-mul_left, mul_comm}
use lib.IntN.{zero-*ℤ}
use Rattle.std.proofs.lemmas.Int.{ints}
use Rattle.std.proofs.lemmas.Bool.{and_parts, eq-eqb, eqb-true, cond-true}
use Rattle.arr_view.specs.Views.{positions}
use Rattle.arr_view.proofs.Counting.{some_position}
use Rattle.arr_shape.specs.Slices.{whole_cut, IsCut}

-- index j of a whole dimension is j
pub whole_spot : (n j : ℕ) → j < n → (t : Bool) → (n == 1) ≡ t → pos j ≡ pos 0 +ℤ (pos j *ℤ cond t (pos 0) (pos 1))
whole_spot n j b true e =
    let one : n ≡ 1 = eqb-true n 1 e in
    let first : j ≡ 0 = omega arith in
    ap pos first ∙ (let f : pos 0 ≡ pos 0 +ℤ pos 0 = omega (arith, ints) in f) ∙ ap (λ y. pos 0 +ℤ y) (sym (zero-*ℤ (pos 0))) ∙ ap (λ k. pos 0 +ℤ (pos k *ℤ pos 0)) (sym first)
whole_spot n j b false e = ap pos (let f : j ≡ 0 + j * 1 = omega arith in f)

pub whole_lawful : (n : ℕ) → 1 ≤ n → IsCut n (whole_cut n)
whole_lawful n some = record { some = some; few = omega arith; lone = λ e. cond-true (n == 1) (pos 0) (pos 1) (eq-eqb n 1 e); within = λ j b. (j, b, whole_spot n j b (n == 1) refl) }

pub length_few : (ns : List ℕ) (i : ℕ) → list_all (nat_le 1) ns ≡ true → i < length ns → get_or ns i 0 ≤ positions ns
length_few [] i h l = absurd (omega arith)
length_few (n ∷ ns) zero h l =
    let both = and_parts (nat_le 1 n) (list_all (nat_le 1) ns) h in
    let some : 1 ≤ positions ns = some_position ns both.1 in
    let up : n * 1 ≤ n * positions ns = mul-le-mul_left n some in
    omega arith
length_few (n ∷ ns) (suc i) h l =
    let both = and_parts (nat_le 1 n) (list_all (nat_le 1) ns) h in
    let first : 1 ≤ n = leb-true 1 n both.0 in
    let later : get_or ns i 0 ≤ positions ns = length_few ns i both.1 (omega arith) in
    let up : positions ns * 1 ≤ positions ns * n = mul-le-mul_left (positions ns) first in
    let turned : positions ns * n ≡ n * positions ns = mul_comm (positions ns) n in
    omega arith
