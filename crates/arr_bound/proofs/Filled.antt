-- The rows of a state as a table.
use Rattle.std.proofs.Common.{◌≡◌, ℕ, ◌+◌, ◌*◌, ◌/◌, ◌≤◌, List, Bool, true, false, length, refl, sym, ◌∙◌}
use Rattle.std.specs.Prelude.{◌==◌, ◌&&◌}
use Rattle.std.proofs.lemmas.Bool.{and_from, or_right, eq-eqb}
use Rattle.arr_law.specs.declared.fact.Fact.TheVariants.{Apart}
use Rattle.arr_law.specs.Facts.{Facts, is_fact}
use Rattle.arr_law.specs.Floor.{IsSymmetric}
use Rattle.arr_bound.specs.Sets.{in_row, IsTable}

-- the rows of facts that go both ways, and of different operations, are a table
pub filled_table : (count : ℕ) (facts : Facts) (rows : List ℕ) → length rows ≡ (count + 1) * (count / 64 + 1) → ((f g : ℕ) → f ≤ count → g ≤ count → in_row (count / 64 + 1) rows f g ≡ facts (Apart f g))
    → IsSymmetric facts → ((f : ℕ) → facts (Apart f f) ≡ false) → IsTable count rows
filled_table count facts rows long told even plain =
    record {
      long = long;
      even = λ f g lf lg. told f g lf lg ∙ turned f g ∙ sym (told g f lg lf);
      uneven = λ f lf. told f f lf lf ∙ plain f;
    }
  where
    goes : (f g : ℕ) → is_fact (Apart f g) (Apart g f) ≡ true
    goes f g = or_right ((f == g) && (g == f)) ((f == f) && (g == g)) (and_from (f == f) (g == g) (eq-eqb f f refl) (eq-eqb g g refl))

    same : (a b : Bool) → (a ≡ true → b ≡ true) → (b ≡ true → a ≡ true) → a ≡ b
    same true true f g = refl
    same true false f g = sym (f refl)
    same false true f g = g refl
    same false false f g = refl

    turned : (f g : ℕ) → facts (Apart f g) ≡ facts (Apart g f)
    turned f g = same (facts (Apart f g)) (facts (Apart g f)) (even (Apart f g) (Apart g f) (goes f g)) (even (Apart g f) (Apart f g) (goes g f))
