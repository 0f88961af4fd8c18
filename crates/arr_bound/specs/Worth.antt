-- What the groups of a leaf are to promise.
use Rattle.std.specs.Prelude.{◌≡◌, ◌≢◌, ℕ, ◌+◌, ◌*◌, ◌/◌, ◌<◌, ◌≤◌, Bool, true, cond, ◌&&◌, ◌||◌, List, [], ◌∷◌, ◌++◌, IsTrue, Option, Some, None}
use Rattle.std.specs.List.{AllByRecursion}
use Rattle.arr_law.specs.declared.charge.Charge.{Charge}
use Rattle.arr_law.specs.declared.fact.Fact.TheVariants.{Apart}
use Rattle.arr_law.specs.Problem.{Problem, is_op, sum_below}
use Rattle.arr_law.specs.Facts.{Facts}
use Rattle.arr_law.specs.Plans.{IsLegalAt, charged_at, cost_at}
use Rattle.arr_law.specs.Leaves.{class_of, is_leaf, worth}
use Rattle.arr_law.specs.Floor.{floor, floor_of_class}
use Rattle.arr_sets.specs.Bits.{is_set}
use Rattle.arr_bound.specs.declared.classes.Class.{Class}
use Rattle.arr_bound.specs.Sets.{in_row}

-- the rows say which operations are known to stand apart
abbrev pub TellsApart : Problem → Facts → List ℕ → Type 0
TellsApart problem facts rows =
    (f g : ℕ) → IsTrue (is_op problem f) → IsTrue (is_op problem g) → in_row (problem.count / 64 + 1) rows f g ≡ facts (Apart f g)

-- operations at different places are known to stand apart
abbrev pub Decides : Problem → Facts → (ℕ → ℕ) → Type 0
Decides problem facts at = (f g : ℕ) → IsTrue (is_op problem f) → IsTrue (is_op problem g) → at f ≢ at g → IsTrue (facts (Apart f g))

-- operations that are known to stand apart stand at different places
abbrev pub KeepsApart : Facts → (ℕ → ℕ) → Type 0
KeepsApart facts at = (f g : ℕ) → IsTrue (facts (Apart f g)) → at f ≢ at g

-- the groups are a lawful leaf with this worth, no less than the floor; a legal plan costs just that where the facts tell what stands apart in it
pub record IsLargeLeaf (problem : Problem) (facts : Facts) (value : ℕ) (charges : List Charge) : Type 0 where
  pub leaf : IsTrue (is_leaf problem facts charges)
  pub worth_is : value ≡ worth problem charges
  pub over_floor : floor problem facts ≤ value
  pub plan_costs : (at : ℕ → ℕ) (blocks : ℕ) → IsLegalAt problem at blocks → KeepsApart facts at → Decides problem facts at → cost_at problem at blocks ≡ value

-- what the blocks pay for a class
abbrev pub paid : Problem → (ℕ → ℕ) → ℕ → ℕ → ℕ
paid problem at blocks c = sum_below (λ k. cond (charged_at problem at k c) (problem.weight c) 0) blocks

-- the same, of the first so many classes
pub record LeafBelow (problem : Problem) (facts : Facts) (limit value : ℕ) (charges : List Charge) : Type 0 where
  pub leaf : IsTrue (is_leaf problem facts charges)
  pub below : AllByRecursion (λ a. class_of problem a < limit) charges
  pub worth_is : value ≡ worth problem charges
  pub over_floor : sum_below (floor_of_class problem facts) limit ≤ value
  pub over_plan : (at : ℕ → ℕ) (blocks : ℕ) → Decides problem facts at → sum_below (paid problem at blocks) limit ≤ value

-- g stands in the row of an operation; every number does where there is no operation
abbrev pub in_rows : ℕ → List ℕ → Option ℕ → ℕ → Bool
in_rows width rows None g = true
in_rows width rows (Some f) g = in_row width rows f g

-- the row of the operation is one of the rows
abbrev pub Within : ℕ → ℕ → Option ℕ → Type 0
Within width long None = Unit {0}
Within width long (Some f) = f * width + width ≤ long

-- an operation surely pays for a class: it reads a view and is apart from the operation that makes its base, or writes one and is apart from the
-- one that ends it
abbrev pub surely_pays : Class → ℕ → List ℕ → ℕ → Bool
surely_pays class width rows g =
    (is_set class.readers.items g && in_rows width rows class.creator g) || (is_set class.writers.items g && in_rows width rows class.freer g)

-- the leaf of the first so many classes becomes that of one more, whatever facts the rows tell
abbrev pub Rises : Problem → List ℕ → ℕ → ℕ → List Charge → List Charge → Type 0
Rises problem rows at rise old new =
    (facts : Facts) (worth : ℕ) → TellsApart problem facts rows → LeafBelow problem facts at worth old → LeafBelow problem facts (at + 1) (worth + rise) new

-- a leaf under whatever facts the rows tell
abbrev pub IsLeafBy : Problem → List ℕ → ℕ → List Charge → Type 0
IsLeafBy problem rows value groups = (facts : Facts) → TellsApart problem facts rows → IsLargeLeaf problem facts value groups

-- the group of a class joins, if it has an operation
pub record Joined (problem : Problem) (c : ℕ) (picks : List ℕ) (old new : List Charge) : Type 0 where
  pub none : picks ≡ [] → new ≡ old
  pub some : (f : ℕ) (fs : List ℕ) → picks ≡ f ∷ fs → (k : ℕ) × (new ≡ old ++ record { operand = k; ops = picks } ∷ []) × (problem.view f k ≡ Some c)
