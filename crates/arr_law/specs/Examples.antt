-- Worked certificates of one list, by computation: a constant, its sum, one more than that, a print, and three FREEs.
use Rattle.std.specs.Prelude.{ℕ, ◌≡◌, refl, List, [], ◌∷◌, ◌++◌}
use Rattle.arr_view.specs.Views.{elements}
use Rattle.arr_ops.specs.Examples.{summed}
use Rattle.arr_law.specs.declared.charge.Charge.{Charge}
use Rattle.arr_law.specs.declared.record.Record.{Record}
use Rattle.arr_law.specs.declared.record.Record.TheVariants.{Flush, Plan, Cost, Bound, Step, Worth, End}
use Rattle.arr_law.specs.declared.reject.Reject.TheVariants.{Unfinished, BadStep, BadLeaf, WeakLeaf}
use Rattle.arr_law.specs.Verdict.{Verdict, Accepted, Rejected, reading_of, verdict}
use Rattle.arr_law.specs.Floor.{floor, kept_apart}
use Rattle.arr_law.specs.ProblemOf.{problem_of}

abbrev pub group : ℕ → List ℕ → Charge
group k fs = record { operand = k; ops = fs }

-- the plan {1 2 5} {3 4 6 7} with steps and a leaf, and the verdict on it
abbrev pub judged : ℕ → ℕ → List Record → List Charge → List Record → Verdict
judged version bound steps leaf ending =
    verdict (problem_of summed ∷ [])
    (reading_of 1 (Flush 1 7 version ∷ Plan (1 ∷ 1 ∷ 2 ∷ 2 ∷ 1 ∷ 2 ∷ 2 ∷ []) ∷ Cost 16 ∷ Bound bound ∷ (steps ++ Worth leaf ∷ ending)))

-- the result of the sum is paid for twice: where it is written, and where it is read
abbrev pub leaf : List Charge
leaf = group 0 (2 ∷ 3 ∷ []) ∷ []

-- operation 2 stands before 3, and 3 before 6, the FREE of the sum; so 2 and 6 stand apart, as 2 and 3 do
sum_paid_twice : judged 1 16 (Step 7 2 3 6 ∷ []) leaf (End ∷ []) ≡ Accepted ((16, 16) ∷ [])
unfolding elements
sum_paid_twice = refl

nothing_says_that_1_stands_before_3 : judged 1 16 (Step 7 1 3 6 ∷ []) leaf (End ∷ []) ≡ Rejected [] 1 5 BadStep
unfolding elements
nothing_says_that_1_stands_before_3 = refl

bound_above_leaf : judged 1 17 (Step 7 2 3 6 ∷ []) leaf (End ∷ []) ≡ Rejected [] 1 6 WeakLeaf
unfolding elements
bound_above_leaf = refl

one_view_in_two_groups : judged 1 16 (Step 7 2 3 6 ∷ []) (group 0 (2 ∷ 3 ∷ []) ∷ group 1 (3 ∷ []) ∷ []) (End ∷ []) ≡ Rejected [] 1 6 BadLeaf
unfolding elements
one_view_in_two_groups = refl

no_end : judged 1 16 (Step 7 2 3 6 ∷ []) leaf [] ≡ Rejected [] 1 7 Unfinished
unfolding elements
no_end = refl

-- the FREE of the sum joins operation 3, its last user; in version 1 no rule says so, and operation 2 is not the last
free_joins_last_user : judged 2 16 (Step 9 3 6 0 ∷ Step 6 6 3 2 ∷ []) leaf (End ∷ []) ≡ Accepted ((16, 16) ∷ [])
unfolding elements
free_joins_last_user = refl

free_joins_in_version_2_alone : (judged 1 16 (Step 9 3 6 0 ∷ Step 6 6 3 2 ∷ []) leaf (End ∷ []) ≡ Rejected [] 1 5 BadStep)
    × (judged 2 16 (Step 9 2 6 0 ∷ Step 6 6 3 2 ∷ []) leaf (End ∷ []) ≡ Rejected [] 1 5 BadStep)
unfolding elements
free_joins_in_version_2_alone = (refl, refl)

-- the sum's result is surely read by one block; that it is written by another shows only by a rule
floor_of_list : floor (problem_of summed) (kept_apart (problem_of summed)) ≡ 8
unfolding elements
floor_of_list = refl
