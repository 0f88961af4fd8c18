-- Worked lists, by computation.
use Rattle.std.specs.Prelude.{pos, ◌≡◌, true, refl, List, [], ◌∷◌, Some}
use Rattle.arr_num.specs.declared.code.Code.TheVariants.{Add}
use Rattle.arr_view.specs.Views.{elements}
use Rattle.arr_ops.specs.declared.op.Op.{Op}
use Rattle.arr_ops.specs.declared.op.Operand.TheVariants.{Array, Number}
use Rattle.arr_ops.specs.Costs.{cost}
use Rattle.arr_ops.specs.Examples.{all_six, chained, line, operation, part, sum_of, summed, summed_plan}
use Rattle.arr_ops.specs.Formed.{is_formed}
use Rattle.arr_heur.specs.Planners.{greedy_blocks, greedy_plan, linear_plan}

-- linear takes the first FREE into the second block; greedy leaves nothing of the summed base outside the first
summed_linear : (linear_plan summed ≡ (1 ∷ 2 ∷ []) ∷ (3 ∷ 4 ∷ 5 ∷ 6 ∷ 7 ∷ []) ∷ []) × (cost summed (linear_plan summed) ≡ 24)
unfolding elements
summed_linear = (refl, refl)

summed_greedy : (greedy_plan summed ≡ summed_plan) × (cost summed (greedy_plan summed) ≡ 16)
unfolding elements
summed_greedy = (refl, refl)

-- a chain is one block
chained_plans : (linear_plan chained ≡ all_six ∷ []) × (greedy_plan chained ≡ all_six ∷ [])
unfolding elements
chained_plans = (refl, refl)

-- one more than an array, a sum of another, and the array with that sum: the first and the last share a block, which stands after the sum
abbrev pub crossed : List Op
crossed =
    operation Add (line 1 4) (Some (Array (line 0 4))) (Some (Number (pos 1))) true
    ∷ sum_of (line 3 1) (line 2 4)
    ∷ operation Add (line 4 4) (Some (Array (line 0 4))) (Some (Array (part 3 0 4 0))) true ∷ []

crossed_plans : (is_formed crossed ≡ true) × (linear_plan crossed ≡ (1 ∷ 2 ∷ []) ∷ (3 ∷ []) ∷ []) × (greedy_blocks crossed ≡ (1 ∷ 3 ∷ []) ∷ (2 ∷ []) ∷ []) × (greedy_plan crossed ≡ (2 ∷ []) ∷ (1 ∷ 3 ∷ []) ∷ [])
    × (cost crossed (linear_plan crossed) ≡ 200) × (cost crossed (greedy_plan crossed) ≡ 168)
unfolding elements
crossed_plans = (refl, refl, refl, refl, refl, refl)
