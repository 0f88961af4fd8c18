-- Worked listings, by computation.
use Rattle.std.specs.Prelude.{◌≡◌, refl, pos, negsuc, List, [], ◌∷◌, ◌++◌, Some, None, true, codes}
use Rattle.std.specs.Fmt.{digits}
use Rattle.arr_num.specs.declared.elem.Elem.TheVariants.{I32, I64}
use Rattle.arr_num.specs.declared.code.Code.TheVariants.{Identity}
use Rattle.arr_ops.specs.Examples.{all_six, chained, counted, free, line, operation, striped, summed, summed_plan, sync}
use Rattle.arr_ops.specs.declared.op.Op.{Op}
use Rattle.arr_ops.specs.declared.op.Operand.TheVariants.{Number}
use Rattle.arr_listing.specs.Texts.{array_text, op_text}
use Rattle.arr_listing.specs.Plans.{block_text, bound_text, head_text, plan_text}

-- ---- one operation, in one block

counted_listing : plan_text 1 1 counted ((1 ∷ []) ∷ []) (32 ∷ [])
    ≡ codes "# flush 1 recorded 1 rewritten 1 blocks 1 cost 32\n# op 1 RANGE +b0:i64@0[4:1]\n# block 1 cost 32 ops 1\n"
unfolding plan_text head_text op_text block_text digits
counted_listing = refl

-- ---- b = a + 1, c = b * 2, printed: the second flush, all in one block

chained_listing : plan_text 6 2 chained (all_six ∷ []) (32 ∷ [])
    ≡ codes "# flush 2 recorded 6 rewritten 6 blocks 1 cost 32\n"
    ++ codes "# op 1 ADD +b1:i64@0[4:1] b0:i64@0[4:1] 1\n# op 2 MULTIPLY +b2:i64@0[4:1] b1:i64@0[4:1] 2\n"
    ++ codes "# op 3 FREE b1\n# op 4 SYNC b2:i64@0[4:1] slot=1\n# op 5 FREE b0\n# op 6 FREE b2\n"
    ++ codes "# block 1 cost 32 ops 1 2 3 4 5 6\n"
unfolding plan_text head_text op_text block_text digits
chained_listing = refl

-- ---- a sum, and one more than it: two blocks

summed_listing : plan_text 7 1 summed summed_plan (8 ∷ 8 ∷ [])
    ≡ codes "# flush 1 recorded 7 rewritten 7 blocks 2 cost 16\n"
    ++ codes "# op 1 IDENTITY +b0:i64@0[1:0] 7\n# op 2 ADD_REDUCE +b1:i64@0[1:0] b0:i64@0[1:0] axis=0\n# op 3 ADD +b2:i64@0[1:0] b1:i64@0[1:0] 1\n"
    ++ codes "# op 4 SYNC b2:i64@0[1:0] slot=1\n# op 5 FREE b0\n# op 6 FREE b1\n# op 7 FREE b2\n"
    ++ codes "# block 1 cost 8 ops 1 2 5\n# block 2 cost 8 ops 3 4 6 7\n"
unfolding plan_text head_text op_text block_text digits
summed_listing = refl

-- ---- every second element from those between

striped_listing : plan_text 4 1 striped ((1 ∷ []) ∷ (2 ∷ 3 ∷ 4 ∷ []) ∷ []) (64 ∷ 32 ∷ [])
    ≡ codes "# flush 1 recorded 4 rewritten 4 blocks 2 cost 96\n"
    ++ codes "# op 1 RANGE +b0:i64@0[8:1]\n# op 2 ADD b0:i64@0[4:2] b0:i64@1[4:2] 1\n# op 3 SYNC b0:i64@1[4:2] slot=1\n# op 4 FREE b0\n"
    ++ codes "# block 1 cost 64 ops 1\n# block 2 cost 32 ops 2 3 4\n"
unfolding plan_text head_text op_text block_text digits
striped_listing = refl

-- ---- y = x * 0 + 0, printed: three of seven operations are left, and nothing is read or kept

abbrev pub cleared : List Op
cleared = operation Identity (line 2 4) (Some (Number (pos 0))) None true ∷ sync (line 2 4) 1 ∷ free 2 ∷ []

cleared_listing : plan_text 7 1 cleared ((1 ∷ 2 ∷ 3 ∷ []) ∷ []) (0 ∷ [])
    ≡ codes "# flush 1 recorded 7 rewritten 3 blocks 1 cost 0\n# op 1 IDENTITY +b2:i64@0[4:1] 0\n# op 2 SYNC b2:i64@0[4:1] slot=1\n# op 3 FREE b2\n"
    ++ codes "# block 1 cost 0 ops 1 2 3\n"
unfolding plan_text head_text op_text block_text digits
cleared_listing = refl

-- ---- a bound that is the cost, and one below it

bounds : (bound_text 32 32 0 ≡ codes "# bound 32 units 0 optimal\n") × (bound_text 16 8 0 ≡ codes "# bound 8 units 0 budget\n")
unfolding bound_text digits
bounds = (refl, refl)

-- ---- arrays

arrays : (array_text (record { elem = I64; lengths = 3 ∷ 2 ∷ []; numbers = pos 0 ∷ pos 3 ∷ pos 1 ∷ pos 4 ∷ pos 2 ∷ pos 5 ∷ [] }) ≡ codes "i64 3 2\n0 3\n1 4\n2 5\n")
    × (array_text (record { elem = I32; lengths = 1 ∷ []; numbers = negsuc 7 ∷ [] }) ≡ codes "i32 1\n-8\n")
unfolding array_text digits
arrays = (refl, refl)
