-- Worked blocks, by computation.
use Rattle.std.specs.Prelude.{◌≡◌, refl, [], ◌∷◌, true}
use Rattle.arr_view.specs.Views.{elements}
use Rattle.arr_ops.specs.Examples.{all_six, chained, counted}
use Rattle.arr_ops.specs.Plans.{numbered, ops_of}
use Rattle.arr_contract.specs.Prepared.{may_share_block}
use Rattle.arr_loop.specs.Opened.{kept_bases}

-- a list of one creator keeps its base; a block that frees what it creates keeps none
counted_kept : (may_share_block counted ≡ true) × (kept_bases counted counted ≡ 0 ∷ [])
unfolding elements
counted_kept = (refl, refl)

chained_kept : (may_share_block (ops_of (numbered chained) all_six) ≡ true) × (kept_bases (ops_of (numbered chained) all_six) (ops_of (numbered chained) all_six) ≡ [])
unfolding elements
chained_kept = (refl, refl)

-- its first operation alone makes the buffer of base 1
first_kept : kept_bases (ops_of (numbered chained) (1 ∷ [])) (ops_of (numbered chained) (1 ∷ [])) ≡ 1 ∷ []
first_kept = refl
