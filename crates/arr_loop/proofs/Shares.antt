-- What holds of the operations of a block, fact by fact.
use Rattle.std.proofs.Common.{◌≡◌, List, true}
use Rattle.std.specs.List.{list_all}
use Rattle.arr_ops.specs.declared.op.Op.{Op}
use Rattle.arr_ops.specs.Ops.{fusible}
use Rattle.arr_ops.specs.Formed.{all_pairs, each_inside, each_typed, may_precede, well_formed}
use Rattle.arr_ops.proofs.Tests.{both_left, both_right}
use Rattle.arr_contract.specs.Prepared.{may_share_block}

pub all_well : (ops : List Op) → may_share_block ops ≡ true → list_all well_formed ops ≡ true
all_well ops h = both_left (list_all well_formed ops) _ h

pub all_typed : (ops : List Op) → may_share_block ops ≡ true → each_typed ops ≡ true
all_typed ops h = both_left (each_typed ops) _ (both_right (each_inside ops) _ (both_right (list_all well_formed ops) _ h))

pub in_turn : (ops : List Op) → may_share_block ops ≡ true → all_pairs may_precede ops ≡ true
in_turn ops h = both_left (all_pairs may_precede ops) _ (both_right (each_typed ops) _ (both_right (each_inside ops) _ (both_right (list_all well_formed ops) _ h)))

pub all_fusible : (ops : List Op) → may_share_block ops ≡ true → all_pairs fusible ops ≡ true
all_fusible ops h = both_right (all_pairs may_precede ops) _ (both_right (each_typed ops) _ (both_right (each_inside ops) _ (both_right (list_all well_formed ops) _ h)))
