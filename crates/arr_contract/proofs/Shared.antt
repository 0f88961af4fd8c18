-- What holds of the operations of a block of a legal plan.
use Rattle.std.proofs.Common.{◌≡◌, ℕ, List, true, ap₂}
use Rattle.std.specs.Prelude.{◌&&◌}
use Rattle.std.specs.List.{AllByRecursion, list_all}
use Rattle.arr_ops.specs.declared.op.Op.{Op}
use Rattle.arr_ops.specs.Formed.{each_typed, is_formed, same_types}
use Rattle.arr_ops.specs.Plans.{numbered, ops_of}
use Rattle.arr_ops.proofs.Pairs.{All_weaker}
use Rattle.arr_ops.proofs.Tests.{all_numbered, test_all}
use Rattle.arr_ops.proofs.Spots.{Formed, formed_of}
use Rattle.arr_strips.proofs.Legal.{BlockFacts, all_ops, block_facts}
use Rattle.arr_contract.specs.Prepared.{IsBlockOf, may_share_block}

pub typed_block : (list : List Op) (block : List ℕ) → is_formed list ≡ true → each_typed (ops_of (numbered list) block) ≡ true
typed_block list block formed =
    let xs : List (ℕ × Op) = numbered list in
    let ops : List Op = ops_of xs block in
    let f : Formed list = formed_of list formed in
    test_all (λ f. list_all (same_types f) ops) ops
    (all_ops (λ f. list_all (same_types f) ops ≡ true) block xs
    (all_numbered (λ f. list_all (same_types f) ops ≡ true) 1 list
    (All_weaker (λ f. AllByRecursion (λ g. same_types f g ≡ true) list) (λ f. list_all (same_types f) ops ≡ true)
    (λ f h. test_all (same_types f) ops (all_ops (λ g. same_types f g ≡ true) block xs (all_numbered (λ g. same_types f g ≡ true) 1 list h))) list f.types)))

pub shares_block : (list : List Op) (block : List ℕ) → is_formed list ≡ true → IsBlockOf list block → may_share_block (ops_of (numbered list) block) ≡ true
shares_block list block formed is =
    let f : BlockFacts (ops_of (numbered list) block) = block_facts list is.0 is.1.0 block formed is.1.1 in
    ap₂ (λ x y. x && y) f.well (ap₂ (λ x y. x && y) f.inside (ap₂ (λ x y. x && y) (typed_block list block formed) (ap₂ (λ x y. x && y) f.order f.fuse)))
