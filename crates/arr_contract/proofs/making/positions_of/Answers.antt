use Rattle.std.proofs.Common.{◌≡◌, ◌∙◌, ◌+◌, ◌∷◌, List, ap, drop, sym, true}
use Rattle.std.proofs.lemmas.List.{at_drop_more}
use Rattle.arr_ops.specs.Formed.{well_formed}
use Rattle.arr_ops.specs.Ops.{walked}
use Rattle.arr_ops.specs.declared.op.Op.{Op}
use Rattle.arr_ops.proofs.Tests.{all_of}
use Rattle.arr_strips.specs.Blocks.{block_positions, block_shape}
use Rattle.arr_machine.proofs.Blocks.{all_get}
use Rattle.arr_contract.proofs.Makings.{first_positions, none_positions}
use Rattle.arr_contract.proofs.making.positions_of.Goals as goal

pub walked_positions-requires : goal.walked_positions-requires
walked_positions-requires c = all_get (λ f. well_formed f ≡ true) c.args.ops.now c.loop-op.op-index c.op-item.result c.loop-op-test.true c.op-item.is (all_of well_formed c.args.ops.now c.requires)

pub returns-in-Some : goal.returns-in-Some
returns-in-Some c =
    let rest : List Op = drop (c.loop-op.op-index + 1) c.args.ops.now in
    let here : block_positions (drop c.loop-op.op-index c.args.ops.now) ≡ block_positions (c.op-item.result ∷ rest) =
    at_drop_more block_positions c.args.ops.now c.loop-op.op-index c.op-item.result c.loop-op-test.true ∙ ap (λ (f : Op). block_positions (f ∷ rest)) (sym c.op-item.is) in
    sym (sym c.loop-op.invariant ∙ here ∙ first_positions (walked c.op-item.result) (block_shape rest) c.in-Some.positions c.in-Some.ensures)

pub loop-op-preserved : goal.loop-op-preserved
loop-op-preserved c =
    let rest : List Op = drop (c.loop-op.op-index + 1) c.args.ops.now in
    let here : block_positions (drop c.loop-op.op-index c.args.ops.now) ≡ block_positions (c.op-item.result ∷ rest) =
    at_drop_more block_positions c.args.ops.now c.loop-op.op-index c.op-item.result c.loop-op-test.true ∙ ap (λ (f : Op). block_positions (f ∷ rest)) (sym c.op-item.is) in
    sym (none_positions (walked c.op-item.result) (block_shape rest) c.in_default.ensures) ∙ sym here ∙ c.loop-op.invariant
