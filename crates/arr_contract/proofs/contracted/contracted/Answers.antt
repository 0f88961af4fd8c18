use Rattle.std.proofs.Common.{◌∙◌, ap, map, sym}
use Rattle.std.specs.List.{filter, flat_map}
use Rattle.std.proofs.lemmas.List.{take_all}
use Rattle.arr_view.specs.Strided.{Strided}
use Rattle.arr_ops.specs.declared.op.Op.{Op}
use Rattle.arr_ops.specs.Ops.{freed_by, outputs}
use Rattle.arr_contract.proofs.Counts.{filter_each}
use Rattle.arr_contract.proofs.contracted.contracted.Goals as goal

pub returns : goal.returns
returns c =
    c.loop-op.invariant
    ∙ ap (flat_map (λ (op : Op). filter (freed_by c.args.block.now) (map (λ (o : Strided). o.base) (filter (λ _. op.makes) (outputs op))))) (take_all c.loop-op.op-index c.args.block.now c.loop-op-test.false)
    ∙ sym (filter_each (freed_by c.args.block.now) (λ (op : Op). map (λ (o : Strided). o.base) (filter (λ _. op.makes) (outputs op))) c.args.block.now)
