use Rattle.std.proofs.Common.{rules, ◌∙◌, drop, sym}
use Rattle.std.proofs.lemmas.Iterator.{YieldsList-from_slice}
use Rattle.std.proofs.lemmas.Iterator.Adapters.{YieldsList-from_skip}
use Rattle.std.proofs.lemmas.Iterator.Search.{any_from_yields_List}
use Rattle.arr_ops.specs.declared.op.Op.{Op}
use Rattle.arr_ops.specs.Ops.{inputs}
use Rattle.arr_strips.specs.Strips.{loaded}
use Rattle.arr_contract.proofs.Links.{loaded_flat}
use Rattle.arr_contract.proofs.tasks.is_read_from.Goals as goal

pub returns : goal.returns
returns c =
    any_from_yields_List (λ (op : Op). loaded (inputs op) c.args.view.now) _ _ _ c.any.ensures.ran
    (YieldsList-from_skip c.args.index (YieldsList-from_slice c.args.ops.now cc) cc) (λ op b q k. search rules)
    ∙ sym (loaded_flat (drop c.args.index c.args.ops.now) c.args.view.now)
