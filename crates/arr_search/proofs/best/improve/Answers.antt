use Rattle.std.proofs.Common.{◌∙◌, List, ap, sym, subst}
use Rattle.std.specs.Prelude.{IsTrue}
use Rattle.arr_ops.specs.declared.op.Op.{Op}
use Rattle.arr_ops.specs.Costs.{cost}
use Rattle.arr_ops.specs.Plans.{is_legal}
use Rattle.arr_search.proofs.Nodes.{cheaper_plan}
use Rattle.arr_search.proofs.best.improve.Goals as goal

pub cost-requires : goal.cost-requires
cost-requires c = subst (λ (list : List Op). IsTrue (is_legal list c.args.plan)) (sym c.requires.costs) c.requires.legal

pub returns : goal.returns
returns c budget pending s =
    cheaper_plan c.args.graph.now budget pending c.args.progress.now c.args.plan c.in_ok-cost.cost c.requires.legal (c.in_ok-cost.ensures ∙ ap (λ (list : List Op). cost list c.args.plan) c.requires.costs) c.if-cost-progress.false s
