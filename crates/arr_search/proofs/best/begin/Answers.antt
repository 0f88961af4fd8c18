use Rattle.std.proofs.Common.{◌∙◌, List, ap, refl, sym, subst}
use Rattle.std.specs.Prelude.{IsTrue}
use Rattle.arr_ops.specs.declared.op.Op.{Op}
use Rattle.arr_ops.specs.Costs.{cost}
use Rattle.arr_ops.specs.Plans.{is_legal}
use Rattle.arr_heur.proofs.Merged.{greedy_legal}
use Rattle.arr_search.proofs.Whole.{begun}
use Rattle.arr_search.proofs.best.begin.Goals as goal

pub cost-requires : goal.cost-requires
cost-requires c =
    subst (λ (list : List Op). IsTrue (is_legal list c.in_ok-plan.plan)) (sym c.requires.costs) (subst (λ q. IsTrue (is_legal c.args.graph.now q)) (sym c.in_ok-plan.ensures) (greedy_legal c.args.graph.now).2)

pub returns : goal.returns
returns c = λ budget.
    begun c.args.graph.now _ c.requires.formed c.requires.few c.new.ensures refl refl c.in_ok-plan.ensures (c.in_ok-cost.ensures ∙ ap (λ (list : List Op). cost list c.in_ok-plan.plan) c.requires.costs) budget
