use Rattle.std.proofs.Common.{◌∙◌, ◌+◌, List, subst, refl, arith}
use Rattle.arr_ops.specs.declared.op.Op.{Op}
use Rattle.arr_law.specs.ProblemOf.{problem_of}
use Rattle.arr_search.specs.Turns.{Took}
use Rattle.arr_search.proofs.Nodes.{took_none, took_then}
use Rattle.arr_search.proofs.node.take_all.Goals as goal

pub loop-step-init : goal.loop-step-init
loop-step-init c = record { list = refl; took = took_none (problem_of c.args.state.now.list) c.args.budget c.args.state.now.trail c.args.progress.now c.requires }

pub loop-step-preserved : goal.loop-step-preserved
loop-step-preserved c =
    let i = c.loop-step.invariant in
    let one : Took (problem_of c.args.state.now.list) (c.loop-step.progress.units + 1) c.loop-step.state.trail c.take_one.new.state.trail c.loop-step.progress c.take_one.new.progress =
    subst (λ (l : List Op). Took (problem_of l) (c.loop-step.progress.units + 1) c.loop-step.state.trail c.take_one.new.state.trail c.loop-step.progress c.take_one.new.progress) i.list c.in_ok-take_one.ensures.took in
    record {
      list = c.in_ok-take_one.ensures.list ∙ i.list;
      took = took_then (problem_of c.args.state.now.list) (c.loop-step.progress.units + 1) c.args.budget c.args.state.now.trail c.loop-step.state.trail c.take_one.new.state.trail c.args.progress.now c.loop-step.progress c.take_one.new.progress i.took one (omega (arith, one.within, c.if-progress-budget.false));
    }
