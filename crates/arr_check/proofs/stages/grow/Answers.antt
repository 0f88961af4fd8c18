use Rattle.std.proofs.Common.{List, reverse, ap, subst, sym}
use Rattle.arr_law.specs.Facts.{Facts}
use Rattle.arr_law.specs.ProblemOf.{problem_of}
use Rattle.arr_law.specs.Verdict.{AtTree}
use Rattle.arr_check.specs.Stages.{Turns}
use Rattle.arr_check.specs.Steps.{pending_of}
use Rattle.arr_check.proofs.stages.grow.Goals as goal

pub returns-then-tree-clause-turns : goal.returns-then-tree-clause-turns
returns-then-tree-clause-turns c number places =
    let P = problem_of c.args.tables.now in
    subst (λ (facts : List Facts). Turns P number (AtTree c.args.version places c.args.cost c.args.bound facts) c.args.tree.now c.args.entry.now c.end.result)
    (sym (ap (pending_of P c.args.tree.now.known.trail.items (reverse c.args.tree.now.waits.items)) c.if-tree.true)) (c.end.ensures P number c.args.version c.args.tree.now places)
