use Rattle.std.proofs.Common.{sym}
use Rattle.arr_law.specs.Facts.{facts_of}
use Rattle.arr_law.specs.ProblemOf.{problem_of}
use Rattle.arr_state.proofs.Gives.{given_new}
use Rattle.arr_state.proofs.saturation.take_step.Goals as goal

pub add-requires-clause-about : goal.add-requires-clause-about
add-requires-clause-about c =
    let L = problem_of c.args.ops.now in
    (given_new L (facts_of L c.args.known.now.facts.items) c.args.rule c.args.f c.args.g c.args.h c.in-Some.fact (sym c.in-Some.ensures)).1
