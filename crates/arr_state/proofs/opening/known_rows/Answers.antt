use Rattle.std.proofs.Common.{◌<◌, length, arith}
use Rattle.arr_law.specs.ProblemOf.{problem_of}
use Rattle.arr_state.specs.Opening.{all_users_below}
use Rattle.arr_law.specs.declared.fact.Fact.TheVariants.{Same}
use Rattle.arr_state.proofs.Openings.{rows_next}
use Rattle.arr_state.proofs.opening.known_rows.Goals as goal

pub loop-fact-preserved : goal.loop-fact-preserved
loop-fact-preserved c =
    let l : c.loop-fact.fact-index < length c.args.facts.now = omega (arith, c.loop-fact-test.true) in
    rows_next (problem_of c.args.ops.now) (all_users_below (problem_of c.args.ops.now) (length c.args.ops.now)) c.count_of.result c.loop-fact.fact-index c.args.facts.now c.loop-fact.rows.items c.set_rows.new.rows.items (Same 0 0) l (c.requires.about c.loop-fact.fact-index l) c.count_of.ensures c.set_rows.ensures c.loop-fact.invariant
