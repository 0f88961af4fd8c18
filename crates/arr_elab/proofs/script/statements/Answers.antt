use Rattle.std.proofs.Common.{rules, arith}
use Rattle.std.proofs.lemmas.Grind.{common_steps}
use Rattle.arr_elab.proofs.Reached.{reached_next}
use Rattle.arr_elab.proofs.script.statements.Goals as goal

pub loop-rest-preserved : goal.loop-rest-preserved
loop-rest-preserved c =
    let was = c.loop-rest.invariant.0 in
    let reached = reached_next c.first-item.result c.loop-rest.reader c.statement.new.reader c.loop-rest.invariant.1 c.in_ok-statement.ensures in
    (first_of (search rules, grind (arith, common_steps)), reached)
