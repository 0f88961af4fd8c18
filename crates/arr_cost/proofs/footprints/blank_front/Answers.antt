use Rattle.std.proofs.Common.{◌∙◌, arith, sym}
use Rattle.arr_cost.proofs.Idle.{front_more}
use Rattle.arr_cost.proofs.footprints.blank_front.Goals as goal

pub loop-at-init : goal.loop-at-init
loop-at-init c = λ i l. absurd (omega arith)

pub loop-at-preserved : goal.loop-at-preserved
loop-at-preserved c = front_more c.args.rows.now c.loop-at.at c.loop-at.invariant (sym c.is_blank.ensures ∙ c.if-is_blank.true)

pub returns-else-is_blank : goal.returns-else-is_blank
returns-else-is_blank c = c.loop-at.invariant

pub returns-after-loop-at : goal.returns-after-loop-at
returns-after-loop-at c = c.loop-at.invariant
