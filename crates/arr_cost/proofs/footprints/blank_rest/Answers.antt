use Rattle.std.proofs.Common.{◌∙◌, arith, sym}
use Rattle.std.proofs.lemmas.List.{get_or_past}
use Rattle.arr_cost.proofs.Idle.{rest_more}
use Rattle.arr_cost.proofs.footprints.blank_rest.Goals as goal

pub loop-end-init : goal.loop-end-init
loop-end-init c = record { inside = omega arith; behind = λ i l. get_or_past c.args.rows.now i _ (omega arith) }

pub loop-end-preserved : goal.loop-end-preserved
loop-end-preserved c = record {
  inside = omega (arith, c.loop-end.invariant.inside);
  behind = rest_more c.args.rows.now c.loop-end.end c.loop-end.invariant.behind (sym c.is_blank.ensures ∙ c.if-is_blank.true);
}

pub returns-else-is_blank-clause-behind : goal.returns-else-is_blank-clause-behind
returns-else-is_blank-clause-behind c = c.loop-end.invariant.behind

pub returns-after-loop-end-clause-behind : goal.returns-after-loop-end-clause-behind
returns-after-loop-end-clause-behind c = c.loop-end.invariant.behind
