use Rattle.std.proofs.Common.{◌∙◌, ◌+◌, ◌-◌, ◌*◌, ◌^◌, ◌<◌, ap, subst, sym}
use Rattle.std.specs.Prelude.{min}
use Rattle.arr_law.specs.ProblemOf.{problem_of}
use Rattle.arr_check.specs.Known.{known_of}
use Rattle.arr_check.proofs.Worths.{group_class, worth_more}
use Rattle.arr_check.proofs.leaf.worth.Goals as goal

pub loop-at-preserved : goal.loop-at-preserved
loop-at-preserved c =
    let P = problem_of c.args.tables.now in
    let below = group_class P (known_of P c.args.known.now) c.args.charges.now c.loop-at.at c.at-charge.result.now c.at-charge.ensures c.requires in
    worth_more P c.args.charges.now c.loop-at.at c.at-charge.result.now (2 ^ 64 - 1) c.loop-at.total c.saturating_add-total.result c.weight_of-weight.result c.at-charge.ensures c.loop-at.invariant
    (c.weight_of-weight.ensures (subst (λ n. n < P.classes) (sym c.class_of.ensures) below) ∙ ap P.weight c.class_of.ensures)
    (c.saturating_add-total.ensures ∙ ap (λ n. min (c.loop-at.total + n) (2 ^ 64 - 1)) (c.saturating_mul.ensures ∙ ap (λ n. min (c.weight_of-weight.result * n) (2 ^ 64 - 1)) c.len.ensures))
