use Rattle.std.proofs.Common.{◌∙◌, ◌+◌, sym, ap, length}
use Rattle.std.specs.Prelude.{◌==◌, ◌&&◌, ◌||◌, nat_le}
use Rattle.std.specs.List.{list_any}
use Rattle.arr_law.specs.ProblemOf.{problem_of}
use Rattle.arr_check.proofs.Loops.{all_fails, all_more, and_false}
use Rattle.arr_check.proofs.plan.are_places.Goals as goal

pub returns-then-not-is_placed : goal.returns-then-not-is_placed
returns-then-not-is_placed c =
    let ps = c.args.places.now in
    sym (ap (λ b. (length ps == (problem_of c.args.tables.now).count) && b) (all_fails (λ p. nat_le 1 p && ((p == 1) || list_any (λ q. q + 1 == p) ps)) ps c.loop-at.at c.at.result.now c.at.ensures (sym c.is_placed.ensures ∙ c.if-not-is_placed.true))
    ∙ and_false (length ps == (problem_of c.args.tables.now).count))

pub loop-at-preserved : goal.loop-at-preserved
loop-at-preserved c =
    let ps = c.args.places.now in
    all_more (λ p. nat_le 1 p && ((p == 1) || list_any (λ q. q + 1 == p) ps)) ps c.loop-at.at c.at.result.now c.at.ensures c.loop-at.invariant (sym c.is_placed.ensures ∙ c.if-not-is_placed.false)
