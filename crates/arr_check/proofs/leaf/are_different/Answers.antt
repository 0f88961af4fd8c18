use Rattle.std.proofs.Common.{◌∙◌, ◌+◌, sym, ap, drop}
use Rattle.std.specs.Prelude.{◌==◌, not}
use Rattle.std.specs.List.{list_all}
use Rattle.arr_law.specs.declared.charge.Charge.{Charge}
use Rattle.arr_law.specs.Leaves.{class_of}
use Rattle.arr_law.specs.ProblemOf.{problem_of}
use Rattle.arr_check.proofs.Loops.{pairs_fail, pairs_more}
use Rattle.arr_check.proofs.leaf.are_different.Goals as goal

pub returns-then-not-is_alone : goal.returns-then-not-is_alone
returns-then-not-is_alone c =
    let P = problem_of c.args.tables.now in
    pairs_fail (λ (a b : Charge). not (class_of P a == class_of P b)) c.args.charges.now c.loop-at.at c.at.result.now _ c.at.ensures c.loop-at.invariant
    (sym (c.is_alone.ensures ∙ ap (λ n. list_all (λ (b : Charge). not (n == class_of P b)) (drop (c.loop-at.at + 1) c.args.charges.now)) c.class_of.ensures) ∙ c.if-not-is_alone.true)

pub loop-at-preserved : goal.loop-at-preserved
loop-at-preserved c =
    let P = problem_of c.args.tables.now in
    pairs_more (λ (a b : Charge). not (class_of P a == class_of P b)) c.args.charges.now c.loop-at.at c.at.result.now _ c.at.ensures c.loop-at.invariant
    (sym (c.is_alone.ensures ∙ ap (λ n. list_all (λ (b : Charge). not (n == class_of P b)) (drop (c.loop-at.at + 1) c.args.charges.now)) c.class_of.ensures) ∙ c.if-not-is_alone.false)
