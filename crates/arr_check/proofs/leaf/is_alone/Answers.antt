use Rattle.std.proofs.Common.{◌∙◌, ◌≤◌, sym, ap, subst}
use Rattle.std.specs.Prelude.{◌==◌, not}
use Rattle.arr_law.specs.declared.charge.Charge.{Charge}
use Rattle.arr_law.specs.Leaves.{class_of}
use Rattle.arr_law.specs.ProblemOf.{problem_of}
use Rattle.arr_check.proofs.Loops.{rest_done, rest_fails, rest_more}
use Rattle.std.proofs.lemmas.Bool.{eq-eqb, ne_eqb}
use Rattle.arr_check.proofs.leaf.is_alone.Goals as goal

pub returns-then-class-class_of : goal.returns-then-class-class_of
returns-then-class-class_of c =
    let P = problem_of c.args.tables.now in
    rest_fails (λ (b : Charge). not (c.args.class == class_of P b)) c.args.charges.now c.loop-at.at c.at.result.now _ c.at.ensures c.loop-at.invariant
    (ap not (eq-eqb c.args.class (class_of P c.at.result.now) (c.if-class-class_of.true ∙ c.class_of.ensures)))

pub loop-at-preserved : goal.loop-at-preserved
loop-at-preserved c =
    let P = problem_of c.args.tables.now in
    rest_more (λ (b : Charge). not (c.args.class == class_of P b)) c.args.charges.now c.loop-at.at c.at.result.now _ c.at.ensures c.loop-at.invariant
    (ap not (ne_eqb c.args.class (class_of P c.at.result.now) (λ e. c.if-class-class_of.false (e ∙ sym c.class_of.ensures))))

pub returns : goal.returns
returns c =
    rest_done (λ (b : Charge). not (c.args.class == class_of (problem_of c.args.tables.now) b)) c.args.charges.now c.loop-at.at _ (subst (λ n. n ≤ c.loop-at.at) c.len-at-end.ensures c.loop-at-test.false) c.loop-at.invariant
