use Rattle.std.proofs.Common.{sym, subst}
use Rattle.arr_law.specs.declared.record.Record.{Record}
use Rattle.arr_law.specs.declared.reject.Reject.TheVariants.{BadStep}
use Rattle.arr_law.specs.ProblemOf.{problem_of}
use Rattle.arr_check.specs.declared.tree.Move.TheVariants.{Add, Wrong}
use Rattle.arr_check.specs.Known.{known_of}
use Rattle.arr_check.specs.Steps.{DoesMove}
use Rattle.arr_check.proofs.Given.{step_adds, step_wrong}
use Rattle.arr_check.proofs.tree.move_of.Goals as goal

pub returns-in-Some : goal.returns-in-Some
returns-in-Some c =
    let P = problem_of c.args.tables.now in
    let K = known_of P c.args.known.now in
    subst (λ (r : Record). DoesMove P c.args.version c.args.bound K r (Add c.in-Some.fact)) (sym c.in-Step.is)
    (step_adds P c.args.version c.args.bound K c.in-Step.rule c.in-Step.f c.in-Step.g c.in-Step.h c.in-Some.fact (sym c.in-Some.ensures))

pub returns-in-None : goal.returns-in-None
returns-in-None c =
    let P = problem_of c.args.tables.now in
    let K = known_of P c.args.known.now in
    subst (λ (r : Record). DoesMove P c.args.version c.args.bound K r (Wrong BadStep)) (sym c.in-Step.is)
    (step_wrong P c.args.version c.args.bound K c.in-Step.rule c.in-Step.f c.in-Step.g c.in-Step.h (sym c.in-None.ensures))

pub returns-in-Branch : goal.returns-in-Branch
returns-in-Branch c =
    let P = problem_of c.args.tables.now in
    subst (λ (r : Record). DoesMove P c.args.version c.args.bound (known_of P c.args.known.now) r c.branch_move.result) (sym c.in-Branch.is) (c.branch_move.ensures c.args.version c.args.bound)

pub returns-in-Dead : goal.returns-in-Dead
returns-in-Dead c =
    let P = problem_of c.args.tables.now in
    subst (λ (r : Record). DoesMove P c.args.version c.args.bound (known_of P c.args.known.now) r c.dead_move.result) (sym c.in-Dead.is) (c.dead_move.ensures c.args.version c.args.bound)

pub returns-in-Worth : goal.returns-in-Worth
returns-in-Worth c =
    let P = problem_of c.args.tables.now in
    subst (λ (r : Record). DoesMove P c.args.version c.args.bound (known_of P c.args.known.now) r c.worth_move.result) (sym c.in-Worth.is) (c.worth_move.ensures c.args.version)
