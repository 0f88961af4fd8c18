use Rattle.std.proofs.Common.{List, subst}
use Rattle.std.specs.Prelude.{IfOk}
use Rattle.arr_ops.specs.declared.op.Op.{Op}
use Rattle.arr_law.specs.ProblemOf.{problem_of}
use Rattle.arr_cert.specs.Proofs.{unread}
use Rattle.arr_check.specs.Judged.{Judged}
use Rattle.arr_check.proofs.Judging.{sure_if}
use Rattle.arr_check.proofs.checking.check.Goals as goal

pub returns-clause-sure : goal.returns-clause-sure
returns-clause-sure g c formed =
    let u = unread g.S.Source c.args.reader.now c.args.source.now in
    let w = unread g.S.Source c.judge.new.reader c.judge.new.source in
    sure_if c.args.ops.now c.args.number u w c.judge.result formed
    (subst (λ (list : List Op). IfOk c.judge.result (Judged (problem_of list) c.args.number u w)) c.in-Ok.ensures c.judge.ensures.judged)
