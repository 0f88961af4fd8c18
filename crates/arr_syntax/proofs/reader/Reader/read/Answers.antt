use Rattle.std.proofs.Common.{◌≡◌, ◌∙◌, ◌∷◌, ◌++◌, [], sym, ap}
use Rattle.arr_syntax.proofs.Runs.{run_counted, run_stuck, run_on, run_emit, on_end, emit_end}
use Rattle.arr_syntax.proofs.reader.Reader.read.Goals as goal

pub returns-in-Err-clause-reads : goal.returns-in-Err-clause-reads
returns-in-Err-clause-reads c = λ is.
    run_counted c.args.self.now.depth c.args.self.now.used c.args.self.now.statements c.args.state c.args.item is c.in-Err.kind (sym c.in-Err.is ∙ c.counted.ensures)

pub returns-in-Ok-Stuck-clause-reads : goal.returns-in-Ok-Stuck-clause-reads
returns-in-Ok-Stuck-clause-reads c = λ is.
    run_stuck c.args.self.now.depth c.args.self.now.used c.args.self.now.statements c.args.state c.args.item is c.in-Ok.used (sym c.in-Ok.is ∙ c.counted.ensures)
    (sym c.in-Ok-Stuck.ensures ∙ c.in-Ok-Stuck.field-0-is)

pub returns-in-Ok-On-clause-reads : goal.returns-in-Ok-On-clause-reads
returns-in-Ok-On-clause-reads c = λ is.
    run_on c.args.self.now.depth c.args.self.now.used c.args.self.now.statements c.args.state c.args.item is c.in-Ok.used (sym c.in-Ok.is ∙ c.counted.ensures)
    c.in-Ok-opened.depth (sym c.in-Ok-opened.is ∙ c.opened.ensures) c.in-Ok-On.state (sym c.in-Ok-On.ensures ∙ c.in-Ok-On.field-0-is)

pub returns-in-Ok-On-clause-last : goal.returns-in-Ok-On-clause-last
returns-in-Ok-On-clause-last c = λ e. on_end c.args.state c.in-Ok-On.state c.args.item (sym c.in-Ok-On.ensures ∙ c.in-Ok-On.field-0-is) e

pub returns-in-Ok-push-clause-reads : goal.returns-in-Ok-push-clause-reads
returns-in-Ok-push-clause-reads c = λ is.
    let pushed : c.push.new.self ≡ c.args.self.now.statements ++ c.in-Ok-Emit.statement ∷ [] =
    c.in-Ok-push.ensures.ok ∙ ap (λ s. c.args.self.now.statements ++ s ∷ []) c.into_inner.ensures in
    rw pushed
    (run_emit c.args.self.now.depth c.args.self.now.used c.args.self.now.statements c.args.state c.args.item is c.in-Ok.used (sym c.in-Ok.is ∙ c.counted.ensures)
    c.in-Ok-opened.depth (sym c.in-Ok-opened.is ∙ c.opened.ensures) c.in-Ok-Emit.statement c.in-Ok-Emit.state (sym c.in-Ok-Emit.ensures ∙ c.in-Ok-Emit.field-0-is))

pub returns-in-Ok-push-clause-last : goal.returns-in-Ok-push-clause-last
returns-in-Ok-push-clause-last c = λ e.
    emit_end c.args.state c.in-Ok-Emit.state c.in-Ok-Emit.statement c.args.item (sym c.in-Ok-Emit.ensures ∙ c.in-Ok-Emit.field-0-is) e
