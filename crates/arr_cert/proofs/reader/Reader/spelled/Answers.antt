use Rattle.std.proofs.Common.{subst, arith}
use Rattle.arr_law.specs.declared.record.Record.{Record}
use Rattle.arr_cert.specs.Spelling.{IsText}
use Rattle.arr_cert.proofs.Passing.{spelled_long, spelled_none}
use Rattle.arr_cert.proofs.reader.Reader.spelled.Goals as goal

pub returns-then-len-gt-LINE-clause-item : goal.returns-then-len-gt-LINE-clause-item
returns-then-len-gt-LINE-clause-item c =
    let long = c.args.self.now.text.ok in
    spelled_long c.args.self.now.text.items (omega (arith, c.len.ensures, c.if-len-gt-LINE.true))

pub returns-in-Ok-None-clause-item : goal.returns-in-Ok-None-clause-item
returns-in-Ok-None-clause-item c =
    let none = rw c.in-Ok-None.field-0-is at c.in-Ok-None.ensures in
    spelled_none c.args.self.now.text.items (subst (λ t. (r : Record) → IsText t r → ⊥) c.deref.ensures.value none)
