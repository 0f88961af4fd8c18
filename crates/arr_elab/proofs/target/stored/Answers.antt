use Rattle.std.proofs.Common.{rules}
use Rattle.arr_elab.proofs.target.stored.Goals as goal

pub returns-in-Ready-Literal : goal.returns-in-Ready-Literal
returns-in-Ready-Literal c =
    let h = c.stored_literal.ensures in
    rw c.in-Ready-Literal.is (rw c.in-Ready-Literal.field-0-is (search rules))
