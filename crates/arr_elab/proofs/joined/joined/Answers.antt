use Rattle.std.proofs.Common.{rules}
use Rattle.arr_elab.proofs.joined.joined.Goals as goal

pub returns-in-Array-y : goal.returns-in-Array-y
returns-in-Array-y c = λ s. let h = c.literal_first.ensures s in rw c.in-Literal.is (rw c.in-Array-y.is (search rules))

pub returns-in-Literal-y-2 : goal.returns-in-Literal-y-2
returns-in-Literal-y-2 c = λ s. let h = c.literal_last.ensures s in rw c.in-Array.is (rw c.in-Literal-y-2.is (search rules))

pub returns-in-Array-y-2 : goal.returns-in-Array-y-2
returns-in-Array-y-2 c = λ s. rw c.in-Array.is (rw c.in-Array-y-2.is (c.arrays.ensures s))
