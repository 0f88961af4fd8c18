use Rattle.std.proofs.Common.{arith}
use Rattle.arr_bound.proofs.Words.{take_is}
use Rattle.arr_bound.proofs.sets.take_out.Goals as goal

pub returns-clause-members : goal.returns-clause-members
returns-clause-members c = λ g. take_is c.args.set.now.items c.args.f c.index_mut.result.now (omega (arith, c.requires)) c.index_mut.ensures.value g
