use Rattle.std.proofs.Common.{rules}
use Rattle.arr_state.proofs.Different.{pairs_step}
use Rattle.arr_state.proofs.rules.+are_different.Goals as goal

pub returns-then-is_new : goal.returns-then-is_new
returns-then-is_new t c = pairs_step c.args.operations.now c.is_new.result c.are_different.result (search rules) c.is_new.ensures c.if-is_new.true c.are_different.ensures
