use Rattle.std.proofs.Common.{◌≤◌, subst, sym}
use Rattle.arr_view.proofs.Checks.{lawful}
use Rattle.arr_view.proofs.Counting.{some_position}
use Rattle.arr_loop.proofs.opening.open_base.Goals as goal

pub make-requires-clause-some : goal.make-requires-clause-some
make-requires-clause-some c = subst (λ n. 1 ≤ n) (sym c.positions.ensures.value) (some_position c.in-Some.out.lengths (lawful c.in-Some.out c.positions.ensures.lawful).lengths)
