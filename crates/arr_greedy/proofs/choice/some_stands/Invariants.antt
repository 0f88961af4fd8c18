use Rattle.std.proofs.Common.{◌≡◌, ◌*◌, false}
use Rattle.arr_greedy.specs.Bits.{bit, stands_between}
use Rattle.arr_greedy.specs.Fast.{any_below}
use Rattle.arr_greedy.proofs.choice.some_stands.Given as goal

abbrev pub invariant-loop-index : goal.invariant-loop-index
invariant-loop-index l = any_below (stands_between (bit l.reaches l.width) (bit l.reached l.width) l.from l.to) (64 * l.index) ≡ false
