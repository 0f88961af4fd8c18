use Rattle.std.proofs.Common.{◌≡◌, map, take, true}
use Rattle.std.specs.List.{list_all}
use Rattle.arr_num.specs.Numbers.{in_type}
use Rattle.arr_store.proofs.runs.are_typed.Given as goal

abbrev pub invariant-loop-i : goal.invariant-loop-i
invariant-loop-i g l = list_all (in_type g.T.Native.elem) (take l.i (map g.T.Native.number l.numbers)) ≡ true
