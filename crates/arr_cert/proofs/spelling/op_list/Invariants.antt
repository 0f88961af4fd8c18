use Rattle.std.proofs.Common.{◌≡◌, ◌∷◌, take}
use Rattle.arr_cert.proofs.spelling.op_list.Given as goal

abbrev pub invariant-loop-op : goal.invariant-loop-op
invariant-loop-op l = l.ops ≡ l.first ∷ take l.op-index l.others
