use Rattle.std.proofs.Common.{◌≡◌, pos, drop, length, map, take, true}
use Rattle.std.specs.List.{list_all}
use Rattle.arr_num.specs.Numbers.{in_type}
use Rattle.arr_ops.specs.Memory.{write}
use Rattle.arr_store.specs.Runs.{moved, run_places}
use Rattle.arr_store.proofs.runs.scatter_each.Given as goal

abbrev pub invariant-loop-i : goal.invariant-loop-i
invariant-loop-i g l =
    record {
      long : length l.out ≡ length l.fn.out;
      here : l.place ≡ moved (pos l.run.start) l.run.stride l.i;
      done : map g.T.Native.number l.out ≡ write (run_places l.run.start l.run.stride l.i) (take l.i (drop l.at (map g.T.Native.number l.source))) (map g.T.Native.number l.fn.out);
      typed : list_all (in_type g.T.Native.elem) (take l.i (drop l.at (map g.T.Native.number l.source))) ≡ true;
    }
