use Rattle.std.proofs.Common.{◌≡◌, ◌≤◌, ◌*◌, drop}
use Rattle.arr_view.specs.Views.{positions}
use Rattle.arr_view.proofs.Counting.{few_from}
use Rattle.arr_view.proofs.view.counted.Given as goal

abbrev pub invariant-loop-length : goal.invariant-loop-length
invariant-loop-length l = record {
  some : 1 ≤ l.count;
  few : l.count ≤ 1048576;
  test : few_from l.count (drop l.length-index l.lengths) ≡ few_from 1 l.lengths;
  value : l.count * positions (drop l.length-index l.lengths) ≡ positions l.lengths;
}
