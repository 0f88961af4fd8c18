use Rattle.std.proofs.Common.{◌≡◌, ◌-◌, ◌++◌, take, replicate, pos}
use Rattle.arr_view.proofs.walk.Walk.new.Given as goal

abbrev pub invariant-loop-dimension : goal.invariant-loop-dimension
invariant-loop-dimension l = record {
  lengths : l.lengths ≡ take l.dimension l.view.lengths ++ replicate (4 - l.dimension) 1;
  strides : l.strides ≡ take l.dimension l.view.strides ++ replicate (4 - l.dimension) (pos 0);
}
