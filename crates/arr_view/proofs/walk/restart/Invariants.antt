use Rattle.std.proofs.Common.{◌≡◌, ◌≤◌, ◌-◌, ◌++◌, length, drop, take, replicate}
use Rattle.arr_view.proofs.Walking.{full}
use Rattle.arr_view.proofs.walk.restart.Given as goal

abbrev pub invariant-loop-dimension : goal.invariant-loop-dimension
invariant-loop-dimension l = record {
  from : l.fn.level ≤ l.dimension;
  left : take l.dimension l.left ++ full (drop l.dimension l.lengths) ≡ take l.fn.level l.initial.left ++ full (drop l.fn.level l.lengths);
  places : take l.dimension l.places ++ replicate (length l.lengths - l.dimension) l.fn.place ≡ take l.fn.level l.initial.places ++ replicate (length l.lengths - l.fn.level) l.fn.place;
}
