use Rattle.std.proofs.Common.{◌≡◌, ◌-◌, ◌≤◌, ◌++◌, [], length, take, drop}
use Rattle.arr_nest.specs.Indices.{after, zeros}
use Rattle.arr_nest.specs.Below.{Below}
use Rattle.arr_nest.proofs.nest.turn.Given as goal

abbrev pub invariant-loop-at : goal.invariant-loop-at
invariant-loop-at l = record {
  bound : l.at ≤ length l.shape;
  kept : l.index ≡ take l.at l.initial.index ++ zeros (length l.shape - l.at);
  inside : Below l.index l.shape;
  spent : after (drop l.at l.shape) (drop l.at l.initial.index) ≡ [];
}

abbrev pub decreases-loop-at : goal.decreases-loop-at
decreases-loop-at l = l.at
