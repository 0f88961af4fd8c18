use Rattle.std.proofs.Common.{◌≡◌, ◌+◌, drop}
use Rattle.arr_strips.specs.Registers.{number_in}
use Rattle.arr_contract.proofs.tasks.number_in.Given as goal

abbrev pub invariant-loop-other : goal.invariant-loop-other
invariant-loop-other l = record {
  place : l.at ≡ l.other-index;
  whole : number_in l.views l.view ≡ l.other-index + number_in (drop l.other-index l.views) l.view;
}
