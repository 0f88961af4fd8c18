use Rattle.std.proofs.Common.{◌≡◌, ◌∙◌, ◌+◌, ◌-◌, ap, arith, drop, length, length-drop}
use Rattle.std.specs.Prelude.{nat_le}
use Rattle.std.specs.List.{list_all}
use Rattle.std.proofs.lemmas.List.{take_all}
use Rattle.arr_view.proofs.Places.{lengths_from}
use Rattle.arr_shift.proofs.shifts.rises.Goals as goal

pub reach-inner-requires-clause-lengths : goal.reach-inner-requires-clause-lengths
reach-inner-requires-clause-lengths c =
    let i = c.loop-axis.axis + 1 in
    let ns = c.args.lengths.now in
    let long : length (drop i ns) ≡ length ns - i = length-drop i ns in
    ap (list_all (nat_le 1)) (take_all (length ns - i) (drop i ns) (omega arith)) ∙ lengths_from i ns c.requires.lengths
