use Rattle.std.proofs.Common.{ℕ, ◌+◌, ◌%◌, ◌≤◌, subst}
use Rattle.arr_sums.proofs.Widths.{lane_width, row_width}
use Rattle.arr_sums.proofs.scan.scan_part.Goals as goal

pub scan_lane_part-requires-clause-lane : goal.scan_lane_part-requires-clause-lane
scan_lane_part-requires-clause-lane g c = subst (λ (w : ℕ). c.args.place % w + c.args.run ≤ w) (lane_width c.args.axis c.if-axis-eq1.true) c.requires.together

pub scan_row_part-requires-clause-row : goal.scan_row_part-requires-clause-row
scan_row_part-requires-clause-row g c = subst (λ (w : ℕ). c.args.place % w + c.args.run ≤ w) (row_width c.args.axis c.if-axis-eq1.false) c.requires.together
