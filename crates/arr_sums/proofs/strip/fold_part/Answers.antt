use Rattle.std.proofs.Common.{ℕ, ◌+◌, ◌%◌, ◌≤◌, subst}
use Rattle.arr_sums.proofs.Widths.{lane_width, row_width}
use Rattle.arr_sums.proofs.strip.fold_part.Goals as goal

pub fold_lane_part-requires-clause-lane : goal.fold_lane_part-requires-clause-lane
fold_lane_part-requires-clause-lane g c = subst (λ (w : ℕ). c.args.place % w + c.args.run ≤ w) (lane_width c.args.axis c.if-axis-eq1.true) c.requires.together

pub fold_row_part-requires-clause-row : goal.fold_row_part-requires-clause-row
fold_row_part-requires-clause-row g c = subst (λ (w : ℕ). c.args.place % w + c.args.run ≤ w) (row_width c.args.axis c.if-axis-eq1.false) c.requires.together
