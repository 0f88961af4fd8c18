use Rattle.std.proofs.Common.{◌<◌, ◌∙◌, get_or, set, subst, sym}
use Rattle.arr_greedy.specs.Bits.{bit}
use Rattle.arr_greedy.specs.Fast.{amount, flag, may_merge}
use Rattle.arr_greedy.specs.Tables.{Bounded}
use Rattle.arr_greedy.proofs.Bounds.{at_in, row_beaten, row_bounded}
use Rattle.arr_greedy.proofs.choice.better_in_row.Goals as goal

pub returns-then-not-may_beat-clause-best : goal.returns-then-not-may_beat-clause-best
returns-then-not-may_beat-clause-best c =
    row_beaten (amount c.args.saved.now c.args.width) (may_merge (flag c.args.fuses.now c.args.width) (bit c.args.reaches.now c.args.width) c.args.keys.now) c.args.before
    c.args.bounds.now c.args.keys.now c.args.place c.requires.place_in (sym c.may_beat.ensures ∙ c.if-not-may_beat.true) c.requires.bounded

pub returns-clause-bounded : goal.returns-clause-bounded
returns-clause-bounded c =
    subst (λ o. Bounded c.args.fuses.now c.args.reaches.now c.args.saved.now c.args.width (set c.args.bounds.now (get_or c.args.keys.now c.args.place 0) o) c.args.keys.now) (sym c.saving_of.ensures)
    (row_bounded (amount c.args.saved.now c.args.width) (may_merge (flag c.args.fuses.now c.args.width) (bit c.args.reaches.now c.args.width) c.args.keys.now) c.args.bounds.now c.args.keys.now c.args.place
    c.best_in_row-best.result c.requires.rising c.requires.place_in
    (subst (λ n. get_or c.args.keys.now c.args.place 0 < n) (sym c.requires.bounds_size) (c.requires.keys_in c.args.place 0 c.requires.place_in)) c.best_in_row-best.ensures.best c.requires.bounded)

pub best_in_row-best-requires-clause-left_in : goal.best_in_row-best-requires-clause-left_in
best_in_row-best-requires-clause-left_in c = at_in c.args.keys.now c.args.place c.requires.place_in
