use Rattle.std.proofs.Common.{◌+◌, ◌*◌, ◌/◌, ◌%◌, ◌≤◌, ℕ, arith}
use Rattle.arr_num.specs.Numbers.{value}
use Rattle.arr_native.specs.Entries.{entry}
use Rattle.arr_sums.specs.Kept.{kept_at}
use Rattle.arr_sums.proofs.Kept.{fewer_of, part_each, steps_within}
use Rattle.arr_sums.proofs.Rows.{run_inside, run_gathers}
use Rattle.arr_sums.proofs.strip.fold_row_part.Goals as goal

pub fold_row-requires-clause-sums : goal.fold_row-requires-clause-sums
fold_row-requires-clause-sums g c =
    let inside : c.args.place / c.args.axis.inner / c.args.axis.length * c.args.axis.inner + c.args.place % c.args.axis.inner + c.args.run ≤ c.args.axis.outer * c.args.axis.inner =
    run_inside c.args.axis.length c.args.axis.inner c.args.axis.outer c.args.place c.args.run c.requires.inner c.requires.row c.requires.inside in
    omega (arith, c.requires.sums)

pub fold_row-requires-clause-typed : goal.fold_row-requires-clause-typed
fold_row-requires-clause-typed g c =
    fewer_of g.T.Native.elem c.args.sums.now c.args.at (c.args.place / c.args.axis.inner / c.args.axis.length * c.args.axis.inner + c.args.place % c.args.axis.inner) c.args.run
    (c.args.axis.outer * c.args.axis.inner) (run_inside c.args.axis.length c.args.axis.inner c.args.axis.outer c.args.place c.args.run c.requires.inner c.requires.row c.requires.inside) c.requires.typed

pub returns-clause-changes : goal.returns-clause-changes
returns-clause-changes g c =
    steps_within g.T.Native.elem (value c.args.code g.T.Native.elem) c.args.sums.now c.fold_row.new.sums (λ j. entry g.T.Native.number c.args.source.now (c.args.from + j)) c.args.at
    (c.args.place / c.args.axis.inner / c.args.axis.length * c.args.axis.inner + c.args.place % c.args.axis.inner) c.args.run (c.args.axis.outer * c.args.axis.inner)
    (run_inside c.args.axis.length c.args.axis.inner c.args.axis.outer c.args.place c.args.run c.requires.inner c.requires.row c.requires.inside) c.fold_row.ensures

pub returns-clause-gathered : goal.returns-clause-gathered
returns-clause-gathered g c =
    let place : ℕ = c.args.place / c.args.axis.inner / c.args.axis.length * c.args.axis.inner + c.args.place % c.args.axis.inner in
    λ z xs was reads l inside.
    run_gathers (value c.args.code g.T.Native.elem) z c.args.axis.length c.args.axis.inner xs (c.args.axis.outer * c.args.axis.inner) (kept_at c.args.sums.now c.args.at)
    (kept_at c.fold_row.new.sums c.args.at) (entry g.T.Native.number c.args.source.now) c.args.from c.args.place c.args.run c.requires.inner c.requires.row
    (part_each (value c.args.code g.T.Native.elem) c.args.sums.now c.fold_row.new.sums (λ j. entry g.T.Native.number c.args.source.now (c.args.from + j)) c.args.at place c.args.run c.fold_row.ensures.each)
    (λ q u. c.fold_row.ensures.before (c.args.at + q) (omega arith)) (λ q u. c.fold_row.ensures.behind (c.args.at + q) (omega arith)) was reads l inside
