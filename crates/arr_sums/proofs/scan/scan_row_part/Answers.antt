use Rattle.std.proofs.Common.{◌≡◌, ◌∙◌, ◌+◌, ◌/◌, ◌%◌, ◌≤◌, ℤ, ap, cond, arith, length}
use Rattle.std.specs.Prelude.{◌==◌}
use Rattle.arr_num.specs.Numbers.{value}
use Rattle.arr_native.specs.Entries.{entry}
use Rattle.arr_sums.specs.Kept.{kept_at}
use Rattle.arr_sums.proofs.Kept.{fewer_of, part_each, steps_within}
use Rattle.arr_sums.proofs.Rests.{row_scans}
use Rattle.arr_sums.proofs.scan.scan_row_part.Goals as goal

pub step_row-requires-clause-typed : goal.step_row-requires-clause-typed
step_row-requires-clause-typed g c = fewer_of g.T.Native.elem c.args.carries.now c.args.at (c.args.place % c.args.axis.inner) c.args.run c.args.axis.inner c.requires.row c.requires.typed

pub returns-clause-carries : goal.returns-clause-carries
returns-clause-carries g c =
    steps_within g.T.Native.elem (λ carry x. value c.args.code g.T.Native.elem (cond (c.args.place / c.args.axis.inner % c.args.axis.length == 0) (g.T.Native.number c.args.start) carry) x) c.args.carries.now
    c.step_row.new.carries (λ j. entry g.T.Native.number c.args.source.now (c.args.from + j)) c.args.at (c.args.place % c.args.axis.inner) c.args.run c.args.axis.inner c.requires.row c.step_row.ensures

pub returns-clause-scanned : goal.returns-clause-scanned
returns-clause-scanned g c xs was reads =
    let step = λ (carry : ℤ) (x : ℤ). value c.args.code g.T.Native.elem (cond (c.args.place / c.args.axis.inner % c.args.axis.length == 0) (g.T.Native.number c.args.start) carry) x in
    let each = part_each step c.args.carries.now c.step_row.new.carries (λ j. entry g.T.Native.number c.args.source.now (c.args.from + j)) c.args.at (c.args.place % c.args.axis.inner) c.args.run
    c.step_row.ensures.each in
    let h = row_scans (value c.args.code g.T.Native.elem) (g.T.Native.number c.args.start) c.args.axis.length c.args.axis.inner c.args.axis.outer (kept_at c.args.carries.now c.args.at)
    (kept_at c.step_row.new.carries c.args.at) (entry g.T.Native.number c.args.source.now) c.args.place c.args.from c.args.run c.requires.inner c.requires.row c.requires.inside
    each (λ l u. c.step_row.ensures.before (c.args.at + l) (omega arith)) (λ l u. c.step_row.ensures.behind (c.args.at + l) (omega arith)) xs was reads in
    ((λ j l. c.copy.ensures.each j l ∙ ap (λ k. Rattle.std.proofs.Common.get_or c.step_row.new.carries k (Rattle.std.proofs.Common.pos 0)) (let e : c.args.at + c.args.place % c.args.axis.inner + j ≡ c.args.at + (c.args.place % c.args.axis.inner + j) = omega arith in e) ∙ h.0 j l), h.1)
