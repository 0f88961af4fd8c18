use Rattle.std.proofs.Common.{◌∙◌, ◌+◌, ◌-◌, ◌≤◌, ◌<◌, ◌||◌, ap, arith, get_or, pos, rules, subst, sym, FitsSigned, to_z, of_z}
use Rattle.std.specs.Int.{w128}
use Rattle.std.proofs.lemmas.Bool.{lt-ltb}
use Rattle.arr_num.specs.Kinds.{folds, scans}
use Rattle.arr_num.specs.Numbers.{in_type}
use Rattle.arr_num.proofs.Reading.{read}
use Rattle.arr_view.specs.Views.{positions}
use Rattle.arr_store.specs.Stored.{memory_of}
use Rattle.arr_loop.proofs.Axes.{Input, input_of, result_in, row_before, scan_count, scan_first, scan_later, scan_loads, there}
use Rattle.arr_loop.proofs.along.scan_result.Goals as goal

pub view_number-number-requires-clause-inside : goal.view_number-number-requires-clause-inside
view_number-number-requires-clause-inside c = there (memory_of c.args.store.now) c.args.op.now c.args.input.now c.requires.well (ap (λ k. folds k || scans k) c.requires.code) c.requires.input c.requires.fits

pub view_number-number-requires-clause-there : goal.view_number-number-requires-clause-there
view_number-number-requires-clause-there c =
    lt-ltb c.args.position (positions c.args.input.now.lengths)
    (subst (λ n. c.args.position < n) (scan_count (memory_of c.args.store.now) c.args.op.now c.args.input.now c.requires.well (ap (λ k. folds k || scans k) c.requires.code) c.requires.input c.requires.fits c.requires.code) c.requires.there)

pub combine-requires-clause-number : goal.combine-requires-clause-number
combine-requires-clause-number c =
    let i : Input (memory_of c.args.store.now) c.args.op.now c.args.input.now = input_of (memory_of c.args.store.now) c.args.op.now c.args.input.now c.requires.well (ap (λ k. folds k || scans k) c.requires.code) c.requires.input c.requires.fits in
    let fits : FitsSigned w128 c.view_number-number.result = search rules in
    ap (in_type c.args.op.now.to) (read c.view_number-number.result fits ∙ c.view_number-number.ensures.number)
    ∙ i.numbers c.args.position (subst (λ n. c.args.position < n) (scan_count (memory_of c.args.store.now) c.args.op.now c.args.input.now c.requires.well i.code c.requires.input c.requires.fits c.requires.code) c.requires.there)

pub returns-then-position-rows-eq0-clause-value : goal.returns-then-position-rows-eq0-clause-value
returns-then-position-rows-eq0-clause-value c =
    let i : Input (memory_of c.args.store.now) c.args.op.now c.args.input.now = input_of (memory_of c.args.store.now) c.args.op.now c.args.input.now c.requires.well (ap (λ k. folds k || scans k) c.requires.code) c.requires.input c.requires.fits in
    let number : FitsSigned w128 c.view_number-number.result = search rules in
    let start : FitsSigned w128 c.fold_start.result = search rules in
    let sum : FitsSigned w128 c.combine.result = search rules in
    read c.combine.result sum ∙ c.combine.ensures
    ∙ scan_first (memory_of c.args.store.now) c.args.op.now c.args.input.now c.requires.well i.code c.requires.input c.requires.fits c.requires.code c.args.position c.args.rows.count c.args.rows.inner
    (to_z w128 (of_z w128 c.fold_start.result)) (to_z w128 (of_z w128 c.view_number-number.result)) c.requires.rows c.requires.inner c.requires.there i.long c.if-position-rows-eq0.true (read c.fold_start.result start ∙ c.fold_start.ensures)
    (read c.view_number-number.result number ∙ c.view_number-number.ensures.number)

pub returns-then-position-rows-eq0-clause-loads : goal.returns-then-position-rows-eq0-clause-loads
returns-then-position-rows-eq0-clause-loads c =
    let each = scan_loads (memory_of c.args.store.now) c.args.op.now c.args.input.now c.requires.well (ap (λ k. folds k || scans k) c.requires.code) c.requires.input c.requires.fits c.requires.code in
    c.view_number-number.ensures.loads ∙ ap (λ n. c.args.store.now.loads + n) (sym each)

pub combine-requires-2-clause-sum : goal.combine-requires-2-clause-sum
combine-requires-2-clause-sum c =
    let room : c.args.rows.inner ≤ c.args.position = row_before c.args.position c.args.rows.inner c.args.rows.count c.requires.some_inner c.requires.some c.if-position-rows-eq0.false in
    let some : 1 ≤ c.args.rows.inner = c.requires.some_inner in
    let fits : FitsSigned w128 c.number-before.result = search rules in
    ap (in_type c.args.op.now.to) (read c.number-before.result fits ∙ c.number-before.ensures ∙ ap (λ i. get_or c.args.prepared.now.numbers i (pos 0)) c.from.ensures ∙ c.requires.earlier (c.args.position - c.args.rows.inner) (omega arith))
    ∙ result_in (memory_of c.args.store.now) c.args.op.now c.args.input.now c.requires.well (ap (λ k. folds k || scans k) c.requires.code) c.requires.input c.requires.fits (c.args.position - c.args.rows.inner)

pub combine-requires-2-clause-number : goal.combine-requires-2-clause-number
combine-requires-2-clause-number c =
    let i : Input (memory_of c.args.store.now) c.args.op.now c.args.input.now = input_of (memory_of c.args.store.now) c.args.op.now c.args.input.now c.requires.well (ap (λ k. folds k || scans k) c.requires.code) c.requires.input c.requires.fits in
    let fits : FitsSigned w128 c.view_number-number.result = search rules in
    ap (in_type c.args.op.now.to) (read c.view_number-number.result fits ∙ c.view_number-number.ensures.number)
    ∙ i.numbers c.args.position (subst (λ n. c.args.position < n) (scan_count (memory_of c.args.store.now) c.args.op.now c.args.input.now c.requires.well i.code c.requires.input c.requires.fits c.requires.code) c.requires.there)

pub returns-clause-value : goal.returns-clause-value
returns-clause-value c =
    let i : Input (memory_of c.args.store.now) c.args.op.now c.args.input.now = input_of (memory_of c.args.store.now) c.args.op.now c.args.input.now c.requires.well (ap (λ k. folds k || scans k) c.requires.code) c.requires.input c.requires.fits in
    let room : c.args.rows.inner ≤ c.args.position = row_before c.args.position c.args.rows.inner c.args.rows.count c.requires.some_inner c.requires.some c.if-position-rows-eq0.false in
    let some : 1 ≤ c.args.rows.inner = c.requires.some_inner in
    let number : FitsSigned w128 c.view_number-number.result = search rules in
    let before : FitsSigned w128 c.number-before.result = search rules in
    let sum : FitsSigned w128 c.combine-2.result = search rules in
    read c.combine-2.result sum ∙ c.combine-2.ensures
    ∙ scan_later (memory_of c.args.store.now) c.args.op.now c.args.input.now c.requires.well i.code c.requires.input c.requires.fits c.requires.code c.args.position c.args.rows.count c.args.rows.inner
    (to_z w128 (of_z w128 c.number-before.result)) (to_z w128 (of_z w128 c.view_number-number.result)) c.requires.rows c.requires.inner c.requires.there i.long c.if-position-rows-eq0.false
    (read c.number-before.result before ∙ c.number-before.ensures ∙ ap (λ i. get_or c.args.prepared.now.numbers i (pos 0)) c.from.ensures ∙ c.requires.earlier (c.args.position - c.args.rows.inner) (omega arith))
    (read c.view_number-number.result number ∙ c.view_number-number.ensures.number)

pub returns-clause-loads : goal.returns-clause-loads
returns-clause-loads c =
    let each = scan_loads (memory_of c.args.store.now) c.args.op.now c.args.input.now c.requires.well (ap (λ k. folds k || scans k) c.requires.code) c.requires.input c.requires.fits c.requires.code in
    c.view_number-number.ensures.loads ∙ ap (λ n. c.args.store.now.loads + n) (sym each)
