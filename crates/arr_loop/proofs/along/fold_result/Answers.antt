use Rattle.std.proofs.Common.{◌≡◌, ◌∙◌, ℕ, ◌+◌, ◌*◌, ◌/◌, ◌%◌, ◌≤◌, ◌<◌, ◌||◌, ap, ap₂, arith, rules, subst, sym, FitsSigned, to_z, of_z}
use Rattle.std.specs.FinMap as finite
use Rattle.std.specs.Int.{w128}
use Rattle.std.proofs.lemmas.Bool.{lt-ltb}
use Rattle.std.proofs.lemmas.Nat.{mul-le}
use Rattle.arr_num.specs.Kinds.{folds, scans}
use Rattle.arr_num.specs.Numbers.{fold_start, in_type, value}
use Rattle.arr_num.proofs.Reading.{read}
use Rattle.arr_view.specs.Views.{elements, positions}
use Rattle.arr_ops.proofs.Typed.{in_type_value}
use Rattle.arr_loop.proofs.Moves.{small_width}
use Rattle.arr_machine.proofs.Starts.{start_in}
use Rattle.arr_store.specs.Cells.{width_at}
use Rattle.arr_store.specs.Stored.{cells, memory_of}
use Rattle.arr_loop.specs.Numbers.{row_at, lie_inside}
use Rattle.arr_loop.proofs.Axes.{Input, fold_end, fold_loads, fold_more, input_of, line_lies, row_few, there}
use Rattle.arr_loop.proofs.along.fold_result.Goals as goal

pub loop-row-init : goal.loop-row-init
loop-row-init c =
    let fits : FitsSigned w128 c.fold_start-sum.result = search rules in
    let is : to_z w128 (of_z w128 c.fold_start-sum.result) ≡ fold_start c.args.op.now.code c.args.op.now.to = read c.fold_start-sum.result fits ∙ c.fold_start-sum.ensures in
    record {
      sum = is;
      typed = ap (in_type c.args.op.now.to) is ∙ start_in c.args.op.now.code c.args.op.now.to;
      bases = search rules;
      loads = omega arith;
      stores = search rules;
      made = search rules;
    }

pub line_place-requires-clause-inside : goal.line_place-requires-clause-inside
line_place-requires-clause-inside c =
    let i : Input (memory_of c.args.store.now) c.args.op.now c.args.input.now = input_of (memory_of c.args.store.now) c.args.op.now c.args.input.now c.requires.well (ap (λ k. folds k || scans k) c.requires.code) c.requires.input c.requires.fits in
    let few : positions c.args.input.now.lengths ≤ 1048576 = i.few in
    let inside = line_lies (memory_of c.args.store.now) c.args.op.now c.args.input.now c.requires.well i.code c.requires.input c.requires.fits c.requires.code c.args.line c.loop-row.row c.args.rows.count c.args.rows.inner c.requires.rows c.requires.inner c.requires.there c.loop-row-test.true in
    omega arith

pub view_number-number-requires-clause-inside : goal.view_number-number-requires-clause-inside
view_number-number-requires-clause-inside c =
    ap (λ b. lie_inside (elements c.args.input.now) (finite.get b c.args.input.now.base)) c.loop-row.invariant.bases
    ∙ there (memory_of c.args.store.now) c.args.op.now c.args.input.now c.requires.well (ap (λ k. folds k || scans k) c.requires.code) c.requires.input c.requires.fits

pub view_number-number-requires-clause-there : goal.view_number-number-requires-clause-there
view_number-number-requires-clause-there c =
    lt-ltb c.line_place.result (positions c.args.input.now.lengths)
    (subst (λ p. p < positions c.args.input.now.lengths) (sym c.line_place.ensures)
    (line_lies (memory_of c.args.store.now) c.args.op.now c.args.input.now c.requires.well (ap (λ k. folds k || scans k) c.requires.code) c.requires.input c.requires.fits c.requires.code c.args.line c.loop-row.row c.args.rows.count c.args.rows.inner c.requires.rows c.requires.inner c.requires.there c.loop-row-test.true))

pub view_number-number-requires-clause-room : goal.view_number-number-requires-clause-room
view_number-number-requires-clause-room c =
    let i : Input (memory_of c.args.store.now) c.args.op.now c.args.input.now = input_of (memory_of c.args.store.now) c.args.op.now c.args.input.now c.requires.well (ap (λ k. folds k || scans k) c.requires.code) c.requires.input c.requires.fits in
    let few : positions c.args.input.now.lengths ≤ 1048576 = i.few in
    let inside = line_lies (memory_of c.args.store.now) c.args.op.now c.args.input.now c.requires.well i.code c.requires.input c.requires.fits c.requires.code c.args.line c.loop-row.row c.args.rows.count c.args.rows.inner c.requires.rows c.requires.inner c.requires.there c.loop-row-test.true in
    let row : c.loop-row.row < positions c.args.input.now.lengths = row_few (c.args.line / c.args.rows.inner * c.args.rows.count) c.loop-row.row c.args.rows.inner (c.args.line % c.args.rows.inner) (positions c.args.input.now.lengths) c.requires.some_inner inside in
    let small : width_at (cells c.args.store.now c.args.input.now.base) ≤ 8 = small_width (cells c.args.store.now c.args.input.now.base) in
    let bytes : c.loop-row.row * width_at (cells c.args.store.now c.args.input.now.base) ≤ 1048576 * 8 = mul-le c.loop-row.row (width_at (cells c.args.store.now c.args.input.now.base)) 1048576 8 (omega arith) small in
    let now : c.loop-row.store.loads ≡ c.args.store.now.loads + c.loop-row.row * width_at (cells c.args.store.now c.args.input.now.base) = c.loop-row.invariant.loads in
    let room = c.requires.room in
    omega arith

pub combine-sum-requires-clause-number : goal.combine-sum-requires-clause-number
combine-sum-requires-clause-number c =
    let i : Input (memory_of c.args.store.now) c.args.op.now c.args.input.now = input_of (memory_of c.args.store.now) c.args.op.now c.args.input.now c.requires.well (ap (λ k. folds k || scans k) c.requires.code) c.requires.input c.requires.fits in
    let fits : FitsSigned w128 c.view_number-number.result = search rules in
    ap (in_type c.args.op.now.to) (read c.view_number-number.result fits ∙ c.view_number-number.ensures.number ∙ ap₂ (λ b p. row_at (finite.get b) p c.args.input.now) c.loop-row.invariant.bases c.line_place.ensures)
    ∙ i.numbers ((c.args.line / c.args.rows.inner * c.args.rows.count + c.loop-row.row) * c.args.rows.inner + c.args.line % c.args.rows.inner)
    (line_lies (memory_of c.args.store.now) c.args.op.now c.args.input.now c.requires.well i.code c.requires.input c.requires.fits c.requires.code c.args.line c.loop-row.row c.args.rows.count c.args.rows.inner c.requires.rows c.requires.inner c.requires.there c.loop-row-test.true)

pub loop-row-preserved : goal.loop-row-preserved
loop-row-preserved c =
    let number : FitsSigned w128 c.view_number-number.result = search rules in
    let sum : FitsSigned w128 c.combine-sum.result = search rules in
    let before : FitsSigned w128 c.loop-row.sum = search rules in
    let f : _ = value c.args.op.now.code c.args.op.now.to in
    let w : ℕ = width_at (cells c.args.store.now c.args.input.now.base) in
    let now : c.loop-row.store.loads ≡ c.args.store.now.loads + c.loop-row.row * w = c.loop-row.invariant.loads in
    let more : c.view_number-number.new.store.loads ≡ c.loop-row.store.loads + w = c.view_number-number.ensures.loads ∙ ap (λ b. c.loop-row.store.loads + width_at (finite.get b c.args.input.now.base)) c.loop-row.invariant.bases in
    let one : (c.loop-row.row + 1) * w ≡ c.loop-row.row * w + w = omega arith in
    record {
      sum = read c.combine-sum.result sum ∙ c.combine-sum.ensures
          ∙ ap₂ (value c.args.op.now.code c.args.op.now.to) c.loop-row.invariant.sum
          (read c.view_number-number.result number ∙ c.view_number-number.ensures.number ∙ ap₂ (λ b p. row_at (finite.get b) p c.args.input.now) c.loop-row.invariant.bases c.line_place.ensures)
          ∙ fold_more (value c.args.op.now.code c.args.op.now.to) (fold_start c.args.op.now.code c.args.op.now.to)
          (λ j. row_at (cells c.args.store.now) ((c.args.line / c.args.rows.inner * c.args.rows.count + j) * c.args.rows.inner + c.args.line % c.args.rows.inner) c.args.input.now) c.loop-row.row;
      typed = ap (in_type c.args.op.now.to) (read c.combine-sum.result sum ∙ c.combine-sum.ensures) ∙ in_type_value c.args.op.now.code c.args.op.now.to _ _;
      bases = c.view_number-number.ensures.bases ∙ c.loop-row.invariant.bases;
      loads = omega arith;
      stores = c.view_number-number.ensures.stores ∙ c.loop-row.invariant.stores;
      made = c.view_number-number.ensures.made ∙ c.loop-row.invariant.made;
    }

pub returns-clause-value : goal.returns-clause-value
returns-clause-value c =
    let i : Input (memory_of c.args.store.now) c.args.op.now c.args.input.now = input_of (memory_of c.args.store.now) c.args.op.now c.args.input.now c.requires.well (ap (λ k. folds k || scans k) c.requires.code) c.requires.input c.requires.fits in
    let low : c.loop-row.row ≤ c.args.rows.count = c.loop-row.auto.row-end in
    let high : c.args.rows.count ≤ c.loop-row.row = c.loop-row-test.false in
    c.loop-row.invariant.sum
    ∙ fold_end (memory_of c.args.store.now) c.args.op.now c.args.input.now c.requires.well i.code c.requires.input c.requires.fits c.requires.code c.args.line c.args.rows.count c.args.rows.inner c.loop-row.row c.requires.rows c.requires.inner (omega arith) c.requires.there i.long

pub returns-clause-loads : goal.returns-clause-loads
returns-clause-loads c =
    let low : c.loop-row.row ≤ c.args.rows.count = c.loop-row.auto.row-end in
    let high : c.args.rows.count ≤ c.loop-row.row = c.loop-row-test.false in
    let all : c.loop-row.row ≡ c.args.rows.count = omega arith in
    let each = fold_loads (memory_of c.args.store.now) c.args.op.now c.args.input.now c.requires.well (ap (λ k. folds k || scans k) c.requires.code) c.requires.input c.requires.fits c.requires.code in
    c.loop-row.invariant.loads ∙ ap (λ n. c.args.store.now.loads + n * width_at (cells c.args.store.now c.args.input.now.base)) (all ∙ c.requires.rows) ∙ ap (λ n. c.args.store.now.loads + n) (sym each)
