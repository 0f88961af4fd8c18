use Rattle.std.proofs.Common.{◌≡◌, ◌∙◌, ap, arith, pos, rules, sym, FitsSigned, to_z}
use Rattle.std.specs.Int.{w128}
use Rattle.std.proofs.lemmas.Int.{ints}
use Rattle.arr_num.proofs.Reading.{read}
use Rattle.arr_view.specs.Strided.{Strided}
use Rattle.arr_ops.specs.Costs.{total}
use Rattle.arr_ops.specs.Ops.{view_of}
use Rattle.arr_store.specs.Cells.{width_at}
use Rattle.arr_store.specs.Stored.{cells}
use Rattle.arr_strips.specs.Columns.{first_taken}
use Rattle.arr_loop.specs.Numbers.{row_at}
use Rattle.arr_loop.proofs.Elements.{first_other, no_loads}
use Rattle.arr_loop.proofs.computing.first_number.Goals as goal

pub returns-in-Range-clause-number : goal.returns-in-Range-clause-number
returns-in-Range-clause-number c =
    let fits = c.ranges.position.fits in
    let is : to_z w128 c.args.position ≡ pos c.args.position = omega (arith, ints) in
    is ∙ ap (λ k. first_taken k c.args.position (row_at (cells c.args.store.now) c.args.position) c.args.op.now.first) (sym c.in-Range.is)

pub returns-in-Range-clause-loads : goal.returns-in-Range-clause-loads
returns-in-Range-clause-loads c =
    let none : total (λ (v : Strided). width_at (cells c.args.store.now v.base)) (view_of c.args.op.now.first) ≡ 0 = no_loads (λ (v : Strided). width_at (cells c.args.store.now v.base)) c.args.op.now c.requires.well c.in-Range.is in
    omega arith

pub returns-in_default-clause-number : goal.returns-in_default-clause-number
returns-in_default-clause-number c =
    let fits : FitsSigned w128 c.operand_number.result = search rules in
    read c.operand_number.result fits ∙ c.operand_number.ensures.number ∙ sym (first_other c.args.op.now.code c.args.position (row_at (cells c.args.store.now) c.args.position) c.args.op.now.first c.in_default.not-Range)
