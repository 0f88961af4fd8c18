use Rattle.std.proofs.Common.{◌≡◌, ◌∙◌, ◌+◌, ◌≤◌, ap, ap₂, arith, cond, rules, subst, sym, true, FitsSigned}
use Rattle.std.specs.FinMap as finite
use Rattle.std.specs.Int.{w128}
use Rattle.std.specs.List.{list_all}
use Rattle.arr_num.specs.Numbers.{value}
use Rattle.arr_num.proofs.Reading.{read}
use Rattle.arr_kernel.specs.Inputs.{takes_left, takes_right}
use Rattle.arr_view.specs.Views.{elements, positions}
use Rattle.arr_ops.specs.Ops.{view_of}
use Rattle.arr_machine.proofs.Few.{few_positions}
use Rattle.arr_loop.proofs.Needs.{first_inside, out_view, second_inside, types_of_op}
use Rattle.arr_strips.specs.Columns.{taken}
use Rattle.arr_loop.specs.Numbers.{loads_each, row_at, same_inputs, lie_inside}
use Rattle.arr_view.specs.Strided.{Strided}
use Rattle.arr_ops.specs.Costs.{total}
use Rattle.arr_store.specs.Cells.{width_at}
use Rattle.arr_store.specs.Stored.{cells, memory_of}
use Rattle.arr_loop.proofs.Elements.{element_loads, element_value, few_loads, left_in, right_in, there_first, there_second}
use Rattle.arr_loop.proofs.computing.element_result.Goals as goal

pub first_number-left-requires-clause-inside : goal.first_number-left-requires-clause-inside
first_number-left-requires-clause-inside c = first_inside (memory_of c.args.store.now) c.args.op.now c.args.out.now c.requires.well c.requires.code c.requires.out c.requires.fits

pub first_number-left-requires-clause-there : goal.first_number-left-requires-clause-there
first_number-left-requires-clause-there c = there_first (memory_of c.args.store.now) c.args.op.now c.args.out.now c.requires.well c.requires.code c.requires.out c.requires.fits c.args.position c.requires.there

pub second_number-right-requires-clause-inside : goal.second_number-right-requires-clause-inside
second_number-right-requires-clause-inside c =
    subst (λ b. list_all (λ v. lie_inside (elements v) (finite.get b v.base)) (view_of c.args.op.now.second) ≡ true) (sym c.first_number-left.ensures.bases)
    (second_inside (memory_of c.args.store.now) c.args.op.now c.args.out.now c.requires.well c.requires.code c.requires.out c.requires.fits)

pub second_number-right-requires-clause-there : goal.second_number-right-requires-clause-there
second_number-right-requires-clause-there c = there_second (memory_of c.args.store.now) c.args.op.now c.args.out.now c.requires.well c.requires.code c.requires.out c.requires.fits c.args.position c.requires.there

pub second_number-right-requires-clause-room : goal.second_number-right-requires-clause-room
second_number-right-requires-clause-room c =
    let few : total (λ (v : Strided). width_at (cells c.args.store.now v.base)) (view_of c.args.op.now.first) ≤ 8 = few_loads (cells c.args.store.now) c.args.op.now.first in
    let left : c.first_number-left.new.store.loads ≡ c.args.store.now.loads + total (λ (v : Strided). width_at (cells c.args.store.now v.base)) (view_of c.args.op.now.first) = c.first_number-left.ensures.loads in
    let room = c.requires.room in
    omega arith

pub apply-requires-clause-types : goal.apply-requires-clause-types
apply-requires-clause-types c = types_of_op (memory_of c.args.store.now) c.args.op.now c.args.out.now c.requires.well c.requires.code c.requires.out c.requires.fits

pub apply-requires-clause-left : goal.apply-requires-clause-left
apply-requires-clause-left c =
    let fits : FitsSigned w128 c.first_number-left.result = search rules in
    let few : positions c.args.out.now.lengths ≤ 1048576 = few_positions c.args.out.now (out_view (memory_of c.args.store.now) c.args.op.now c.args.out.now c.requires.well c.requires.out c.requires.fits) in
    ap (takes_left c.args.op.now.code c.args.op.now.from) (read c.first_number-left.result fits ∙ c.first_number-left.ensures.number)
    ∙ left_in (memory_of c.args.store.now) c.args.op.now c.args.out.now c.requires.well c.requires.code c.requires.out c.requires.fits c.args.position c.requires.there few

pub apply-requires-clause-right : goal.apply-requires-clause-right
apply-requires-clause-right c =
    let fits : FitsSigned w128 c.second_number-right.result = search rules in
    ap (takes_right c.args.op.now.code c.args.op.now.from)
    (read c.second_number-right.result fits ∙ c.second_number-right.ensures.number ∙ ap (λ b. taken (row_at (finite.get b) c.args.position) c.args.op.now.second) c.first_number-left.ensures.bases)
    ∙ right_in (memory_of c.args.store.now) c.args.op.now c.args.out.now c.requires.well c.requires.code c.requires.out c.requires.fits c.args.position c.requires.there

pub returns-clause-value : goal.returns-clause-value
returns-clause-value c =
    let left : FitsSigned w128 c.first_number-left.result = search rules in
    let right : FitsSigned w128 c.second_number-right.result = search rules in
    let result : FitsSigned w128 c.apply.result = search rules in
    read c.apply.result result ∙ c.apply.ensures
    ∙ ap₂ (value c.args.op.now.code c.args.op.now.to) (read c.first_number-left.result left ∙ c.first_number-left.ensures.number)
    (read c.second_number-right.result right ∙ c.second_number-right.ensures.number ∙ ap (λ b. taken (row_at (finite.get b) c.args.position) c.args.op.now.second) c.first_number-left.ensures.bases)
    ∙ sym (element_value (memory_of c.args.store.now) c.args.op.now c.args.out.now c.requires.well c.requires.code c.requires.out c.requires.fits c.args.position c.requires.there)

pub returns-clause-loads : goal.returns-clause-loads
returns-clause-loads c =
    let all = element_loads (memory_of c.args.store.now) c.args.op.now c.args.out.now c.requires.well c.requires.code c.requires.out c.requires.fits in
    let left : c.first_number-left.new.store.loads ≡ c.args.store.now.loads + total (λ (v : Strided). width_at (cells c.args.store.now v.base)) (view_of c.args.op.now.first) = c.first_number-left.ensures.loads in
    let right : c.second_number-right.new.store.loads ≡ c.first_number-left.new.store.loads + cond (same_inputs c.args.op.now) 0 (total (λ (v : Strided). width_at (cells c.args.store.now v.base)) (view_of c.args.op.now.second)) =
    c.second_number-right.ensures.loads
    ∙ ap₂ (λ s b. c.first_number-left.new.store.loads + cond s 0 (total (λ (v : Strided). width_at (finite.get b v.base)) (view_of c.args.op.now.second))) c.requires.shared c.first_number-left.ensures.bases in
    let sum : total (λ (v : Strided). width_at (cells c.args.store.now v.base)) (view_of c.args.op.now.first) + cond (same_inputs c.args.op.now) 0 (total (λ (v : Strided). width_at (cells c.args.store.now v.base)) (view_of c.args.op.now.second)) ≡ loads_each c.args.op.now = all in
    omega arith
