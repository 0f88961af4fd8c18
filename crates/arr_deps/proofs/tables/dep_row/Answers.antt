use Rattle.std.proofs.Common.{◌≡◌, ◌∙◌, ◌+◌, ◌<◌, arith, length, sym, subst}
use Rattle.arr_ops.specs.Ops.{dep}
use Rattle.arr_deps.specs.Graph.{nothing, op_in}
use Rattle.arr_deps.proofs.RowsBy.{Row, none_yet, passes, fails, whole}
use Rattle.arr_deps.proofs.tables.dep_row.Goals as goal
use Rattle.arr_deps.proofs.tables.dep_row.Goals.{then-depend_at, else-depend_at}

pub loop-place-init : goal.loop-place-init
loop-place-init c = none_yet (dep (op_in c.args.ops.now c.args.f)) nothing c.args.ops.now c.in_ok-row.row c.in_ok-row.ensures

pub insert-requires : goal.insert-requires
insert-requires c =
    let long : length c.loop-place.row ≡ length c.args.ops.now = c.loop-place.invariant.long in
    let less : c.loop-place.place < length c.args.ops.now = c.loop-place-test.true in
    omega arith

pub loop-place-preserved : goal.loop-place-preserved
loop-place-preserved c =
    elim c.if-depend_at.branch [
      | then-depend_at w ↦ subst (λ r. Row (dep (op_in c.args.ops.now c.args.f)) nothing c.args.ops.now (c.loop-place.place + 1) r) (sym (w.row-is ∙ w.insert.ensures))
          (passes (dep (op_in c.args.ops.now c.args.f)) nothing c.args.ops.now c.loop-place.place c.loop-place.row c.loop-place-test.true (sym c.depend_at.ensures ∙ w.if-depend_at.true) c.loop-place.invariant)
      | else-depend_at w ↦ subst (λ r. Row (dep (op_in c.args.ops.now c.args.f)) nothing c.args.ops.now (c.loop-place.place + 1) r) (sym w.row-is)
          (fails (dep (op_in c.args.ops.now c.args.f)) nothing c.args.ops.now c.loop-place.place c.loop-place.row (sym c.depend_at.ensures ∙ w.if-depend_at.false) c.loop-place.invariant)
    ]

pub returns : goal.returns
returns c = whole (dep (op_in c.args.ops.now c.args.f)) nothing c.args.ops.now c.loop-place.place c.loop-place.row c.loop-place-test.false c.loop-place.invariant
