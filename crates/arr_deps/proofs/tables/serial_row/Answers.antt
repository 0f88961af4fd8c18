use Rattle.std.proofs.Common.{◌≡◌, ◌∙◌, ◌+◌, ◌<◌, arith, length, sym, subst}
use Rattle.arr_ops.specs.Ops.{serial}
use Rattle.arr_deps.specs.Graph.{nothing}
use Rattle.arr_deps.proofs.RowsBy.{Row, none_yet, passes, fails, whole}
use Rattle.arr_deps.proofs.tables.serial_row.Goals as goal
use Rattle.arr_deps.proofs.tables.serial_row.Goals.{then-serial_at, else-serial_at}

pub loop-place-init : goal.loop-place-init
loop-place-init c = none_yet serial nothing c.args.ops.now c.in_ok-row.row c.in_ok-row.ensures

pub insert-requires : goal.insert-requires
insert-requires c =
    let long : length c.loop-place.row ≡ length c.args.ops.now = c.loop-place.invariant.long in
    let less : c.loop-place.place < length c.args.ops.now = c.loop-place-test.true in
    omega arith

pub loop-place-preserved : goal.loop-place-preserved
loop-place-preserved c =
    elim c.if-serial_at.branch [
      | then-serial_at w ↦ subst (λ r. Row serial nothing c.args.ops.now (c.loop-place.place + 1) r) (sym (w.row-is ∙ w.insert.ensures))
          (passes serial nothing c.args.ops.now c.loop-place.place c.loop-place.row c.loop-place-test.true (sym c.serial_at.ensures ∙ w.if-serial_at.true) c.loop-place.invariant)
      | else-serial_at w ↦ subst (λ r. Row serial nothing c.args.ops.now (c.loop-place.place + 1) r) (sym w.row-is)
          (fails serial nothing c.args.ops.now c.loop-place.place c.loop-place.row (sym c.serial_at.ensures ∙ w.if-serial_at.false) c.loop-place.invariant)
    ]

pub returns : goal.returns
returns c = whole serial nothing c.args.ops.now c.loop-place.place c.loop-place.row c.loop-place-test.false c.loop-place.invariant
