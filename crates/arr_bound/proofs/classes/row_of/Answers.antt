use Rattle.std.proofs.Common.{◌∙◌, Bool, cond, ap, sym}
use Rattle.std.specs.List.{list_any}
use Rattle.arr_view.specs.Views.{identical}
use Rattle.arr_ops.specs.Ops.{inputs, outputs}
use Rattle.arr_law.specs.ProblemOf.{op_at}
use Rattle.arr_ops.specs.declared.op.Op.{Op}
use Rattle.arr_bound.proofs.Tables.{row_more, op_here}
use Rattle.arr_bound.proofs.classes.row_of.Goals as goal

pub loop-place-preserved : goal.loop-place-preserved
loop-place-preserved c =
    let test : Op → Bool = λ op. cond c.args.written (list_any (identical c.args.view.now) (outputs op)) (list_any (identical c.args.view.now) (inputs op)) in
    record {
      long = c.put_if.ensures.long ∙ c.loop-place.invariant.long;
      below = row_more (λ g. test (op_at c.args.ops.now g)) c.loop-place.place c.loop-place.row.items c.put_if.new.set.items c.touches.result
          (c.touches.ensures ∙ ap test (sym (op_here c.args.ops.now c.loop-place.place c.index-ops-place.result c.loop-place-test.true c.index-ops-place.is))) c.put_if.ensures.members c.loop-place.invariant.below;
    }
