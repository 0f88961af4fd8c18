use Rattle.std.proofs.Common.{◌+◌, sym, subst}
use Rattle.arr_overlap.specs.Classes.{AreOutlines}
use Rattle.arr_overlap.proofs.ClassesMeet.{one_more_outline, view_there}
use Rattle.arr_overlap.proofs.classes.all_outlines.Goals as goal

pub loop-view-preserved : goal.loop-view-preserved
loop-view-preserved c =
    let views = c.args.views.now in
    let i = c.loop-view.view-index in
    subst (λ os. AreOutlines (i + 1) os views) (sym c.in_ok-push.ensures.items)
    (one_more_outline views c.loop-view.outlines.items i c.view-item.result c.outline_of.result (view_there views i c.view-item.result c.loop-view-test.true c.view-item.is) c.outline_of.ensures c.loop-view.invariant)
