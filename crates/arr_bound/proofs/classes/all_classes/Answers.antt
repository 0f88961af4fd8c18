use Rattle.arr_bound.proofs.Tables.{classes_more}
use Rattle.arr_bound.proofs.classes.all_classes.Goals as goal

pub loop-at-preserved : goal.loop-at-preserved
loop-at-preserved c = classes_more c.args.ops.now c.loop-at.at c.loop-at.classes.items c.push.new.self.items c.in_ok-class_at.field-0 c.in_ok-push.ensures.items c.in_ok-class_at.ensures c.loop-at.invariant
