use Rattle.std.proofs.Common.{◌≤◌, List, length, sym, subst}
use Rattle.arr_ops.specs.declared.op.Op.{Op}
use Rattle.arr_law.specs.ProblemOf.{views_of}
use Rattle.arr_bound.specs.Classes.{AreClasses}
use Rattle.arr_bound.proofs.Tables.{few_classes}
use Rattle.arr_bound.proofs.classes.Views.of.Goals as goal

pub invariant_of-result : goal.invariant_of-result
invariant_of-result c =
    subst (λ (list : List Op). (length list ≤ 256) × (length (views_of list) ≤ 768) × AreClasses list (length (views_of list)) c.in_ok-all_classes.field-0.items) (sym c.in_ok-copied.ensures)
    (c.requires, few_classes c.args.ops.now c.requires, c.in_ok-all_classes.ensures)
