use Rattle.std.proofs.Common.{◌∙◌, ◌||◌, ap, ap₂}
use Rattle.std.specs.List.{list_any}
use Rattle.arr_view.specs.Views.{has}
use Rattle.arr_ops.specs.Ops.{disturbs, freed, named}
use Rattle.arr_check.proofs.ClassTests.{disturbs_is, first_decides, second_decides}
use Rattle.arr_check.proofs.pairs.disturbs.Goals as goal

pub returns-then-meets_any : goal.returns-then-meets_any
returns-then-meets_any c =
    let known = list_any (has (named c.args.g.now)) (freed c.args.f.now) in
    first_decides c.meets_any.result known (disturbs c.args.f.now c.args.g.now) c.if-meets_any.true
    (ap (λ b. b || known) c.meets_any.ensures ∙ disturbs_is c.args.classes.now c.args.f.now c.args.g.now c.args.f_classes.now c.args.g_classes.now c.requires.first c.requires.second)

pub returns-else-meets_any : goal.returns-else-meets_any
returns-else-meets_any c =
    second_decides c.meets_any.result c.frees_named.result (disturbs c.args.f.now c.args.g.now) c.if-meets_any.false
    (ap₂ (λ a b. a || b) c.meets_any.ensures c.frees_named.ensures ∙ disturbs_is c.args.classes.now c.args.f.now c.args.g.now c.args.f_classes.now c.args.g_classes.now c.requires.first c.requires.second)
