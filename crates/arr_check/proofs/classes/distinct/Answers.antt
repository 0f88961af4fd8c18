use Rattle.std.proofs.Common.{◌∙◌, ap, sym}
use Rattle.std.proofs.lemmas.List.{take_all}
use Rattle.arr_check.specs.Classed.{firsts, with_first}
use Rattle.arr_check.proofs.Firsts.{firsts_distinct, firsts_more}
use Rattle.arr_check.proofs.classes.distinct.Goals as goal

pub loop-view-preserved : goal.loop-view-preserved
loop-view-preserved c =
    c.in_ok-push_new.ensures ∙ ap (λ found. with_first found c.view-item.result) c.loop-view.invariant ∙ sym (firsts_more c.args.views.now c.loop-view.view-index c.view-item.result c.loop-view-test.true (sym c.view-item.is))

pub returns : goal.returns
returns c = c.loop-view.invariant ∙ ap firsts (take_all c.loop-view.view-index c.args.views.now c.loop-view-test.false) ∙ firsts_distinct c.args.views.now
