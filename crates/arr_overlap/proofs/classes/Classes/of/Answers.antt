use Rattle.std.proofs.Common.{◌≡◌, ◌∙◌, ap, sym, subst, arith, get_or}
use Rattle.arr_overlap.proofs.ClassesSeen.{all_seen, none_yet, one_more}
use Rattle.arr_overlap.specs.Classes.{overlaps_among}
use Rattle.arr_overlap.proofs.classes.Classes.of.Goals as goal

pub loop-view-init : goal.loop-view-init
loop-view-init c = none_yet c.args.views.now c.new-first_views.result.keys c.new-first_views.ensures.empty

pub loop-view-preserved : goal.loop-view-preserved
loop-view-preserved c =
    let here : get_or c.args.views.now c.loop-view.view-index c.copied.result ≡ c.copied.result =
    subst (λ v. get_or c.args.views.now c.loop-view.view-index v ≡ v) (sym c.copied.ensures.value) (sym c.view-item.is) in
    one_more c.args.views.now c.loop-view.first_views.keys c.insert.new.self.keys c.loop-view.view-index c.copied.result c.loop-view-test.true here c.copied.ensures.lawful c.loop-view.invariant c.in_ok-insert.ensures.keys

pub invariant_of-result : goal.invariant_of-result
invariant_of-result c =
    let few = c.loop-view.invariant.few in
    (omega arith, c.loop-view.invariant.lawful, c.in_ok-rows.ensures ∙ ap overlaps_among c.as_slice.ensures.keys)

pub returns : goal.returns
returns c = all_seen c.args.views.now c.loop-view.first_views.keys c.loop-view.view-index c.loop-view-test.false c.loop-view.invariant
