use Rattle.std.proofs.Common.{◌∙◌, ◌<◌, ◌≤◌, List, length, ap, sym, subst, get_or}
use Rattle.arr_view.specs.Strided.{Strided}
use Rattle.arr_view.specs.Views.{identical}
use Rattle.arr_check.proofs.Positions.{first_at, none_at_all, position_at, position_none}
use Rattle.arr_check.proofs.classes.Classes.class.Goals as goal

pub returns-then-identical : goal.returns-then-identical
returns-then-identical c =
    let vs : List Strided = c.args.self.now in
    let same = c.deref-other-items.ensures.value ∙ c.self.view_is in
    let l : c.loop-at.at < length vs = subst (λ ws. c.loop-at.at < length ws) same c.loop-at-test.true in
    position_at (identical c.args.view.now) vs c.loop-at.at l
    (first_at (identical c.args.view.now) vs c.loop-at.at c.other-item.result l (c.other-item.is ∙ ap (λ ws. get_or ws c.loop-at.at c.other-item.result) same) c.loop-at.invariant (sym c.identical.ensures ∙ c.if-identical.true))

pub returns : goal.returns
returns c =
    let vs : List Strided = c.args.self.now in
    let same = c.deref-other-items.ensures.value ∙ c.self.view_is in
    position_none (identical c.args.view.now) vs (none_at_all (identical c.args.view.now) vs c.loop-at.at (subst (λ ws. length ws ≤ c.loop-at.at) same c.loop-at-test.false) c.loop-at.invariant)
