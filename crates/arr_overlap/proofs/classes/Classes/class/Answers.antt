use Rattle.std.proofs.Common.{◌∙◌, sym, ap, position}
use Rattle.arr_view.specs.Views.{identical}
use Rattle.arr_overlap.proofs.ClassesSeen.{same_place}
use Rattle.arr_overlap.proofs.classes.Classes.class.Goals as goal

pub returns-in_err-index : goal.returns-in_err-index
returns-in_err-index c =
    c.from_residual.ensures ∙ sym c.in_err-index.was ∙ c.get_index_of.ensures.index
    ∙ same_place c.args.view.now c.self.inside.views.keys c.base-base.ensures.lawful c.self.invariant.1 ∙ ap (position (identical c.args.view.now)) c.self.view_is

pub returns : goal.returns
returns c =
    sym c.in_ok-index.was ∙ c.get_index_of.ensures.index
    ∙ same_place c.args.view.now c.self.inside.views.keys c.base-base.ensures.lawful c.self.invariant.1 ∙ ap (position (identical c.args.view.now)) c.self.view_is
