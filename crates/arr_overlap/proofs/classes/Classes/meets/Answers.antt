use Rattle.std.proofs.Common.{◌≡◌, ◌∙◌, ◌<◌, List, false, get_or, sym, ap, length, map, subst}
use Rattle.std.proofs.lemmas.List.{length-map}
use Rattle.arr_view.specs.Strided.{Strided}
use Rattle.arr_view.specs.Views.{overlap}
use Rattle.arr_overlap.specs.Classes.{view_at}
use Rattle.arr_overlap.proofs.ClassesMeet.{bit_there, row_there}
use Rattle.arr_overlap.proofs.classes.Classes.meets.Goals as goal

pub has-requires : goal.has-requires
has-requires c =
    let keys : List Strided = c.self.inside.views.keys in
    let first : c.args.a < length keys = subst (λ vs. c.args.a < length vs) (sym c.self.view_is) c.requires.first in
    let second : c.args.b < length keys = subst (λ vs. c.args.b < length vs) (sym c.self.view_is) c.requires.second in
    let row : c.index.result.now ≡ map (overlap (view_at keys c.args.a)) keys = c.index.ensures ∙ row_there keys c.self.inside.rows.items c.args.a c.index.result.now c.self.invariant.2 first in
    subst (λ n. c.args.b < n) (sym (ap length row ∙ length-map keys (overlap (view_at keys c.args.a)))) second

pub returns : goal.returns
returns c =
    let keys : List Strided = c.self.inside.views.keys in
    let first : c.args.a < length keys = subst (λ vs. c.args.a < length vs) (sym c.self.view_is) c.requires.first in
    let second : c.args.b < length keys = subst (λ vs. c.args.b < length vs) (sym c.self.view_is) c.requires.second in
    let row : c.index.result.now ≡ map (overlap (view_at keys c.args.a)) keys = c.index.ensures ∙ row_there keys c.self.inside.rows.items c.args.a c.index.result.now c.self.invariant.2 first in
    c.has.ensures ∙ ap (λ r. get_or r c.args.b false) row ∙ bit_there keys (view_at keys c.args.a) c.args.b second
    ∙ ap (λ vs. overlap (view_at vs c.args.a) (view_at vs c.args.b)) c.self.view_is
