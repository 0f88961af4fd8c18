use Rattle.std.proofs.Common.{◌≡◌, ◌∙◌, ◌<◌, ◌+◌, ◌*◌, List, get_or, sym, ap, length, map, subst, rules}
use Rattle.std.specs.Vec.{vec_len}
use Rattle.std.proofs.lemmas.List.{length-map}
use Rattle.arr_view.specs.Strided.{Strided}
use Rattle.arr_view.specs.Views.{overlap}
use Rattle.arr_law.specs.ProblemOf.{no_view}
use Rattle.arr_check.specs.Classed.{view_in}
use Rattle.arr_check.proofs.Rows.{at_map}
use Rattle.arr_check.proofs.Flat.{at_flat, long_flat, place_below}
use Rattle.arr_check.proofs.classes.Classes.meets.Goals as goal

pub index-requires : goal.index-requires
index-requires c =
    let vs : List Strided = c.self.inside.views.items in
    let first : c.args.a < length vs = subst (λ ws. c.args.a < length ws) (sym c.self.view_is) c.requires.first in
    let second : c.args.b < length vs = subst (λ ws. c.args.b < length ws) (sym c.self.view_is) c.requires.second in
    let count : c.len.result ≡ length vs = search rules in
    let long : vec_len c.self.inside.meets ≡ length c.self.inside.meets.items = search rules in
    let flat : length c.self.inside.meets.items ≡ length vs * length vs = ap length c.self.invariant.1 ∙ long_flat (λ w. map (λ v. overlap v w) vs) (length vs) (λ w. length-map vs (λ v. overlap v w)) vs in
    subst (λ n. c.args.b * n + c.args.a < vec_len c.self.inside.meets) (sym count)
    (subst (λ n. c.args.b * length vs + c.args.a < n) (sym (long ∙ flat)) (place_below (length vs) c.args.a c.args.b first second))

pub returns : goal.returns
returns c =
    let vs : List Strided = c.self.inside.views.items in
    let first : c.args.a < length vs = subst (λ ws. c.args.a < length ws) (sym c.self.view_is) c.requires.first in
    let second : c.args.b < length vs = subst (λ ws. c.args.b < length ws) (sym c.self.view_is) c.requires.second in
    let count : c.len.result ≡ length vs = search rules in
    c.index.ensures ∙ ap (λ n. get_or c.self.inside.meets.items (c.args.b * n + c.args.a) c.index.result.now) count
    ∙ ap (λ m. get_or m (c.args.b * length vs + c.args.a) c.index.result.now) c.self.invariant.1
    ∙ at_flat (λ w. map (λ v. overlap v w) vs) (length vs) (λ w. length-map vs (λ v. overlap v w)) vs c.args.b c.args.a no_view c.index.result.now second first
    ∙ at_map (λ v. overlap v (view_in vs c.args.b)) vs c.args.a no_view c.index.result.now first
    ∙ ap (λ ws. overlap (view_in ws c.args.a) (view_in ws c.args.b)) c.self.view_is
