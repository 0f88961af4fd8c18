use Rattle.std.proofs.Common.{◌≡◌, ◌∙◌, ℕ, false, true, cond, get_or, ap, subst}
use Rattle.std.specs.List.{list_any}
use Rattle.std.proofs.lemmas.List.{get_or_default}
use Rattle.arr_view.specs.Strided.{Strided}
use Rattle.arr_view.specs.Views.{has, identical}
use Rattle.arr_ops.specs.Costs.{weight}
use Rattle.arr_ops.specs.Ops.{freed, inputs, makes_base, outputs}
use Rattle.arr_law.specs.ProblemOf.{first_where, no_view, op_at, view_at}
use Rattle.arr_bound.specs.Classes.{IsRow}
use Rattle.arr_bound.proofs.classes.class_at.Goals as goal

pub returns : goal.returns
returns c =
    let list = c.args.ops.now in
    let at : c.index-views-at.result ≡ view_at list c.args.at =
    c.index-views-at.is ∙ get_or_default c.args.views.now c.args.at c.index-views-at.result no_view c.requires.within ∙ ap (λ vs. get_or vs c.args.at no_view) c.requires.views in
    let based : c.index-views-at.result.base ≡ (view_at list c.args.at).base = ap (λ (v : Strided). v.base) at in
    record {
      view = c.copied.ensures.value ∙ at;
      weight = c.view_weight.ensures.value ∙ ap (weight list) at;
      small = c.view_weight.ensures.small;
      creator = c.creator_of.ensures ∙ ap (λ (b : ℕ). first_where (λ op. makes_base op b) list) (c.base.ensures.value ∙ based);
      freer = c.freer_of.ensures ∙ ap (λ (b : ℕ). first_where (λ op. has (freed op) b) list) (c.base-2.ensures.value ∙ based);
      readers = subst (λ (v : Strided). IsRow list (λ g. cond false (list_any (identical v) (outputs (op_at list g))) (list_any (identical v) (inputs (op_at list g)))) c.in_ok-row_of.field-0.items) at c.in_ok-row_of.ensures;
      writers = subst (λ (v : Strided). IsRow list (λ g. cond true (list_any (identical v) (outputs (op_at list g))) (list_any (identical v) (inputs (op_at list g)))) c.in_ok-row_of-2.field-0.items) at c.in_ok-row_of-2.ensures;
    }
