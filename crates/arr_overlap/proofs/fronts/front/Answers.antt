use Rattle.std.proofs.Common.{◌≡◌, ap, ap₂, sym, ◌∙◌, subst, rules, ℕ, List}
use Rattle.std.specs.Prelude.{IsSome, Some}
use Rattle.arr_view.specs.Strided.{Strided}
use Rattle.arr_view.specs.Views.{view_from}
use Rattle.arr_overlap.specs.Filters.{front_of}
use Rattle.arr_overlap.proofs.Smaller.{front_made}
use Rattle.arr_overlap.proofs.fronts.front.Goals as goal

pub unwrap-requires : goal.unwrap-requires
unwrap-requires c =
    let v : Strided = c.args.view.now in
    let ms : List ℕ = c.args.lengths.now in
    let made : c.new.result ≡ Some (front_of v ms) =
    c.new.ensures ∙ ap₂ (λ x y. view_from x y ms c.strides.result.now) c.base.ensures.value c.start.ensures.value ∙ ap (view_from v.base v.start ms) c.strides.ensures.value ∙ front_made v ms c.base.ensures.lawful c.requires in
    subst IsSome (sym made) (search rules)

pub returns-clause-value : goal.returns-clause-value
returns-clause-value c =
    let v : Strided = c.args.view.now in
    let ms : List ℕ = c.args.lengths.now in
    let made : c.new.result ≡ Some (front_of v ms) =
    c.new.ensures ∙ ap₂ (λ x y. view_from x y ms c.strides.result.now) c.base.ensures.value c.start.ensures.value ∙ ap (view_from v.base v.start ms) c.strides.ensures.value ∙ front_made v ms c.base.ensures.lawful c.requires in
    let both : Some c.unwrap.result ≡ Some (front_of v ms) = sym c.unwrap.ensures ∙ made in
    cc
