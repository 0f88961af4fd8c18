use Rattle.std.proofs.Common.{ap, ◌∙◌}
use Rattle.std.proofs.Common.{◌≡◌, ℕ, ℤ, List, cond, true, false}
use Rattle.std.specs.Prelude.{Option, Some, None, IfSome}
use Rattle.std.specs.List.{range_with_len}
use Rattle.arr_view.specs.Strided.{Strided}
use Rattle.arr_view.specs.Views.{elements, positions, is_view, whole_view, whole_strides, view_from, checked}
use Rattle.arr_view.proofs.Strides.{kept_whole, whole_elements}
use Rattle.arr_view.proofs.view.View.whole.Goals as goal

made_whole : (base : ℕ) (ns : List ℕ) (r : Option Strided) → r ≡ checked (whole_view base ns) → IfSome r (λ v. elements v ≡ range_with_len 0 (positions ns))
made_whole base ns None e = tt
made_whole base ns (Some v) e =
    elim (is_view (whole_view base ns)) as (λ b. Some v ≡ cond b (Some (whole_view base ns)) None → elements v ≡ range_with_len 0 (positions ns)) [
      | true ↦ λ f. (let same : v ≡ whole_view base ns = cc in ap elements same) ∙ whole_elements base ns
      | false ↦ λ f. absurd (let g : Some v ≡ None = f in cc)
    ] e

whole_parts : (base : ℕ) (ns : List ℕ) (ss : List ℤ) (r : Option Strided) → r ≡ view_from base 0 ns ss → ss ≡ whole_strides ns → r ≡ checked (whole_view base ns)
whole_parts base ns ss r e f =
    e ∙ ap (view_from base 0 ns) f ∙ ap (λ ts. checked (record { base = base; start = 0; lengths = ns; strides = ts })) (kept_whole ns)

pub returns : goal.returns
returns c =
    let value = whole_parts c.args.base c.args.shape.now c.as_slice.result.now c.new.result c.new.ensures (c.as_slice.ensures.value ∙ c.gapless_strides-strides.ensures) in
    record { value = value; in_order = made_whole c.args.base c.args.shape.now c.new.result value }
