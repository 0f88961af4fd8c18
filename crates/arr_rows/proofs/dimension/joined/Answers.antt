use Rattle.std.proofs.Common.{◌≡◌, ◌∙◌, ◌*◌, ◌*ℤ◌, ap, sym, subst, pos, to_z, rules}
use Rattle.std.specs.Int.{w32, w64}
use Rattle.std.proofs.lemmas.Int.{to_z-of_z}
use mir.Val.{SFits}
use Rattle.arr_rows.specs.Rows.{AreOne}
use Rattle.arr_rows.specs.declared.dimension.Dimension.{Dimension}
use Rattle.arr_rows.proofs.Far.{are_one}
use Rattle.arr_rows.proofs.dimension.joined.Goals as goal

pub returns : goal.returns
returns c =
    let small : SFits w32 c.args.inner.stride = search rules in
    let stride = to_z-of_z w32 c.args.inner.stride small in
    let outer_small : SFits w32 c.args.outer.stride = search rules in
    let size : c.in_ok-length.length ≡ c.args.inner.length * c.args.outer.length = search rules in
    let far_small : SFits w64 c.offset.result = search rules in
    let next_small : SFits w64 c.from.result = search rules in
    let leads : c.args.outer.stride ≡ pos c.args.inner.length *ℤ c.args.inner.stride =
    sym (c.from.ensures ∙ to_z-of_z w32 c.args.outer.stride outer_small)
    ∙ sym (sym (to_z-of_z w64 c.offset.result far_small) ∙ ap (λ b. to_z w64 b) c.if-offset-from.false ∙ to_z-of_z w64 c.from.result next_small)
    ∙ c.offset.ensures.value ∙ ap (λ s. pos c.args.inner.length *ℤ s) stride in
    subst (λ s. AreOne c.args.inner c.args.outer (let d : Dimension = record { length = c.in_ok-length.length; stride = s } in d)) (sym stride)
    (are_one c.args.inner c.args.outer c.in_ok-length.length c.requires.inner c.requires.outer size leads)
