use Rattle.std.proofs.Common.{◌≡◌, ◌∙◌, ◌+◌, ◌≤◌, IfOk, ap, sym, subst, arith, length, map}
use Rattle.arr_ops.specs.Gathers.{picked}
use Rattle.arr_view.specs.Views.{elements, positions}
use Rattle.arr_picks.specs.Picks.{numbers_of}
use Rattle.arr_picks.proofs.Named.{row_inside, row_numbers}
use Rattle.arr_picks.proofs.picking.picked_by.Goals as goal

pub offset_bounds-index-start : goal.offset_bounds-index-start
offset_bounds-index-start g c =
    let inside = row_inside c.args.places.now (length c.args.index.now) c.positions.ensures.lawful (sym c.is_gapless.ensures.value ∙ c.if-not-is_gapless.false) c.requires.there in
    omega (arith, c.start-start.ensures.value)

pub slice_bounds-picked_by_row-end : goal.slice_bounds-picked_by_row-end
slice_bounds-picked_by_row-end g c =
    let inside = row_inside c.args.places.now (length c.args.index.now) c.positions.ensures.lawful (sym c.is_gapless.ensures.value ∙ c.if-not-is_gapless.false) c.requires.there in
    let fits : c.start-start.result + c.positions.result ≤ length c.args.index.now = omega (arith, c.start-start.ensures.value, c.positions.ensures.value) in
    omega arith

pub returns : goal.returns
returns g c =
    let places = c.args.places.now in
    let start = c.start-start.result in
    let source = numbers_of (map g.T.Native.number c.args.numbers.now) (elements c.args.view.now) in
    let end : start + c.positions.result ≡ start + positions places.lengths = ap (λ n. start + n) c.positions.ensures.value in
    let all = row_numbers g.I.Native.number c.args.index.now places start (start + c.positions.result) c.positions.ensures.lawful (sym c.is_gapless.ensures.value ∙ c.if-not-is_gapless.false)
    c.requires.there c.start-start.ensures.value end in
    subst (λ xs. IfOk c.picked_by_row.result (λ v. map g.T.Native.number v.items ≡ picked source xs)) (sym all) c.picked_by_row.ensures
