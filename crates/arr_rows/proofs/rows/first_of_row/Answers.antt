use Rattle.std.proofs.Common.{◌≡◌, ◌∙◌, ◌*◌, ◌<◌, ◌+ℤ◌, ◌*ℤ◌, ap, pos, arith, rules}
use Rattle.std.specs.Int.{w32}
use Rattle.std.proofs.lemmas.Int.{ints, to_z-of_z}
use mir.Val.{SFits}
use Rattle.arr_picks.proofs.Rows.{starts_low}
use Rattle.arr_rows.specs.Rows.{spot_at}
use Rattle.arr_rows.proofs.Far.{first_page}
use Rattle.arr_rows.proofs.Courses.{spot_low}
use Rattle.arr_rows.proofs.rows.first_of_row.Goals as goal

pub overflow_add-result : goal.overflow_add-result
overflow_add-result c =
    let start : c.args.view.now.start < 1048576 = starts_low c.args.view.now c.requires.rows.view in
    omega (arith, ints, start, c.from.ensures, c.start.ensures.value, c.offset.ensures.size)

pub returns-then-line-page : goal.returns-then-line-page
returns-then-line-page c h =
    let start : c.args.view.now.start < 1048576 = starts_low c.args.view.now c.requires.rows.view in
    let small : SFits w32 c.args.page.stride = search rules in
    let far = c.offset.ensures.value ∙ ap (λ z. pos c.args.line *ℤ z) (to_z-of_z w32 c.args.page.stride small) in
    let spot : pos c.args.view.now.start +ℤ c.offset.result ≡ spot_at c.args.view.now (c.args.line * c.args.row.length) =
    ap (λ x. pos c.args.view.now.start +ℤ x) far ∙ first_page c.args.view.now c.args.row c.args.page c.args.line c.requires.rows c.if-line-page.true h in
    let low = spot_low c.args.view.now (c.args.line * c.args.row.length) c.requires.rows.view h in
    omega (arith, ints, start, c.from.ensures, c.start.ensures.value, spot, low.0, low.1)
