use Rattle.std.proofs.Common.{◌≡◌, ◌∙◌, ap, pos, to_z, of_z, w64, arith}
use Rattle.std.proofs.lemmas.Int.{ints}
use Rattle.arr_rows.proofs.Courses.{spot_is}
use Rattle.arr_rows.proofs.course.place_or_zero.Goals as goal

pub returns-then-position-positions : goal.returns-then-position-positions
returns-then-position-positions c h =
    let seen : to_z w64 (of_z w64 c.from.result) ≡ pos c.element.result = omega (arith, ints, c.from.ensures, c.ranges.position) in
    seen ∙ ap pos c.element.ensures.value ∙ spot_is c.args.view.now c.args.position c.element.ensures.lawful h
