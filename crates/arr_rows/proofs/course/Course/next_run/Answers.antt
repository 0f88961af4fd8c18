use Rattle.std.proofs.Common.{◌∙◌, ◌+◌, ◌<◌, ◌+ℤ◌, ◌*ℤ◌, ap, sym, pos, to_z, of_z, w64, arith, rules}
use Rattle.std.specs.Int.{w32}
use Rattle.std.proofs.lemmas.Int.{ints, to_z-of_z}
use lib.IntN.{nat_abs}
use mir.Val.{SFits}
use Rattle.arr_view.specs.Views.{positions}
use Rattle.arr_store.specs.Runs.{moved}
use Rattle.arr_rows.proofs.Courses.{first_low, run_goes, spot_low, sum_read, whole_abs}
use Rattle.arr_rows.proofs.course.Course.next_run.Goals as goal
use Rattle.arr_rows.proofs.course.Course.next_run.Goals.{then-room-most, else-room-most}

pub overflow_add-start : goal.overflow_add-start
overflow_add-start c =
    let h : c.args.self.now.position < positions c.args.view.now.lengths = omega (arith, c.requires.within, c.requires.some) in
    let low = first_low c.args.view.now c.args.self.now c.requires.at h in
    omega (arith, ints, low.0, low.1, c.offset.ensures.size)

pub overflow_cast-run : goal.overflow_cast-run
overflow_cast-run c =
    let h : c.args.self.now.position < positions c.args.view.now.lengths = omega (arith, c.requires.within, c.requires.some) in
    let low = first_low c.args.view.now c.args.self.now c.requires.at h in
    let small : SFits w32 c.args.self.now.row.stride = search rules in
    let start = sum_read c.args.view.now c.args.self.now c.offset.result c.requires.at h (c.offset.ensures.value ∙ ap (λ z. pos c.args.self.now.column *ℤ z) (to_z-of_z w32 c.args.self.now.row.stride small)) in
    let there = spot_low c.args.view.now c.args.self.now.position c.requires.at.rows.view h in
    omega (arith, ints, start, there.0, there.1)

pub returns-clause-run : goal.returns-clause-run
returns-clause-run c i l =
    let h : c.args.self.now.position < positions c.args.view.now.lengths = omega (arith, c.requires.within, c.requires.some) in
    let small : SFits w32 c.args.self.now.row.stride = search rules in
    let stride = to_z-of_z w32 c.args.self.now.row.stride small in
    let start = sum_read c.args.view.now c.args.self.now c.offset.result c.requires.at h (c.offset.ensures.value ∙ ap (λ z. pos c.args.self.now.column *ℤ z) stride) in
    let column : c.args.self.now.column + i < c.args.self.now.row.length = elim c.if-room-most.branch [ then-room-most w ↦ omega arith | else-room-most w ↦ omega arith ] in
    let inside : c.args.self.now.position + i < positions c.args.view.now.lengths =
    elim c.if-room-most.branch [ then-room-most w ↦ omega (arith, c.requires.within) | else-room-most w ↦ omega (arith, c.requires.within) ] in
    run_goes c.args.view.now c.args.self.now i c.requires.at column inside
    ∙ ap (λ z. moved z c.args.self.now.row.stride i) (sym (ap (λ z. pos (nat_abs z)) start ∙ whole_abs c.args.view.now c.args.self.now.position c.requires.at.rows.view h))
    ∙ ap (λ s. moved (pos (nat_abs (to_z w64 (of_z w64 (to_z w64 (of_z w64 c.args.self.now.first) +ℤ to_z w64 (of_z w64 c.offset.result)))))) s i) (sym stride)
