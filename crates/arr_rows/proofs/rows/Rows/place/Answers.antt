use Rattle.std.proofs.Common.{◌∙◌, ◌+◌, ◌<◌, ◌≤◌, sym, subst, arith, rules}
use Rattle.std.specs.Int.{w32}
use mir.Val.{SFits}
use Rattle.arr_view.specs.Views.{positions}
use Rattle.arr_store.proofs.Sides.{one_stride, side_place}
use Rattle.arr_rows.specs.Courses.{IsRunOf}
use Rattle.arr_rows.proofs.Courses.{run_seen}
use Rattle.arr_rows.proofs.rows.Rows.place.Goals as goal

pub returns-then-run-count : goal.returns-then-run-count
returns-then-run-count c i l =
    let within : c.args.position + c.next_run-run.result.count ≤ positions c.args.self.now.lengths = omega (arith, c.requires.within, c.next_run-run.ensures.most) in
    let is : IsRunOf c.args.self.now c.args.position c.next_run-run.result =
    subst (λ p. IsRunOf c.args.self.now p c.next_run-run.result) c.course-course.ensures.position (subst (λ w. IsRunOf w c.course-course.result.position c.next_run-run.result) c.self.view_is c.next_run-run.ensures.run) in
    let below : i < c.next_run-run.result.count = subst (λ n. i < n) (sym c.if-run-count.true) l in
    let small : SFits w32 c.next_run-run.result.stride = search rules in
    sym (run_seen c.args.self.now c.args.position c.next_run-run.result c.course-course.ensures.at.rows.view is within i below)
    ∙ side_place c.next_run-run.result.start c.next_run-run.result.stride i (one_stride c.next_run-run.result.stride small c.if-run-eq1.true)
