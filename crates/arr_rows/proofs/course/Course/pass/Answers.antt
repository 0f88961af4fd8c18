use Rattle.std.proofs.Common.{◌≡◌, ◌∙◌, ℤ, ◌+◌, ◌<◌, ◌≤◌, ◌+ℤ◌, ap, sym, subst, to_z, of_z, w64, arith, rules}
use Rattle.std.specs.Int.{w32}
use Rattle.std.proofs.lemmas.Int.{ints, to_z-of_z}
use mir.Val.{SFits}
use Rattle.arr_view.specs.Views.{positions}
use Rattle.arr_view.proofs.Checks.{lawful}
use Rattle.arr_rows.specs.Courses.{IsAt}
use Rattle.arr_rows.specs.declared.course.Course.{Course}
use Rattle.arr_rows.proofs.Courses.{first_low, goes_in_row, goes_to_row, goes_to_page, spot_read, turn_ends}
use Rattle.arr_rows.proofs.course.Course.pass.Goals as goal

pub overflow_add-self : goal.overflow_add-self
overflow_add-self c =
    let few : positions c.args.view.now.lengths ≤ 1048576 = (lawful c.args.view.now c.requires.at.rows.view).size in
    let h : c.args.self.now.position + c.args.count ≤ positions c.args.view.now.lengths = c.requires.within in
    omega arith

pub returns-then-self-clause-at : goal.returns-then-self-clause-at
returns-then-self-clause-at c = goes_in_row c.args.view.now c.args.self.now c.args.count c.requires.at c.if-self.true c.requires.within

pub overflow_add-self-then-self-2 : goal.overflow_add-self-then-self-2
overflow_add-self-then-self-2 c =
    let h : c.args.self.now.position < positions c.args.view.now.lengths = omega (arith, c.requires.within, c.requires.some) in
    let low = first_low c.args.view.now c.args.self.now c.requires.at h in
    omega (arith, ints, low.0, low.1, c.from.ensures)

pub returns-then-self-2-clause-at : goal.returns-then-self-2-clause-at
returns-then-self-2-clause-at c =
    let h : c.args.self.now.position < positions c.args.view.now.lengths = omega (arith, c.requires.within, c.requires.some) in
    let low = first_low c.args.view.now c.args.self.now c.requires.at h in
    let small : SFits w32 c.args.self.now.page.stride = search rules in
    let stride : c.from.result ≡ c.args.self.now.page.stride = c.from.ensures ∙ to_z-of_z w32 c.args.self.now.page.stride small in
    let sum : to_z w64 (of_z w64 (to_z w64 (of_z w64 c.args.self.now.first) +ℤ to_z w64 (of_z w64 c.from.result))) ≡ c.args.self.now.first +ℤ c.args.self.now.page.stride =
    omega (arith, ints, low.0, low.1, stride) in
    let whole : c.args.self.now.column + c.args.count ≡ c.args.self.now.row.length = omega (arith, c.if-self.false, c.requires.row) in
    let Q : ℤ → Type 0 =
    λ z. IsAt c.args.view.now (let k : Course = record {
      row = c.args.self.now.row;
      page = c.args.self.now.page;
      position = c.args.self.now.position + c.args.count;
      column = 0;
      turn = c.args.self.now.turn + 1;
      first = z;
    } in k) in
    subst Q (sym sum) (goes_to_row c.args.view.now c.args.self.now c.args.count c.requires.at c.requires.some whole c.requires.within c.if-self-2.true)

pub returns-clause-at : goal.returns-clause-at
returns-clause-at c =
    let whole : c.args.self.now.column + c.args.count ≡ c.args.self.now.row.length = omega (arith, c.if-self.false, c.requires.row) in
    let last : c.args.self.now.turn + 1 ≡ c.args.self.now.page.length = turn_ends c.args.view.now c.args.self.now c.requires.at c.if-self-2.false in
    goes_to_page c.args.view.now c.args.self.now c.args.count (to_z w64 (of_z w64 c.place_or_zero-self.result)) c.requires.at whole c.requires.within last
    (λ l. ap (λ z. to_z w64 (of_z w64 z)) (c.place_or_zero-self.ensures l) ∙ spot_read c.args.view.now (c.args.self.now.position + c.args.count) c.requires.at.rows.view l)
