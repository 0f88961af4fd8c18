use Rattle.std.proofs.Common.{◌≡◌, ◌∙◌, ◌+◌, ◌-◌, ap, sym, arith}
use Rattle.std.specs.List.{range_with_len}
use Rattle.arr_view.specs.Views.{positions}
use Rattle.arr_view.proofs.Checks.{lawful}
use Rattle.arr_picks.proofs.Rows.{in_row, starts_low}
use Rattle.arr_gather.proofs.places.Places.new.Goals as goal

pub overflow_add-result : goal.overflow_add-result
overflow_add-result c =
    let low = starts_low c.args.view.now c.is_gapless.ensures.lawful in
    let few = (lawful c.args.view.now c.is_gapless.ensures.lawful).size in
    let start = c.start-start.ensures.value in
    omega (arith, c.positions.ensures.value)

pub returns-then-is_gapless : goal.returns-then-is_gapless
returns-then-is_gapless c =
    let v = c.args.view.now in
    let few : (c.start-start.result + c.positions.result) - c.start-start.result ≡ positions v.lengths = omega (arith, c.positions.ensures.value) in
    ap (range_with_len c.start-start.result) few ∙ ap (λ n. range_with_len n (positions v.lengths)) c.start-start.ensures.value
    ∙ sym (in_row v (sym c.is_gapless.ensures.value ∙ c.if-is_gapless.true))
