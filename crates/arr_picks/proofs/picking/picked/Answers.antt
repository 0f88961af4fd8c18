use Rattle.std.proofs.Common.{◌≡◌, ◌∙◌, ◌*◌, IfOk, ap, sym, subst, arith, length, map}
use Rattle.std.proofs.lemmas.List.{length-map}
use Rattle.std.specs.List.{range_with_len}
use Rattle.arr_ops.proofs.Parts.{length-elements}
use Rattle.arr_ops.specs.Gathers.{picked}
use Rattle.arr_view.specs.Views.{elements}
use Rattle.arr_picks.specs.Picks.{AllBelow, numbers_of}
use Rattle.arr_picks.proofs.Named.{below_row, ordered_length, row_whole}
use Rattle.arr_picks.proofs.picking.picked.Goals as goal

pub picked_by-requires-in-Some-clause-inside : goal.picked_by-requires-in-Some-clause-inside
picked_by-requires-in-Some-clause-inside g c =
    let view = c.args.view.now in
    let count = c.positions-count.result in
    let list = c.deref.result.now in
    let row : elements c.in-Some.row ≡ range_with_len 0 count = c.in-Some.ensures.in_order ∙ ap (range_with_len 0) (let one : count * 1 ≡ count = omega arith in one) in
    let long = ordered_length g.T.Native.number c.args.numbers.now c.in_ok-ordered.ordered.items (elements view) c.in_ok-ordered.ensures in
    let size : length (elements view) ≡ count = length-elements view c.positions-count.ensures.lawful ∙ sym c.positions-count.ensures.value in
    let same : length list ≡ length c.in_ok-ordered.ordered.items = ap length c.deref.ensures.value in
    subst (AllBelow (length list)) (sym row) (below_row (length list) 0 count (omega arith))

pub returns-in-Some : goal.returns-in-Some
returns-in-Some g c =
    let view = c.args.view.now in
    let count = c.positions-count.result in
    let number = g.T.Native.number in
    let items = c.in_ok-ordered.ordered.items in
    let row : elements c.in-Some.row ≡ range_with_len 0 count = c.in-Some.ensures.in_order ∙ ap (range_with_len 0) (let one : count * 1 ≡ count = omega arith in one) in
    let long = ordered_length number c.args.numbers.now items (elements view) c.in_ok-ordered.ensures in
    let size : length (elements view) ≡ count = length-elements view c.positions-count.ensures.lawful ∙ sym c.positions-count.ensures.value in
    let mapped : length (map number items) ≡ length items = length-map items number in
    let all : numbers_of (map number c.deref.result.now) (elements c.in-Some.row) ≡ numbers_of (map number c.args.numbers.now) (elements view) =
    ap (λ xs. numbers_of (map number xs) (elements c.in-Some.row)) c.deref.ensures.value ∙ ap (numbers_of (map number items)) row
    ∙ row_whole (map number items) count (omega arith) ∙ c.in_ok-ordered.ensures in
    subst (λ xs. IfOk c.picked_by-in-Some.result (λ v. map number v.items ≡ picked xs (numbers_of (map g.I.Native.number c.args.index.now) (elements c.args.places.now)))) all c.picked_by-in-Some.ensures
