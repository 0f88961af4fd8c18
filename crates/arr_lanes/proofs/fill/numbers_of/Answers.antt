use Rattle.std.proofs.Common.{pos, ◌≡◌, ◌+◌, ◌-◌, ◌∙◌, ap, sym, arith, length, get_or, drop, map}
use Rattle.std.specs.Prelude.{slice_get}
use Rattle.std.proofs.lemmas.List.{get_or-drop, drop-map, length-drop, take_all}
use Rattle.arr_store.specs.Cells.{number_at}
use Rattle.arr_store.specs.Stored.{cells}
use Rattle.arr_native.specs.Entries.{entry}
use Rattle.arr_lanes.specs.Lanes.{held_at}
use Rattle.arr_lanes.proofs.fill.numbers_of.Goals as goal

pub returns-in-Some-clause-each : goal.returns-in-Some-clause-each
returns-in-Some-clause-each g c i =
    let xs = c.numbers-in-Some.result.now in
    let from = c.in-Some.place.start in
    let long : length (drop from xs) ≡ length xs - from = length-drop from xs in
    ap (λ l. entry g.T.Native.number l i) (take_all (length xs - from) (drop from xs) (omega arith))
    ∙ ap (λ l. get_or l i (pos 0)) (sym (drop-map g.T.Native.number from xs))
    ∙ get_or-drop from (map g.T.Native.number xs) i (pos 0)
    ∙ ap (λ l. get_or l (from + i) (pos 0)) c.numbers-in-Some.ensures
    ∙ sym (ap (λ o. number_at o (from + i)) c.buffer.ensures.value)
    ∙ sym (ap (λ o. held_at (cells c.args.store.now) o (slice_get c.args.lanes.now c.args.lane) i) c.in-Some.is)
