use Rattle.std.proofs.Common.{◌≡◌, ◌≤◌, ◌+◌, ◌-◌, ap, sym, subst, arith}
use Rattle.arr_store.specs.Slots.{slot_size, slots_of}
use Rattle.arr_io.proofs.Buffered.{◌▹◌, front_ends, front_put, front_turns, nothing_put}
use Rattle.arr_listing.specs.Texts.{rows}
use Rattle.arr_listing.specs.Shown.{numbers_of}
use Rattle.arr_listing.proofs.Rows.{row_inside, rows_end, rows_turn}
use Rattle.arr_listing.proofs.arrays.put_rows.Goals as goal

pub put_row-requires-clause-there : goal.put_row-requires-clause-there
put_row-requires-clause-there g c =
    subst (λ s. s + c.args.width ≤ slot_size (slots_of c.args.slots.now c.args.slot)) (sym c.loop-row.invariant.start) (row_inside c.loop-row.row c.args.count c.args.width _ c.loop-row-test.true c.requires.there)

pub put_row-requires-clause-few : goal.put_row-requires-clause-few
put_row-requires-clause-few g c =
    subst (λ s. s + c.args.width ≤ 1048576) (sym c.loop-row.invariant.start) (row_inside c.loop-row.row c.args.count c.args.width _ c.loop-row-test.true c.requires.few)

pub loop-row-init : goal.loop-row-init
loop-row-init g c =
    let none : c.args.count ≡ c.args.count - 0 = omega arith in
    record { start = omega arith; puts = front_put (nothing_put _) (ap (λ k. rows k c.args.width (numbers_of (slots_of c.args.slots.now c.args.slot))) (sym none)) }

pub loop-row-preserved : goal.loop-row-preserved
loop-row-preserved g c = record {
  start = (let e = c.loop-row.invariant.start in omega arith);
  puts = front_turns c.loop-row.invariant.puts (c.put_row.ensures ▹ c.put.ensures)
      (rows_turn (numbers_of (slots_of c.args.slots.now c.args.slot)) c.loop-row.row c.args.count c.loop-row.start c.args.width c.loop-row-test.true);
}

pub returns : goal.returns
returns g c =
    front_ends c.loop-row.invariant.puts (rows_end (numbers_of (slots_of c.args.slots.now c.args.slot)) c.loop-row.row c.args.count c.loop-row.start c.args.width c.loop-row-test.false)
