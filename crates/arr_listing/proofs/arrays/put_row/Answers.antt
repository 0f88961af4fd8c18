use Rattle.std.proofs.Common.{◌≤◌, ◌+◌, subst}
use Rattle.arr_store.specs.Slots.{slots_of}
use Rattle.arr_io.proofs.Buffered.{◌▹◌, front_ends, front_put, front_turns, put_as}
use Rattle.arr_listing.specs.Shown.{numbers_of}
use Rattle.arr_listing.proofs.Rows.{digits_read, row_begins, row_ends, row_turns, size_is}
use Rattle.arr_listing.proofs.arrays.put_row.Goals as goal

pub loop-position-init : goal.loop-position-init
loop-position-init g c =
    let o = slots_of c.args.slots.now c.args.slot in
    front_put (put_as c.put_number.ensures (digits_read o c.args.start c.get.result c.get.ensures.typed c.get.ensures.number))
    (row_begins (numbers_of o) c.args.start c.args.width c.requires.some (subst (λ n. c.args.start + c.args.width ≤ n) (size_is o) c.requires.there))

pub loop-position-preserved : goal.loop-position-preserved
loop-position-preserved g c =
    let o = slots_of c.args.slots.now c.args.slot in
    let got = c.get-in-loop-position in
    front_turns c.loop-position.invariant (c.put.ensures ▹ put_as c.put_number-in-loop-position.ensures (digits_read o c.loop-position.position got.result got.ensures.typed got.ensures.number))
    (row_turns (numbers_of o) c.loop-position.position (c.args.start + c.args.width) c.loop-position-test.true (subst (λ n. c.args.start + c.args.width ≤ n) (size_is o) c.requires.there))

pub returns : goal.returns
returns g c =
    let o = slots_of c.args.slots.now c.args.slot in
    front_ends c.loop-position.invariant
    (row_ends (numbers_of o) c.loop-position.position (c.args.start + c.args.width) (subst (λ n. c.args.start + c.args.width ≤ n) (size_is o) c.requires.there) c.loop-position-test.false)
