use Rattle.std.proofs.Common.{refl}
use Rattle.arr_io.proofs.Buffered.{◌▹◌, front_begins, front_ends, front_turns}
use Rattle.arr_listing.proofs.Turns.{numbers_end, numbers_turn}
use Rattle.arr_listing.proofs.numbers.put_numbers.Goals as goal

pub loop-number-init : goal.loop-number-init
loop-number-init g c = front_begins _ _

pub loop-number-preserved : goal.loop-number-preserved
loop-number-preserved g c =
    front_turns c.loop-number.invariant (c.put.ensures ▹ c.put_number.ensures) (numbers_turn c.args.numbers.now c.loop-number.number-index _ c.loop-number-test.true refl)

pub returns : goal.returns
returns g c = front_ends c.loop-number.invariant (numbers_end c.args.numbers.now c.loop-number.number-index c.loop-number-test.false)
