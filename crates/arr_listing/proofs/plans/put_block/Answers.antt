use Rattle.arr_io.proofs.Buffered.{◌▹◌}
use Rattle.arr_listing.specs.Plans.{block_text}
use Rattle.arr_listing.proofs.plans.put_block.Goals as goal

pub returns : goal.returns
unfolding block_text
returns g c = c.put.ensures ▹ c.put_number.ensures ▹ c.put-2.ensures ▹ c.put_number-2.ensures ▹ c.put-3.ensures ▹ c.put_numbers.ensures ▹ c.put-4.ensures
