use Rattle.arr_io.proofs.Buffered.{◌▹◌}
use Rattle.arr_listing.specs.Plans.{head_text}
use Rattle.arr_listing.proofs.plans.put_head.Goals as goal

pub returns : goal.returns
unfolding head_text
returns g c =
    c.put.ensures ▹ c.put_number.ensures ▹ c.put-2.ensures ▹ c.put_number-2.ensures ▹ c.put-3.ensures ▹ c.put_number-3.ensures ▹ c.put-4.ensures ▹ c.put_number-4.ensures
    ▹ c.put-5.ensures ▹ c.put_number-5.ensures ▹ c.put-6.ensures
