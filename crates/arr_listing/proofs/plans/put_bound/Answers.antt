use Rattle.std.proofs.Common.{◌∙◌}
use Rattle.arr_io.proofs.Buffered.{◌▹◌, put_as}
use Rattle.arr_listing.specs.Plans.{bound_text}
use Rattle.arr_listing.proofs.plans.put_bound.Goals as goal

pub returns : goal.returns
unfolding bound_text
returns g c = c.put.ensures ▹ c.put_number.ensures ▹ c.put-2.ensures ▹ c.put_number-2.ensures ▹ put_as c.put-3.ensures (c.as_bytes.ensures.value ∙ c.mark.ensures)
