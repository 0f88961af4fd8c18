use Rattle.std.proofs.Common.{◌∙◌}
use Rattle.arr_io.proofs.Buffered.{put_as}
use Rattle.arr_listing.proofs.numbers.put_number.Goals as goal

pub returns : goal.returns
returns g c = put_as c.put.ensures (c.as_bytes.ensures.value ∙ c.format.ensures.text)
