use Rattle.std.proofs.Common.{ap, sym}
use Rattle.arr_io.proofs.Buffered.{◌▹◌, put_as}
use Rattle.arr_listing.specs.Texts.{labelled_text}
use Rattle.arr_listing.proofs.numbers.put_labelled.Goals as goal

pub returns : goal.returns
returns g c = put_as (c.put.ensures ▹ c.put_number.ensures) (ap (labelled_text g.I.Integer.text c.args.label.now) (sym c.in-Some.is))
