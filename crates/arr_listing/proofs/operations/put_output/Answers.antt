use Rattle.std.proofs.Common.{◌∙◌, ap, sym}
use Rattle.arr_io.proofs.Buffered.{◌▹◌, put_as}
use Rattle.arr_listing.specs.Texts.{output_text}
use Rattle.arr_listing.proofs.operations.put_output.Goals as goal

pub returns : goal.returns
returns g c =
    put_as (put_as c.put.ensures (c.as_bytes.ensures.value ∙ c.plus.ensures) ▹ c.put_view.ensures) (ap (output_text c.args.makes c.args.elem) (sym c.in-Some.is))
