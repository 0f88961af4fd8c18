use Rattle.std.proofs.Common.{◌∙◌, ap, ap₂, decimal, length, sym}
use Rattle.arr_view.proofs.Checks.{same_rank}
use Rattle.arr_io.proofs.Buffered.{◌▹◌, put_as}
use Rattle.arr_listing.specs.Texts.{dimensions_text}
use Rattle.arr_listing.proofs.operations.put_view.Goals as goal

pub put_dimensions-requires-clause-same_rank : goal.put_dimensions-requires-clause-same_rank
put_dimensions-requires-clause-same_rank g c =
    ap length c.strides.ensures.value ∙ same_rank c.args.view.now c.shape.ensures.lawful ∙ sym (ap length c.shape.ensures.value)

pub returns : goal.returns
returns g c =
    c.put.ensures ▹ put_as c.put_number.ensures (ap decimal c.base.ensures.value) ▹ c.put-2.ensures ▹ put_as c.put-3.ensures (c.as_bytes.ensures.value ∙ c.type_name.ensures) ▹ c.put-4.ensures
    ▹ put_as c.put_number-2.ensures (ap decimal c.start.ensures.value) ▹ c.put-5.ensures
    ▹ put_as c.put_dimensions.ensures (ap₂ dimensions_text c.shape.ensures.value c.strides.ensures.value) ▹ c.put-6.ensures
