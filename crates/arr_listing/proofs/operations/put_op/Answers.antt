use Rattle.std.proofs.Common.{◌∙◌}
use Rattle.arr_io.proofs.Buffered.{◌▹◌, put_as}
use Rattle.arr_listing.specs.Texts.{op_text}
use Rattle.arr_listing.proofs.operations.put_op.Goals as goal

pub returns : goal.returns
unfolding op_text
returns g c =
    c.put.ensures ▹ c.put_number.ensures ▹ c.put-2.ensures ▹ put_as c.put-3.ensures (c.as_bytes.ensures.value ∙ c.code_name.ensures)
    ▹ c.put_output.ensures ▹ c.put_operand.ensures ▹ c.put_operand-2.ensures ▹ c.put_labelled.ensures ▹ c.put_labelled-2.ensures ▹ c.put_labelled-3.ensures ▹ c.put-4.ensures
