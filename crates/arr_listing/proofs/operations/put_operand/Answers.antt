use Rattle.std.proofs.Common.{ap, sym}
use Rattle.arr_io.proofs.Buffered.{◌▹◌, put_as}
use Rattle.arr_listing.specs.Texts.{operand_text}
use Rattle.arr_listing.proofs.operations.put_operand.Goals as goal

pub returns : goal.returns
returns g c = put_as (c.put.ensures ▹ c.put_input.ensures) (ap (operand_text c.args.elem) (sym c.in-Some.is))
