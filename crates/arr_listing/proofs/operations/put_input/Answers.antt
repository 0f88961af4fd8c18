use Rattle.std.proofs.Common.{FitsSigned, ◌∙◌, ap, arith, sym}
use Rattle.std.specs.Fmt.{signed_decimal}
use Rattle.std.specs.Int.{w128}
use Rattle.arr_num.proofs.Reading.{read}
use Rattle.arr_io.proofs.Buffered.{put_as}
use Rattle.arr_listing.specs.Texts.{input_text}
use Rattle.arr_listing.proofs.operations.put_input.Goals as goal

pub returns-in-Array : goal.returns-in-Array
returns-in-Array g c = put_as c.put_view.ensures (ap (input_text c.args.elem) (sym c.in-Array.is))

pub returns-in-Number : goal.returns-in-Number
returns-in-Number g c =
    let fits : FitsSigned w128 c.in-Number.number = omega arith in
    put_as c.put_number.ensures (ap signed_decimal (read c.in-Number.number fits) ∙ ap (input_text c.args.elem) (sym c.in-Number.is))
