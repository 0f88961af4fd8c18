use Rattle.std.proofs.Common.{FitsSigned, ap, arith}
use Rattle.std.specs.Fmt.{signed_decimal}
use Rattle.std.specs.Int.{w128}
use Rattle.arr_num.proofs.Reading.{read}
use Rattle.arr_io.proofs.Buffered.{finished, put_as}
use Rattle.arr_listing.proofs.numbers.write_number.Goals as goal

pub returns : goal.returns
returns g c =
    let fits : FitsSigned w128 c.args.value = omega arith in
    finished c.args.sink.now c.finish.ensures c.new-out.ensures (put_as c.put_number.ensures (ap signed_decimal (read c.args.value fits)))
