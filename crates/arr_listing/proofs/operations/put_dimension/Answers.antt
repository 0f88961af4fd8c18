use Rattle.std.proofs.Common.{FitsSigned, ap, arith}
use Rattle.std.specs.Fmt.{signed_decimal}
use Rattle.std.specs.Int.{w32}
use Rattle.std.proofs.lemmas.Int.{to_z-of_z}
use Rattle.arr_io.proofs.Buffered.{◌▹◌, put_as}
use Rattle.arr_listing.proofs.operations.put_dimension.Goals as goal

pub returns : goal.returns
returns g c =
    let fits : FitsSigned w32 c.args.stride = omega arith in
    c.put_number.ensures ▹ c.put.ensures ▹ put_as c.put_number-2.ensures (ap signed_decimal (to_z-of_z w32 c.args.stride fits))
