use Rattle.arr_io.proofs.Buffered.{finished}
use Rattle.arr_listing.proofs.arrays.write_shown.Goals as goal

pub returns : goal.returns
returns g c = finished c.args.sink.now c.finish.ensures c.new-out.ensures c.put_array.ensures
