use Rattle.arr_io.proofs.Buffered.{finished}
use Rattle.arr_run.proofs.flush.write_slots.Goals as goal

pub returns : goal.returns
returns g c = finished c.args.sink.now c.finish.ensures c.new-out.ensures c.put_slots.ensures
