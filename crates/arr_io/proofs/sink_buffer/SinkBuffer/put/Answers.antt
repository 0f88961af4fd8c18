use Rattle.arr_io.proofs.Buffered.{◌▹◌}
use Rattle.arr_io.proofs.sink_buffer.SinkBuffer.put.Goals as goal

pub returns : goal.returns
returns g c = c.send.ensures.puts ▹ c.put_first.ensures
