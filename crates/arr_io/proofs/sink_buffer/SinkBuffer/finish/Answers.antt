use Rattle.std.proofs.Common.{refl}
use Rattle.arr_io.specs.Buffered.{outgoing}
use Rattle.arr_io.proofs.Buffered.{sent_out}
use Rattle.arr_io.proofs.sink_buffer.SinkBuffer.finish.Goals as goal

pub returns : goal.returns
returns g c =
    sent_out g.K.Sink (outgoing g.K.Sink c.args.self c.args.sink.now) c.write_all.new.sink _ c.write_all.result c.if-self.false refl c.write_all.ensures.all c.write_all.ensures.part c.write_all.ensures.cause
