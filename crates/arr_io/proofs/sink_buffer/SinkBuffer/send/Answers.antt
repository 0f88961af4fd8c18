use Rattle.std.proofs.Common.{[], take, refl, sym, append-nil}
use Rattle.arr_io.proofs.Buffered.{put_or_broken}
use Rattle.arr_io.proofs.sink_buffer.SinkBuffer.send.Goals as goal

pub returns-clause-puts : goal.returns-clause-puts
returns-clause-puts g c =
    let s = c.args.self.now in
    put_or_broken _ _ _ [] c.write_all.result c.requires c.is_err-self.ensures.value refl (sym (append-nil (take s.count s.waiting))) c.write_all.ensures.all c.write_all.ensures.part c.write_all.ensures.cause
