use Rattle.std.proofs.Common.{◌++◌, take, ap, sym}
use Rattle.arr_io.proofs.Buffered.{put_or_broken}
use Rattle.arr_io.proofs.sink_buffer.SinkBuffer.put_first.Goals as goal

pub returns : goal.returns
returns g c =
    let s = c.args.self.now in
    put_or_broken _ _ c.args.bytes.now c.args.bytes.now c.write_all.result c.if-self.false c.is_err-self.ensures.value (ap (λ n. take n s.waiting) c.requires)
    (sym (ap (λ n. take n s.waiting ++ c.args.bytes.now) c.requires)) c.write_all.ensures.all c.write_all.ensures.part c.write_all.ensures.cause
