use Rattle.std.proofs.Common.{ap}
use Rattle.arr_io.proofs.Buffered.{finished, put_as}
use Rattle.arr_listing.specs.Texts.{op_text}
use Rattle.arr_listing.proofs.operations.write_op.Goals as goal

pub returns : goal.returns
returns g c = finished c.args.sink.now c.finish.ensures c.new-out.ensures (put_as c.put_op.ensures (ap (λ n. op_text n c.args.op.now) c.from.ensures))
