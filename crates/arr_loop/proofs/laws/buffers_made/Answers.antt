use Rattle.arr_loop.proofs.Made.{buffers_made as law}
use Rattle.arr_loop.proofs.laws.buffers_made.Goals as goal

pub returns : goal.returns
returns c = law
