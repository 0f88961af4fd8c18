use Rattle.arr_loop.proofs.Lone.{serial_blocks as law}
use Rattle.arr_loop.proofs.laws.serial_blocks.Goals as goal

pub returns : goal.returns
returns c = law
