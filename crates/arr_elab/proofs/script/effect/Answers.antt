use Rattle.arr_elab.proofs.Reached.{array_there}
use Rattle.arr_elab.proofs.script.effect.Goals as goal

pub bind-requires : goal.bind-requires
bind-requires c = array_there c.in-Bind.value c.args.reader.now c.array.new.reader c.in_ok-array-in-Bind.array c.requires c.in_ok-array-in-Bind.ensures
