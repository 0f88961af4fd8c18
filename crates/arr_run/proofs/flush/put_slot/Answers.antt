use Rattle.arr_run.proofs.flush.put_slot.Goals as goal

pub put_array-requires : goal.put_array-requires
put_array-requires g c = c.requires c.in-Some.slot c.in-Some.is
