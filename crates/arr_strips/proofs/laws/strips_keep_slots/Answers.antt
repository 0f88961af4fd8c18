use Rattle.arr_strips.proofs.StripLaws.{keep_slots as law}
use Rattle.arr_strips.proofs.laws.strips_keep_slots.Goals as goal

pub returns : goal.returns
returns c = law
