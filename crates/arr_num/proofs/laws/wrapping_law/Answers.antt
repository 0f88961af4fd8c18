use Rattle.arr_num.proofs.Unique.{wraps_into, wraps_to_one}
use Rattle.arr_num.proofs.laws.wrapping_law.Goals as goal

pub returns : goal.returns
returns c = record { into = wraps_into; only = wraps_to_one }
