use Rattle.arr_ops.proofs.Independent.{numbers_stay}
use Rattle.arr_ops.proofs.laws.numbers_stay_typed.Goals as goal

pub returns : goal.returns
returns c = numbers_stay
