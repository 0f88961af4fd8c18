use Rattle.arr_num.proofs.Folds.{folds_regroup, starts_are_neutral}
use Rattle.arr_num.proofs.laws.fold_laws.Goals as goal

pub returns : goal.returns
returns c = record { regroup = folds_regroup; neutral = starts_are_neutral }
