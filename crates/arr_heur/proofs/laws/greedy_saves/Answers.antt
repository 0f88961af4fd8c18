use Rattle.arr_heur.proofs.Saves.{greedy_saves}
use Rattle.arr_heur.proofs.laws.greedy_saves.Goals as goal

pub returns : goal.returns
returns c = greedy_saves
