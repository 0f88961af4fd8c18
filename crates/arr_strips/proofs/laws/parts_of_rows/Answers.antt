use Rattle.arr_strips.proofs.Segments.{segment as law}
use Rattle.arr_strips.proofs.laws.parts_of_rows.Goals as goal

pub returns : goal.returns
returns c = law
