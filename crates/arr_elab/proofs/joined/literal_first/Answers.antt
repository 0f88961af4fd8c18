use Rattle.std.proofs.Common.{rules, arith}
use Rattle.std.proofs.lemmas.Grind.{common_steps}
use Rattle.arr_elab.proofs.joined.literal_first.Goals as goal

pub returns : goal.returns
returns c = λ s. let h = c.if-not-holds.ensures in let p = c.paired.ensures in let q = c.of-shape.ensures in first_of (search rules, grind (arith, common_steps))
