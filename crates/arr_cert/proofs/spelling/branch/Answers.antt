use Rattle.arr_cert.proofs.Words.{all_narrow, branch_none}
use Rattle.arr_cert.proofs.spelling.branch.Goals as goal

pub returns-then-numbers-ne2 : goal.returns-then-numbers-ne2
returns-then-numbers-ne2 c = branch_none c.args.numbers.now c.if-numbers-ne2.true (all_narrow c.args.numbers.now (λ k. (c.type_inv.numbers k).fits))
