use Rattle.arr_cert.proofs.Words.{all_narrow, head_length, head_version}
use Rattle.arr_cert.proofs.spelling.head.Goals as goal

pub returns-then-numbers-ne3 : goal.returns-then-numbers-ne3
returns-then-numbers-ne3 c = head_length c.args.numbers.now (all_narrow c.args.numbers.now (λ k. (c.type_inv.numbers k).fits)) c.if-numbers-eq2.false c.if-numbers-ne3.true

pub returns-then-numbers-ne2 : goal.returns-then-numbers-ne2
returns-then-numbers-ne2 c = head_version c.args.numbers.now (all_narrow c.args.numbers.now (λ k. (c.type_inv.numbers k).fits)) c.if-numbers-eq2.false c.if-numbers-ne2.true
