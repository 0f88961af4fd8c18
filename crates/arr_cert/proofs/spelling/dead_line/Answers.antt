use Rattle.arr_cert.proofs.Words.{dead_back}
use Rattle.arr_cert.proofs.spelling.dead_line.Goals as goal

pub returns-in_default : goal.returns-in_default
returns-in_default c = λ r t. let b = dead_back c.args.rest.now r t in (rw c.in_default.is at c.in_ok-listed.ensures) _ b.2
