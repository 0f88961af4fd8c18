use Rattle.arr_cert.proofs.Words.{step_back}
use Rattle.arr_cert.proofs.spelling.step_line.Goals as goal

pub returns-in_default : goal.returns-in_default
returns-in_default c = λ r t. let b = step_back c.args.rest.now r t in (rw c.in_default.is at c.in_ok-listed.ensures) _ b.4
