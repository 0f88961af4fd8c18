use Rattle.arr_run.proofs.Certified.{certify}
use Rattle.arr_run.proofs.laws.checks_certify.Goals as goal

pub returns : goal.returns
returns c = certify
