use Rattle.arr_cert.proofs.Back.{read_once}
use Rattle.arr_cert.proofs.Decided.{read_always}
use Rattle.arr_cert.proofs.laws.proofs_are_read.Goals as goal

pub returns : goal.returns
returns c = record { always = read_always; once = read_once }
