use Rattle.arr_cert.proofs.Writes.{wrote_ok, wrote_err}
use Rattle.arr_cert.proofs.writing.put.Goals as goal

pub returns-in-Ok : goal.returns-in-Ok
returns-in-Ok g c = wrote_ok _ _ _ _ _ _ _ _ _ _ c.in-Ok.is c.write_all.ensures.all c.write_all.ensures.part c.write_all.ensures.cause

pub returns-in-Err : goal.returns-in-Err
returns-in-Err g c = wrote_err _ _ _ _ _ _ _ c.in-Err.is
