use Rattle.arr_cert.proofs.Back.{texts_read_back}
use Rattle.arr_cert.proofs.laws.texts_read_back.Goals as goal

pub returns : goal.returns
returns c = texts_read_back
