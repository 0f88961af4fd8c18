use Rattle.arr_cert.proofs.Differ.{texts_differ as law}
use Rattle.arr_cert.proofs.laws.texts_differ.Goals as goal

pub returns : goal.returns
returns c = law
