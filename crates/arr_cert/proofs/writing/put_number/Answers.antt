use Rattle.std.proofs.Common.{ap, ◌∷◌, ◌∙◌}
use Rattle.arr_cert.proofs.Writes.{wrote_both}
use Rattle.arr_cert.proofs.writing.put_number.Goals as goal

pub returns : goal.returns
returns g c = wrote_both _ _ _ _ _ _ _ _ _ _ _ _ _ _ c.put-signed.ensures c.put.ensures (ap (λ t. c.args.sign ∷ t) (c.as_bytes.ensures.value ∙ c.format.ensures.text))
