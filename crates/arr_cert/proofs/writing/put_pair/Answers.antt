use Rattle.std.proofs.Common.{ap₂, ◌++◌, ◌∷◌, []}
use Rattle.arr_cert.specs.Texts.{spaced}
use Rattle.arr_cert.proofs.Writes.{wrote_as}
use Rattle.arr_cert.proofs.writing.put_pair.Goals as goal

pub returns : goal.returns
returns g c = wrote_as _ _ _ _ _ _ _ _ _ _ c.put_line.ensures (ap₂ (λ x y. (c.args.word.now ++ spaced (x ∷ y ∷ [])) ++ 10 ∷ []) c.from-first.ensures c.from-second.ensures)
