use Rattle.std.proofs.Common.{refl, ap, ◌++◌, ◌∷◌, decimal}
use Rattle.arr_cert.specs.Texts.{first_text}
use Rattle.arr_cert.proofs.Writes.{wrote_both}
use Rattle.arr_cert.proofs.writing.put_group.Goals as goal

pub returns : goal.returns
returns g c =
    wrote_both _ _ _ _ _ _ _ _ _ _ _ _ _ _ (wrote_both _ _ _ _ _ _ _ _ _ _ _ _ _ _ c.put_first-first.ensures c.put_number-named.ensures (ap (λ n. first_text c.args.charge.now.ops ++ (46 ∷ decimal n)) c.from.ensures)) c.put_others.ensures refl
