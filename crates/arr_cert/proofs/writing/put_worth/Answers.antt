use Rattle.std.proofs.Common.{ap, ◌++◌, ◌∷◌, [], ◌≤◌, length, arith}
use Rattle.std.specs.List.{flat_map}
use Rattle.std.proofs.lemmas.List.{take_all}
use Rattle.arr_cert.specs.Texts.{group_text}
use Rattle.arr_cert.proofs.Writes.{wrote_both, pieces_at}
use Rattle.arr_cert.proofs.writing.put_worth.Goals as goal

pub loop-index-preserved : goal.loop-index-preserved
loop-index-preserved g c =
    wrote_both _ _ _ _ _ _ _ _ _ _ _ _ _ _ c.loop-index.invariant c.put_group-going.ensures (ap (λ t. 33 ∷ 119 ∷ 111 ∷ 114 ∷ 116 ∷ 104 ∷ t) (pieces_at group_text c.args.charges.now c.loop-index.index _ c.at.ensures))

pub returns : goal.returns
returns g c =
    let l : length c.args.charges.now ≤ c.loop-index.index = omega (arith, c.loop-index-test.false, c.len-index-end.ensures) in
    wrote_both _ _ _ _ _ _ _ _ _ _ _ _ _ _ c.loop-index.invariant c.put.ensures (ap (λ t. (33 ∷ 119 ∷ 111 ∷ 114 ∷ 116 ∷ 104 ∷ flat_map group_text t) ++ 10 ∷ []) (take_all c.loop-index.index c.args.charges.now l))
