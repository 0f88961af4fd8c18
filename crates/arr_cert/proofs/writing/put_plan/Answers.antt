use Rattle.std.proofs.Common.{ap, sym, ◌∙◌, ◌++◌, ◌∷◌, [], ◌≤◌, ℕ, decimal, length, Some, arith}
use Rattle.std.proofs.lemmas.List.{take_all}
use Rattle.arr_cert.specs.Texts.{spaced}
use Rattle.arr_cert.proofs.Writes.{wrote_both, pieces_at}
use Rattle.arr_cert.proofs.writing.put_plan.Goals as goal

pub loop-index-preserved : goal.loop-index-preserved
loop-index-preserved g c =
    wrote_both _ _ _ _ _ _ _ _ _ _ _ _ _ _ c.loop-index.invariant c.put_number-going.ensures
    (ap (λ t. 33 ∷ 112 ∷ 108 ∷ 97 ∷ 110 ∷ t) (pieces_at (λ (n : ℕ). 32 ∷ decimal n) c.args.places.now c.loop-index.index _ (c.at.ensures ∙ ap Some (sym c.from.ensures))))

pub returns : goal.returns
returns g c =
    let l : length c.args.places.now ≤ c.loop-index.index = omega (arith, c.loop-index-test.false, c.len-index-end.ensures) in
    wrote_both _ _ _ _ _ _ _ _ _ _ _ _ _ _ c.loop-index.invariant c.put.ensures (ap (λ t. (33 ∷ 112 ∷ 108 ∷ 97 ∷ 110 ∷ spaced t) ++ 10 ∷ []) (take_all c.loop-index.index c.args.places.now l))
