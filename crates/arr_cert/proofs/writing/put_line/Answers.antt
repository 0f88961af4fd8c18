use Rattle.std.proofs.Common.{refl, ap, ◌∙◌, ◌++◌, ◌∷◌, [], ℕ, decimal, take, append_assoc}
use Rattle.std.proofs.lemmas.List.{take_all}
use Rattle.arr_cert.specs.Texts.{spaced}
use Rattle.arr_cert.proofs.Writes.{wrote_both, wrote_empty, pieces_more}
use Rattle.arr_cert.proofs.writing.put_line.Goals as goal

pub loop-number-init : goal.loop-number-init
loop-number-init g c = wrote_both _ _ _ _ _ _ _ _ _ _ _ _ _ _ c.put-going.ensures (wrote_empty _ _ _ _ _) refl

pub loop-number-preserved : goal.loop-number-preserved
loop-number-preserved g c =
    let ns = c.args.numbers.now in
    let i = c.loop-number.number-index in
    wrote_both _ _ _ _ _ _ _ _ _ _ _ _ _ _ c.loop-number.invariant c.put_number-going.ensures
    (append_assoc c.args.word.now (spaced (take i ns)) _ ∙ ap (λ t. c.args.word.now ++ t) (pieces_more (λ (n : ℕ). 32 ∷ decimal n) ns i 0 c.loop-number-test.true))

pub returns : goal.returns
returns g c = wrote_both _ _ _ _ _ _ _ _ _ _ _ _ _ _ c.loop-number.invariant c.put.ensures (ap (λ t. (c.args.word.now ++ spaced t) ++ 10 ∷ []) (take_all c.loop-number.number-index c.args.numbers.now c.loop-number-test.false))
