use Rattle.std.proofs.Common.{ap, sym, ◌∙◌, ◌≤◌, length, Some, arith, drop}
use Rattle.std.proofs.lemmas.List.{take_all}
use Rattle.arr_cert.specs.Texts.{behind}
use Rattle.arr_cert.proofs.Writes.{wrote_both, wrote_as}
use Rattle.arr_cert.proofs.Lines.{others_at}
use Rattle.arr_cert.proofs.writing.put_others.Goals as goal

pub loop-index-preserved : goal.loop-index-preserved
loop-index-preserved g c = wrote_both _ _ _ _ _ _ _ _ _ _ _ _ _ _ c.loop-index.invariant c.put_number-going.ensures (others_at c.args.ops.now c.loop-index.index _ (omega (arith, c.loop-index.auto.index)) (c.at.ensures ∙ ap Some (sym c.from.ensures)))

pub returns : goal.returns
returns g c =
    let l : length c.args.ops.now ≤ c.loop-index.index = omega (arith, c.loop-index-test.false, c.len-index-end.ensures) in
    wrote_as _ _ _ _ _ _ _ _ _ _ c.loop-index.invariant (ap (λ t. behind 44 (drop 1 t)) (take_all c.loop-index.index c.args.ops.now l))
