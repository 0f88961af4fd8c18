use Rattle.std.proofs.Common.{ap, ◌≤◌, length, arith}
use Rattle.std.specs.List.{flat_map}
use Rattle.std.proofs.lemmas.List.{take_all}
use Rattle.arr_cert.specs.Texts.{line_text}
use Rattle.arr_cert.proofs.Writes.{wrote_both, wrote_as, pieces_at}
use Rattle.arr_cert.proofs.writing.put_tree.Goals as goal

pub loop-index-preserved : goal.loop-index-preserved
loop-index-preserved g c = wrote_both _ _ _ _ _ _ _ _ _ _ _ _ _ _ c.loop-index.invariant c.put_record-going.ensures (pieces_at line_text c.args.tree.now c.loop-index.index _ c.at.ensures)

pub returns : goal.returns
returns g c =
    let l : length c.args.tree.now ≤ c.loop-index.index = omega (arith, c.loop-index-test.false, c.len-index-end.ensures) in
    wrote_as _ _ _ _ _ _ _ _ _ _ c.loop-index.invariant (ap (flat_map line_text) (take_all c.loop-index.index c.args.tree.now l))
