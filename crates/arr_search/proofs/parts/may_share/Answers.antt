use Rattle.std.proofs.Common.{◌∙◌, arith}
use Rattle.arr_search.proofs.Partitions.{share_tells}
use Rattle.arr_search.proofs.parts.may_share.Goals as goal

pub returns : goal.returns
returns c =
    c.fusible.ensures
    ∙ share_tells c.args.graph.now c.args.labels.now c.args.f c.args.g (omega (arith, c.requires.first_least)) c.requires.first_most (omega (arith, c.requires.second_least)) c.requires.second_most c.if-f-g.false c.if-labels-f.false
