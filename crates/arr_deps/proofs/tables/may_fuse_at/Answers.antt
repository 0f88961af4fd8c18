use Rattle.std.proofs.Common.{◌≡◌, ◌∙◌, arith, map}
use Rattle.arr_ops.specs.Ops.{fusible}
use Rattle.arr_deps.specs.Graph.{nothing, op_in}
use Rattle.arr_deps.proofs.RowsBy.{row_before, row_long, bit_of}
use Rattle.arr_deps.proofs.Turned.{fusible_turned}
use Rattle.arr_deps.proofs.tables.may_fuse_at.Goals as goal

pub has-requires : goal.has-requires
has-requires c =
    let ops = c.args.ops.now in
    let bits = c.index-earlier-g.result in
    let row : bits ≡ map (fusible (op_in ops c.args.g)) ops = row_before fusible ops c.args.earlier.now c.args.f c.args.g bits nothing c.requires.earlier c.if-g-f.true c.requires.first c.index-earlier-g.is in
    omega (arith, row_long (fusible (op_in ops c.args.g)) ops bits row, c.requires.first)

pub returns-then-g-f : goal.returns-then-g-f
returns-then-g-f c =
    let ops = c.args.ops.now in
    let bits = c.index-earlier-g.result in
    let row : bits ≡ map (fusible (op_in ops c.args.g)) ops = row_before fusible ops c.args.earlier.now c.args.f c.args.g bits nothing c.requires.earlier c.if-g-f.true c.requires.first c.index-earlier-g.is in
    c.has.ensures ∙ bit_of (fusible (op_in ops c.args.g)) ops bits c.args.f nothing row c.requires.first ∙ fusible_turned (op_in ops c.args.g) (op_in ops c.args.f)
