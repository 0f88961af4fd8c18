use Rattle.std.proofs.Common.{◌∙◌, ap, length, map, rules}
use Rattle.std.specs.Int.{w32}
use mir.Val.{SFits}
use Rattle.arr_num.specs.Numbers.{in_type}
use Rattle.arr_store.proofs.Sides.{all_of_part, copied_sides, one_stride, side_ends}
use Rattle.arr_store.proofs.runs.scatter.Goals as goal

pub copy_numbers-requires-clause-out : goal.copy_numbers-requires-clause-out
copy_numbers-requires-clause-out g c =
    let small : SFits w32 c.args.run.stride = search rules in
    side_ends (length c.args.out.now) c.args.run.start c.args.run.stride c.args.run.count (one_stride c.args.run.stride small c.if-run-eq1.true) c.if-run-gt0.true c.requires.there

pub returns-then-run-gt0-clause-written : goal.returns-then-run-gt0-clause-written
returns-then-run-gt0-clause-written g c =
    let small : SFits w32 c.args.run.stride = search rules in
    let one = one_stride c.args.run.stride small c.if-run-eq1.true in
    let ends = side_ends (length c.args.out.now) c.args.run.start c.args.run.stride c.args.run.count one c.if-run-gt0.true c.requires.there in
    ap (map g.T.Native.number) c.copy_numbers.ensures
    ∙ copied_sides g.T.Native.number c.args.out.now c.args.source.now c.args.run.start c.args.run.stride c.args.at c.args.run.count one ends c.requires.source

pub returns-then-run-gt0-clause-typed : goal.returns-then-run-gt0-clause-typed
returns-then-run-gt0-clause-typed g c =
    all_of_part (in_type g.T.Native.elem) (map g.T.Native.number c.args.source.now) c.args.at c.args.run.count c.are_typed.ensures
