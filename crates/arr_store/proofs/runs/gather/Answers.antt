use Rattle.std.proofs.Common.{◌∙◌, ◌+◌, ap, get_or, length, rules, sym}
use Rattle.std.specs.Int.{w32}
use mir.Val.{SFits}
use Rattle.arr_store.proofs.Sides.{copied_at, one_stride, side_ends, side_place}
use Rattle.arr_store.proofs.runs.gather.Goals as goal

pub copy_numbers-requires-clause-source : goal.copy_numbers-requires-clause-source
copy_numbers-requires-clause-source g c =
    let small : SFits w32 c.args.run.stride = search rules in
    side_ends (length c.args.source.now) c.args.run.start c.args.run.stride c.args.run.count (one_stride c.args.run.stride small c.if-run-eq1.true) c.if-run-gt0.true c.requires.there

pub returns-then-run-gt0-clause-each : goal.returns-then-run-gt0-clause-each
returns-then-run-gt0-clause-each g c i d l =
    let small : SFits w32 c.args.run.stride = search rules in
    let one = one_stride c.args.run.stride small c.if-run-eq1.true in
    let ends = side_ends (length c.args.source.now) c.args.run.start c.args.run.stride c.args.run.count one c.if-run-gt0.true c.requires.there in
    ap (λ out. get_or out (c.args.at + i) d) c.copy_numbers.ensures
    ∙ copied_at c.args.out.now c.args.source.now c.args.at c.args.run.start c.args.run.count i d c.requires.out ends l
    ∙ ap (λ k. get_or c.args.source.now k d) (sym (side_place c.args.run.start c.args.run.stride i one))
