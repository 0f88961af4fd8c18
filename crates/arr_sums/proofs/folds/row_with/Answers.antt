use Rattle.std.proofs.Common.{◌≡◌, ◌∙◌, ◌+◌, ◌<◌, ap, ap₂, sym, arith, length, to_z, of_z}
use Rattle.std.specs.Int.{w128}
use Rattle.arr_num.specs.Numbers.{in_type, value}
use Rattle.arr_native.specs.Entries.{entry}
use Rattle.arr_native.proofs.Entries.{entry_is}
use Rattle.arr_sums.specs.Kept.{kept_at}
use Rattle.arr_sums.proofs.Kept.{passed, step_from, steps_more}
use Rattle.arr_sums.proofs.folds.row_with.Goals as goal

pub loop-i-preserved : goal.loop-i-preserved
loop-i-preserved g c =
    let v = value c.args._code g.T.Native.elem in
    let source = λ (j : _). entry g.T.Native.number c.args.source.now (c.args.from + j) in
    let below : c.loop-i.i < c.args.count = c.loop-i-test.true in
    let there : c.args.at + c.loop-i.i < length c.loop-i.sums = omega (arith, c.requires.sums, c.loop-i.invariant.long) in
    let reads : c.args.from + c.loop-i.i < length c.args.source.now = omega (arith, c.requires.source) in
    let stays : kept_at c.loop-i.sums c.args.at c.loop-i.i ≡ kept_at c.args.sums.now c.args.at c.loop-i.i = step_from g.T.Native.elem v c.args.sums.now c.loop-i.sums source c.args.at c.loop-i.i c.loop-i.invariant in
    let typed : in_type g.T.Native.elem (kept_at c.loop-i.sums c.args.at c.loop-i.i) ≡ Rattle.std.proofs.Common.true = ap (in_type g.T.Native.elem) stays ∙ c.requires.typed c.loop-i.i below in
    let back : to_z w128 (of_z w128 c.widen.result) ≡ c.widen.result = passed g.T.Native.elem c.widen.result c.widen.ensures.typed in
    steps_more g.T.Native.elem v c.args.sums.now c.loop-i.sums source c.args.at c.loop-i.i (to_z w128 (of_z w128 c.widen.result)) there
    (back ∙ c.widen.ensures.number ∙ c.requires.values c.narrow.result c.index-source-from.result c.f.result c.f.ensures
    ∙ ap₂ v (c.narrow.ensures ∙ passed g.T.Native.elem (kept_at c.loop-i.sums c.args.at c.loop-i.i) typed ∙ stays)
    (sym (entry_is g.T.Native.number c.args.source.now (c.args.from + c.loop-i.i) c.index-source-from.result reads c.index-source-from.is)))
    (ap (in_type g.T.Native.elem) back ∙ c.widen.ensures.typed) c.loop-i.invariant
