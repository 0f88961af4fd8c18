use Rattle.std.proofs.Common.{◌∙◌, ◌||◌, ap}
use Rattle.arr_check.specs.Classed.{cross}
use Rattle.arr_check.proofs.ClassTests.{crosses_is}
use Rattle.arr_check.proofs.pairs.crosses.Goals as goal

pub returns : goal.returns
returns c =
    let cs = c.args.classes.now in
    let a = c.args.f_classes.now in
    let b = c.args.g_classes.now in
    c.crosses_any.ensures
    ∙ ap (λ n. (cross cs n a.out b.out || cross cs n a.out b.first) || cross cs n a.out b.second) c.is_reduction.ensures
    ∙ crosses_is cs c.args.f.now c.args.g.now a b c.requires.first c.requires.second
