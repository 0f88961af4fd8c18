use Rattle.std.proofs.Common.{◌≡◌, ◌∙◌, ap, pos, to_z, of_z, arith}
use Rattle.std.specs.Int.{w128}
use Rattle.arr_num.specs.Numbers.{fold_start, in_type}
use Rattle.arr_sums.proofs.Kept.{steps_begin, steps_more}
use Rattle.arr_machine.proofs.Starts.{start_in, start_passed}
use Rattle.arr_machine.proofs.begin.start_fold.Goals as goal

pub loop-i-init : goal.loop-i-init
loop-i-init c = steps_begin c.args.along.elem (λ s x. fold_start c.args.along.code c.args.along.elem) c.args.numbers.now (λ j. pos 0) c.args.along.kept

pub loop-i-preserved : goal.loop-i-preserved
loop-i-preserved c =
    let is : to_z w128 (of_z w128 c.fold_start-start.result) ≡ fold_start c.args.along.code c.args.along.elem = start_passed c.args.along.code c.args.along.elem c.fold_start-start.result c.fold_start-start.ensures in
    steps_more c.args.along.elem (λ s x. fold_start c.args.along.code c.args.along.elem) c.args.numbers.now c.loop-i.numbers (λ j. pos 0) c.args.along.kept c.loop-i.i (to_z w128 (of_z w128 c.fold_start-start.result))
    (omega (arith, c.requires.there, c.loop-i-test.true, c.loop-i.invariant.long)) is (ap (in_type c.args.along.elem) is ∙ start_in c.args.along.code c.args.along.elem) c.loop-i.invariant
