use Rattle.std.proofs.Common.{◌∙◌, ap, sym}
use Rattle.std.specs.Prelude.{max}
use Rattle.std.proofs.lemmas.List.Sums.{fold_push}
use Rattle.std.proofs.Common.{take}
use Rattle.arr_law.specs.Plans.{greatest}
use Rattle.arr_check.proofs.Loops.{taken_more}
use Rattle.arr_check.proofs.plan.greatest.Goals as goal

pub loop-at-preserved : goal.loop-at-preserved
loop-at-preserved c =
    c.greater-most.ensures ∙ ap (λ n. max n c.at.result.now) c.loop-at.invariant
    ∙ sym (ap greatest (taken_more c.args.places.now c.loop-at.at c.at.result.now c.at.ensures) ∙ fold_push max 0 (take c.loop-at.at c.args.places.now) c.at.result.now)
