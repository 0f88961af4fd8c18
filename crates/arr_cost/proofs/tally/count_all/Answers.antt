use Rattle.std.proofs.Common.{◌∙◌, ◌++◌, List, ap, sym, subst, append_assoc}
use Rattle.arr_cost.specs.declared.touches.Touch.{Touch}
use Rattle.arr_cost.specs.Touches.{Counted, outside}
use Rattle.arr_cost.proofs.tally.count_all.Goals as goal

pub returns-clause-counted : goal.returns-clause-counted
returns-clause-counted c = λ done known.
    let a : List Touch = outside c.args.made.now c.args.touches.now.first in
    let b : List Touch = outside c.args.made.now c.args.touches.now.second in
    let d : List Touch = outside c.args.freed.now c.args.touches.now.out in
    subst (λ ts. Counted ts c.count.new.seen c.count.result)
    (append_assoc (done ++ a) b d ∙ append_assoc done a (b ++ d) ∙ ap (λ r. done ++ r) (sym (append_assoc a b d)))
    (c.count.ensures.counted ((done ++ a) ++ b) (c.count-second.ensures.counted (done ++ a) (c.count-first.ensures.counted done known)))
