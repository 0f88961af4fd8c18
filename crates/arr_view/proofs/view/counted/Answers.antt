use Rattle.std.proofs.Common.{◌*◌, inl, inr, sym, ◌∙◌, arith, ap, subst, ◌<◌}
use Rattle.arr_view.proofs.Counting.{answer_none, ends_at}
use Rattle.arr_view.proofs.view.counted.Goals as goal
use Rattle.arr_view.proofs.view.counted.Goals.{then-count-eq0-via-then-count-eq0, then-count-eq0-via-else-count-eq0+then-count-from}

pub returns-then-count-eq0 : goal.returns-then-count-eq0
returns-then-count-eq0 c =
    answer_none c.args.lengths.now
    (sym c.loop-length.invariant.test
    ∙ ends_at c.loop-length.count c.loop-length.length-index c.args.lengths.now c.loop-length-test.true
    (let e = c.from-count.ensures in elim c.then-count-eq0.branch [ then-count-eq0-via-then-count-eq0 w ↦ inl (sym (ap (λ n. c.loop-length.count * n) e) ∙ w.if-count-eq0.true) | then-count-eq0-via-else-count-eq0+then-count-from w ↦ inr (subst (λ n. 1048576 < c.loop-length.count * n) e (let u : 1048576 < c.loop-length.count * c.from-count.result = omega arith in u)) ]) c.loop-length.invariant.some)
