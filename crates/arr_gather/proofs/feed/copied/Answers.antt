use Rattle.std.proofs.Common.{◌∙◌, ◌++◌, ◌∷◌, [], ap, sym, subst}
use Rattle.arr_num.proofs.Reading.{read}
use Rattle.arr_gather.proofs.Copying.{Copying, copying_more}
use Rattle.arr_gather.proofs.Numbers.{taken_fits}
use Rattle.arr_gather.proofs.feed.copied.Goals as goal

pub loop-place-preserved : goal.loop-place-preserved
loop-place-preserved c =
    let s = c.args.store.now in
    let before = subst (Copying s c.loop-place.store c.args.view.now c.loop-place.numbers.items) c.in-Some.ensures.steps c.loop-place.invariant in
    subst (λ xs. Copying s c.load-number.new.self c.args.view.now xs c.next.new.self) (sym (c.in_ok-push.ensures.items ∙ ap (λ z. c.loop-place.numbers.items ++ z ∷ []) (read c.load-number.result (taken_fits _ _ c.load-number.ensures.typed))))
    (copying_more s c.loop-place.store c.load-number.new.self c.args.view.now c.loop-place.numbers.items c.in-Some.place c.next.new.self c.load-number.result c.base.result c.base.ensures.value before
    c.load-number.ensures.number c.load-number.ensures.bases c.load-number.ensures.loads c.load-number.ensures.stores c.load-number.ensures.made)
