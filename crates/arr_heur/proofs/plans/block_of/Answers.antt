use Rattle.std.proofs.Common.{◌≡◌, ◌∙◌, ◌+◌, ◌-◌, ◌++◌, ◌∷◌, [], ℕ, arith, ap, ap₂, sym}
use Rattle.std.specs.List.{range_with_len}
use Rattle.arr_heur.proofs.Stretches.{range_more}
use Rattle.arr_heur.proofs.plans.block_of.Goals as goal

pub loop-place-init : goal.loop-place-init
loop-place-init c = c.new-block.ensures.items ∙ ap (range_with_len (c.args.start + 1)) (let e : 0 ≡ c.args.start - c.args.start = omega arith in e)

pub loop-place-preserved : goal.loop-place-preserved
loop-place-preserved c =
    let s : ℕ = c.args.start in
    let p : ℕ = c.loop-place.place in
    c.in_ok-push.ensures.items
    ∙ ap₂ (λ ns k. ns ++ k ∷ []) c.loop-place.invariant (let e : p + 1 ≡ s + 1 + (p - s) = omega arith in e)
    ∙ sym (range_more (s + 1) (p - s)) ∙ ap (range_with_len (s + 1)) (let e : (p - s) + 1 ≡ p + 1 - s = omega arith in e)

pub returns : goal.returns
returns c = c.loop-place.invariant ∙ ap (λ n. range_with_len (c.args.start + 1) (n - c.args.start)) (let e : c.loop-place.place ≡ c.args.end = omega arith in e)
