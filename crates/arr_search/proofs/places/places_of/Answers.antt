use Rattle.std.proofs.Common.{◌≡◌, ◌∙◌, ◌+◌, ◌++◌, ◌∷◌, [], ℕ, suc, ap, ap₂, sym, arith}
use Rattle.arr_ops.specs.Plans.{place}
use Rattle.arr_search.proofs.Loops.{map_more}
use Rattle.arr_search.proofs.places.places_of.Goals as goal

pub loop-f-preserved : goal.loop-f-preserved
loop-f-preserved c =
    let L : ℕ → ℕ = λ f. suc (place c.args.plan.now f) in
    let k : ℕ = c.loop-f.f in
    c.in_ok-push.ensures.ok
    ∙ ap₂ (λ xs x. xs ++ x ∷ []) c.loop-f.invariant (let e : c.place_of.result + 1 ≡ suc c.place_of.result = omega arith in e ∙ ap suc (c.place_of.ensures.value ∙ ap (place c.args.plan.now) (let z : k + 1 ≡ 1 + k = omega arith in z)))
    ∙ sym (map_more L 1 k)
