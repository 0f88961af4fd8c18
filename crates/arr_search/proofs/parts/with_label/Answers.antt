use Rattle.std.proofs.Common.{◌≡◌, ◌∙◌, ◌+◌, ◌-◌, ◌++◌, ◌∷◌, [], ℕ, cond, get_or, ap₂, sym, arith}
use Rattle.std.specs.Prelude.{◌==◌}
use Rattle.arr_law.specs.Plans.{place_in}
use Rattle.arr_search.proofs.Loops.{filter_more}
use Rattle.arr_search.proofs.parts.with_label.Goals as goal

pub loop-place-preserved : goal.loop-place-preserved
loop-place-preserved c =
    let p : ℕ = c.loop-place.place in
    c.in_ok-push_if.ensures
    ∙ ap₂ (λ xs ys. xs ++ ys) c.loop-place.invariant (ap₂ (λ i k. cond (get_or c.args.labels.now i 0 == c.args.label) (k ∷ []) []) (let e : p ≡ 1 + p - 1 = omega arith in e) (let e : p + 1 ≡ 1 + p = omega arith in e))
    ∙ sym (filter_more (λ f. place_in c.args.labels.now f == c.args.label) 1 p)
