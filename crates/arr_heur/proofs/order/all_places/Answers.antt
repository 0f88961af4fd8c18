use Rattle.std.proofs.Common.{◌≡◌, ◌∙◌, ◌+◌, ◌++◌, ◌∷◌, [], ℕ, rules, arith, ap, sym}
use Rattle.std.specs.List.{range_with_len}
use Rattle.arr_heur.proofs.Stretches.{range_more}
use Rattle.arr_heur.proofs.order.all_places.Goals as goal

pub loop-place-preserved : goal.loop-place-preserved
loop-place-preserved c =
    let p : ℕ = c.loop-place.place in
    record {
      value = c.in_ok-push.ensures.items ∙ ap (λ xs. xs ++ p ∷ []) c.loop-place.invariant.value ∙ sym (range_more 0 p ∙ ap (λ k. range_with_len 0 p ++ k ∷ []) (let e : 0 + p ≡ p = omega arith in e));
      below = search rules;
    }
