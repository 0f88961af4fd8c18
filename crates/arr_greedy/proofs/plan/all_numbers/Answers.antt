use Rattle.std.proofs.Common.{◌≡◌, ◌<◌, ◌∙◌, ◌+◌, ◌++◌, ◌∷◌, [], ℕ, arith, ap, sym}
use Rattle.std.specs.List.{range_with_len}
use Rattle.std.proofs.lemmas.List.Elements.{All-push, All-same}
use Rattle.arr_heur.proofs.Stretches.{range_more}
use Rattle.arr_greedy.proofs.plan.all_numbers.Goals as goal

pub loop-place-preserved : goal.loop-place-preserved
loop-place-preserved c =
    let p : ℕ = c.loop-place.place in
    let less : p < c.args.count = c.loop-place-test.true in
    record {
      value = c.in_ok-push.ensures.items ∙ ap (λ xs. xs ++ (p + 1) ∷ []) c.loop-place.invariant.value ∙ sym (range_more 1 p ∙ ap (λ k. range_with_len 1 p ++ k ∷ []) (let e : 1 + p ≡ p + 1 = omega arith in e));
      below = All-same (λ k. k < c.args.count + 1) c.push.new.self.items (c.loop-place.numbers.items ++ (p + 1) ∷ []) c.in_ok-push.ensures.items
          (All-push (λ k. k < c.args.count + 1) c.loop-place.numbers.items (p + 1) c.loop-place.invariant.below (omega arith));
    }
