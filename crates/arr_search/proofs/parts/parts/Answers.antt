use Rattle.std.proofs.Common.{◌≡◌, ◌∙◌, ◌+◌, ◌++◌, ◌∷◌, [], ℕ, List, cond, map, ap, ap₂, sym, arith}
use Rattle.std.specs.List.{filter, range_with_len}
use Rattle.arr_ops.specs.Plans.{not_empty}
use Rattle.arr_search.specs.Parts.{with_label}
use Rattle.arr_search.proofs.Loops.{filter_last, map_more}
use Rattle.arr_search.proofs.parts.parts.Goals as goal

pub loop-label-preserved : goal.loop-label-preserved
loop-label-preserved c =
    let k : ℕ = c.loop-label.label in
    let W : ℕ → List ℕ = with_label c.args.labels.now in
    c.in_ok-push_some.ensures
    ∙ ap₂ (λ xs ys. xs ++ ys) c.loop-label.invariant (ap (λ b. cond (not_empty b) (b ∷ []) []) (c.in_ok-block.ensures ∙ ap W (let e : k ≡ 0 + k = omega arith in e)))
    ∙ sym (ap (filter not_empty) (map_more W 0 k) ∙ filter_last not_empty (map W (range_with_len 0 k)) (W (0 + k)))
