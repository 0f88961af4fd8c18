use Rattle.std.proofs.Common.{◌≡◌, ◌∙◌, ◌+◌, ◌++◌, ◌∷◌, [], ℕ, ap, ap₂, sym, arith}
use Rattle.arr_law.specs.ProblemOf.{problem_of}
use Rattle.arr_state.specs.States.{known}
use Rattle.arr_search.specs.Parts.{label_of}
use Rattle.arr_search.proofs.Loops.{map_more}
use Rattle.arr_search.proofs.decided.labels_of.Goals as goal

pub loop-place-preserved : goal.loop-place-preserved
loop-place-preserved c =
    let L : ℕ → ℕ = label_of (problem_of c.args.graph.now) (known c.args.state.now) in
    let k : ℕ = c.loop-place.place in
    c.in_ok-push.ensures.items
    ∙ ap₂ (λ xs x. xs ++ x ∷ []) c.loop-place.invariant (c.label_of.ensures ∙ ap L (let e : k + 1 ≡ 1 + k = omega arith in e))
    ∙ sym (map_more L 1 k)
