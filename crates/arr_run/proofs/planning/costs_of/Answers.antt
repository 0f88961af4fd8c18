use Rattle.std.proofs.Common.{◌≡◌, ◌∙◌, ◌∷◌, [], ℕ, List, Vec, Global, ap, map, refl, take_all}
use Rattle.arr_ops.specs.Costs.{block_cost}
use Rattle.arr_run.proofs.planning.costs_of.Goals as goal

abbrev numbers_in : Vec ℕ Global → List ℕ
numbers_in b = b.items

mapped_twice : (w : List ℕ → ℕ) (blocks : List (Vec ℕ Global)) → map (λ b. w b.items) blocks ≡ map w (map numbers_in blocks)
mapped_twice w [] = refl
mapped_twice w (b ∷ blocks) = ap (λ ns. w b.items ∷ ns) (mapped_twice w blocks)

pub returns : goal.returns
returns c =
    let w : List ℕ → ℕ = block_cost c.args.costs.now in
    c.loop-block.invariant ∙ ap (map (λ b. w b.items)) (take_all c.loop-block.block-index c.deref-block-items.result.now c.loop-block-test.false)
    ∙ mapped_twice w c.deref-block-items.result.now ∙ ap (map w) (ap (map numbers_in) c.deref-block-items.ensures.value ∙ c.plan.view_is)
