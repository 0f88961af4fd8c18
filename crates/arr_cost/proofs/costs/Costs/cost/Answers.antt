use Rattle.std.proofs.Common.{◌≡◌, ◌∙◌, ◌+◌, ◌*◌, ◌<◌, ◌≤◌, ℕ, List, [], Vec, Global, length, map, drop, get_or, ap, sym, arith}
use Rattle.std.proofs.lemmas.List.{length-map}
use Rattle.arr_ops.specs.Costs.{block_cost, cost, total}
use Rattle.arr_cost.proofs.Sums.{at_map, few_blocks, total_at, total_done}
use Rattle.arr_cost.proofs.costs.Costs.cost.Goals as goal

abbrev pub numbers_in : Vec ℕ Global → List ℕ
numbers_in b = b.items

pub overflow_add-sum : goal.overflow_add-sum
overflow_add-sum c =
    let many : length c.args.plan.now ≤ length c.args.self.now = few_blocks c.args.self.now c.args.plan.now c.requires in
    let list : length c.args.self.now ≤ 256 = c.in_ok-sum.ensures.few in
    let same : length c.deref-block-items.result.now ≡ length c.args.plan.now = ap length c.deref-block-items.ensures.value ∙ sym (length-map c.plan.inside.blocks.items numbers_in) ∙ ap length c.plan.view_is in
    let less : c.loop-block.block-index < length c.deref-block-items.result.now = c.loop-block-test.true in
    let small : c.loop-block.sum ≤ c.loop-block.block-index * 6467616768 = c.loop-block.invariant.small in
    let next : c.in_ok-sum.field-0 ≤ 6467616768 = c.in_ok-sum.ensures.small in
    omega arith

pub loop-block-preserved : goal.loop-block-preserved
loop-block-preserved c =
    let w : List ℕ → ℕ = block_cost c.args.self.now in
    let ys : List (List ℕ) = map numbers_in c.deref-block-items.result.now in
    let i : ℕ = c.loop-block.block-index in
    let less : i < length c.deref-block-items.result.now = c.loop-block-test.true in
    let long : length ys ≡ length c.deref-block-items.result.now = length-map c.deref-block-items.result.now numbers_in in
    let here : get_or ys i [] ≡ c.as_slice.result.now =
    at_map numbers_in c.deref-block-items.result.now i c.block-item.result [] less ∙ ap numbers_in (sym c.block-item.is) ∙ sym c.as_slice.ensures.value in
    let step : total w (drop i ys) ≡ w (get_or ys i []) + total w (drop (i + 1) ys) = total_at w ys i [] (omega arith) in
    let value : c.in_ok-sum.field-0 ≡ w (get_or ys i []) = c.in_ok-sum.ensures.value ∙ ap w (sym here) in
    let before : c.loop-block.sum + total w (drop i ys) ≡ total w ys = c.loop-block.invariant.value in
    let small : c.loop-block.sum ≤ i * 6467616768 = c.loop-block.invariant.small in
    let next : c.in_ok-sum.field-0 ≤ 6467616768 = c.in_ok-sum.ensures.small in
    record { value = omega arith; small = omega arith }

pub returns : goal.returns
returns c =
    let w : List ℕ → ℕ = block_cost c.args.self.now in
    let ys : List (List ℕ) = map numbers_in c.deref-block-items.result.now in
    let long : length ys ≡ length c.deref-block-items.result.now = length-map c.deref-block-items.result.now numbers_in in
    let end : length c.deref-block-items.result.now ≤ c.loop-block.block-index = c.loop-block-test.false in
    let none : total w (drop c.loop-block.block-index ys) ≡ 0 = total_done w ys c.loop-block.block-index (omega arith) in
    let value : c.loop-block.sum + total w (drop c.loop-block.block-index ys) ≡ total w ys = c.loop-block.invariant.value in
    let all : c.loop-block.sum ≡ total w ys = omega arith in
    all ∙ ap (λ p. cost c.args.self.now p) (ap (map numbers_in) c.deref-block-items.ensures.value ∙ c.plan.view_is)
