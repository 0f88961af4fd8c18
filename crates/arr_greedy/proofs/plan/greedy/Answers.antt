use Rattle.std.proofs.Common.{◌≡◌, ◌∙◌, ◌<◌, ◌≤◌, Vec, Global, ℕ, List, Some, None, length, map, ap, sym, subst, arith}
use Rattle.std.specs.Prelude.{is_some}
use Rattle.std.specs.List.{All}
use Rattle.std.proofs.lemmas.Bool.{false≢true}
use Rattle.std.proofs.lemmas.List.{length-map}
use Rattle.arr_ops.specs.Order.{ordered}
use Rattle.arr_ops.specs.Plans.{ascends}
use Rattle.arr_heur.specs.Planners.{greedy_blocks, greedy_plan}
use Rattle.arr_heur.proofs.Merged.{greedy_legal}
use Rattle.arr_greedy.specs.Blocks.{row_at}
use Rattle.arr_greedy.proofs.GreedyBlocks.{greedy_ascends, greedy_inside}
use Rattle.arr_greedy.proofs.plan.greedy.Goals as goal

abbrev pub numbers_in : Vec ℕ Global → List ℕ
numbers_in b = b.items

pub ordered-requires-clause-inside : goal.ordered-requires-clause-inside
ordered-requires-clause-inside c k l =
    let same : map numbers_in c.as_slice.result.now ≡ greedy_blocks c.args.graph.now = ap (map numbers_in) c.as_slice.ensures.value ∙ c.in_ok-blocks.ensures in
    let long : length c.as_slice.result.now ≡ length (greedy_blocks c.args.graph.now) = sym (length-map c.as_slice.result.now numbers_in) ∙ ap length same in
    subst (λ bs. All (λ i. (0 < i) × (i ≤ length c.args.graph.now)) (row_at bs k)) (sym same) (greedy_inside c.args.graph.now k (omega arith))

pub ordered-requires-clause-ascending : goal.ordered-requires-clause-ascending
ordered-requires-clause-ascending c k l =
    let same : map numbers_in c.as_slice.result.now ≡ greedy_blocks c.args.graph.now = ap (map numbers_in) c.as_slice.ensures.value ∙ c.in_ok-blocks.ensures in
    let long : length c.as_slice.result.now ≡ length (greedy_blocks c.args.graph.now) = sym (length-map c.as_slice.result.now numbers_in) ∙ ap length same in
    ap (λ bs. ascends (row_at bs k)) same ∙ greedy_ascends c.args.graph.now k (omega arith)

pub unreachable-requires : goal.unreachable-requires
unreachable-requires c =
    let same : map numbers_in c.as_slice.result.now ≡ greedy_blocks c.args.graph.now = ap (map numbers_in) c.as_slice.ensures.value ∙ c.in_ok-blocks.ensures in
    let none : None ≡ Some (greedy_plan c.args.graph.now) = sym c.in-None.is ∙ c.in_ok-plan.ensures ∙ ap (ordered c.args.graph.now) same ∙ (greedy_legal c.args.graph.now).0 in
    false≢true (ap is_some none)
