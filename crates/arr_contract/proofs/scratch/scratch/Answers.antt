use Rattle.std.proofs.Common.{◌≡◌, ◌∙◌, ◌+◌, ◌∷◌, ◌++◌, [], ◌*◌, ◌≤◌, ap, sym, arith, length, take, rules, vec_len}
use Rattle.std.specs.List.{flat_map}
use Rattle.std.proofs.lemmas.List.{take_more, take_all}
use Rattle.arr_view.specs.Views.{identical}
use Rattle.arr_ops.specs.Ops.{views}
use Rattle.arr_ops.specs.Costs.{distinct, total}
use Rattle.arr_ops.specs.Traffic.{kept_for}
use Rattle.arr_contract.proofs.Counts.{few_classes, total_end}
use Rattle.arr_contract.proofs.scratch.scratch.Goals as goal

pub loop-op-init : goal.loop-op-init
loop-op-init c =
    let long : vec_len c.in_ok-views.views ≡ length c.in_ok-views.views.items = search rules in
    let all : c.len-count.result ≡ length (distinct identical (flat_map views c.args.block.now)) = c.len-count.ensures ∙ long ∙ ap length c.in_ok-views.ensures in
    let few : length (distinct identical (flat_map views c.args.block.now)) ≤ 3 * length c.args.block.now = few_classes identical c.args.block.now in
    let least : length c.args.block.now ≤ 256 = c.requires in
    record { value = omega arith; few = omega arith }

pub loop-op-preserved : goal.loop-op-preserved
loop-op-preserved c =
    let more : total kept_for (take (c.loop-op.op-index + 1) c.args.block.now) ≡ total kept_for (take c.loop-op.op-index c.args.block.now) + kept_for c.op-item.result =
    ap (total kept_for) (take_more c.args.block.now c.loop-op.op-index c.op-item.result c.loop-op-test.true ∙ ap (λ x. take c.loop-op.op-index c.args.block.now ++ x ∷ []) (sym c.op-item.is)) ∙ total_end kept_for (take c.loop-op.op-index c.args.block.now) c.op-item.result in
    let here : c.in_ok-count.field-0 ≡ kept_for c.op-item.result = c.in_ok-count.ensures.value in
    let small : c.in_ok-count.field-0 ≤ 2097152 = c.in_ok-count.ensures.few in
    let before : c.loop-op.count ≡ length (distinct identical (flat_map views c.args.block.now)) + total kept_for (take c.loop-op.op-index c.args.block.now) = c.loop-op.invariant.value in
    let few : c.loop-op.count ≤ 768 + c.loop-op.op-index * 2097152 = c.loop-op.invariant.few in
    record { value = omega arith; few = omega arith }

pub returns : goal.returns
returns c =
    c.loop-op.invariant.value ∙ ap (λ ops. length (distinct identical (flat_map views c.args.block.now)) + total kept_for ops) (take_all c.loop-op.op-index c.args.block.now c.loop-op-test.false)
