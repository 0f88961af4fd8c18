use Rattle.std.proofs.Common.{refl, ◌≡◌, ◌∙◌, ◌*◌, ap, arith, length, min, sym}
use Rattle.arr_cost.proofs.Idle.{idle_front, idle_rest, saved_upto}
use Rattle.arr_cost.proofs.Prints.{saved_turn}
use Rattle.arr_cost.proofs.footprints.saved_weight.Goals as goal

pub loop-index-init : goal.loop-index-init
loop-index-init c =
    record { value = sym (idle_front c.args.weights.now c.args.a.now c.args.b.now c.args.from c.requires.front); small = omega arith; inside = c.requires.rising }

pub loop-index-preserved : goal.loop-index-preserved
loop-index-preserved c =
    let low = c.loop-index.invariant.small in
    let some = c.add_weights-some.ensures.small in
    let more = c.add_weights-sum.ensures.small in
    record {
      value = saved_turn c.args.weights.now c.args.a.now c.args.b.now c.loop-index.index _ _ c.shared-shared.result c.lost-lost.result c.loop-index.sum c.add_weights-some.result c.add_weights-sum.result
          refl refl c.shared-shared.ensures c.lost-lost.ensures c.loop-index.invariant.value c.add_weights-some.ensures.value c.add_weights-sum.ensures.value;
      small = omega arith;
      inside = omega arith;
    }

pub returns : goal.returns
returns c =
    let end : c.loop-index.index ≡ c.args.upto = omega (arith, c.loop-index.invariant.inside) in
    c.loop-index.invariant.value
    ∙ ap (λ n. saved_upto c.args.weights.now c.args.a.now c.args.b.now (64 * n)) end
    ∙ sym (idle_rest c.args.weights.now c.args.a.now c.args.b.now c.args.upto (min (length c.args.a.now) (length c.args.b.now)) (omega (arith, c.requires.first, c.requires.second)) c.requires.behind)
