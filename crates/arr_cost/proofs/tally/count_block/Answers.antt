use Rattle.std.proofs.Common.{◌∙◌, ◌≤◌, ℕ, List, ◌++◌, length, get_or, take, ap, sym, subst, arith, refl}
use Rattle.std.specs.List.{flat_map}
use Rattle.std.proofs.lemmas.List.{take_all}
use Rattle.arr_ops.specs.Costs.{distinct, total}
use Rattle.arr_cost.specs.declared.touches.Touch.{Touch}
use Rattle.arr_cost.specs.Touches.{Counted, kept, marks, same_class, touched_by}
use Rattle.arr_cost.proofs.Marking.{few_marks, kept_more}
use Rattle.arr_cost.proofs.tally.count_block.Goals as goal

pub loop-place-init : goal.loop-place-init
loop-place-init c = record { long = refl; small = omega arith; counted = record { each = λ n below. c.requires.clear n; value = refl } }

pub loop-place-preserved : goal.loop-place-preserved
loop-place-preserved c =
    let K = kept c.args.made.now c.args.freed.now in
    let done : List Touch = flat_map K (touched_by c.args.table.now (take c.loop-place.place c.args.block.now)) in
    record {
      long = c.count_all-sum.ensures.long ∙ c.loop-place.invariant.long;
      small = c.count_all-sum.ensures.small;
      counted = subst (λ ts. Counted ts c.count_all-sum.new.seen c.count_all-sum.result)
          (ap (λ t. done ++ K t) c.touches_at-touches.ensures.value ∙ sym (kept_more K c.args.table.now c.args.block.now c.loop-place.place (get_or c.args.block.now c.loop-place.place 0) c.loop-place-test.true refl))
          (c.count_all-sum.ensures.counted done c.loop-place.invariant.counted);
    }

pub returns-clause-value : goal.returns-clause-value
returns-clause-value c =
    c.loop-place.invariant.counted.value
    ∙ ap (λ (ns : List ℕ). total (λ (t : Touch). t.weight) (distinct same_class (flat_map (kept c.args.made.now c.args.freed.now) (touched_by c.args.table.now ns)))) (take_all c.loop-place.place c.args.block.now c.loop-place-test.false)

pub returns-clause-small : goal.returns-clause-small
returns-clause-small c =
    let few : marks c.loop-place.seen ≤ length c.loop-place.seen = few_marks c.loop-place.seen in
    let long = c.loop-place.invariant.long in
    let small = c.loop-place.invariant.small in
    let wide = c.requires.few in
    omega arith
