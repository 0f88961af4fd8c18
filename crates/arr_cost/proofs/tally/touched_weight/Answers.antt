use Rattle.std.proofs.Common.{◌≡◌, ◌∙◌, ◌*◌, ℕ, List, false, length, replicate, ap, subst, rules}
use Rattle.std.specs.List.{flat_map}
use Rattle.std.proofs.lemmas.List.{length-replicate}
use Rattle.arr_ops.specs.Costs.{distinct, total}
use Rattle.arr_cost.specs.declared.touches.Touch.{Touch}
use Rattle.arr_cost.specs.declared.touches.Touches.{Touches}
use Rattle.arr_cost.specs.Touches.{AreMarked, frees_number, kept, makes_number, same_class, touched_by}
use Rattle.arr_cost.proofs.Marking.{all_marked, written_back}
use Rattle.arr_cost.proofs.Touched.{touched_cost}
use Rattle.arr_cost.proofs.tally.touched_weight.Goals as goal

pub returns-clause-value : goal.returns-clause-value
returns-clause-value c = λ list e.
    let w : ℕ = 3 * length c.args.table.now in
    let made_clear : c.in_ok-made.made.items ≡ replicate (3 * length c.args.table.now) false = search rules in
    let made_long : length c.in_ok-made.made.items ≡ 3 * length c.args.table.now = ap length made_clear ∙ length-replicate (3 * length c.args.table.now) false in
    let freed_clear : c.in_ok-freed.freed.items ≡ replicate (3 * length c.args.table.now) false = search rules in
    let freed_long : length c.in_ok-freed.freed.items ≡ 3 * length c.args.table.now = ap length freed_clear ∙ length-replicate (3 * length c.args.table.now) false in
    let made_same : c.as_slice.result.now ≡ c.mark_all_made.new.marked
    = c.as_slice.ensures.value ∙ written_back c.in_ok-made.made.items c.mark_all_made.new.marked c.in_ok-made.made.len w made_long (c.mark_all_made.ensures.long ∙ ap length c.as_mut_slice.ensures.value ∙ made_long) c.in_ok-made.ensures.len in
    let freed_same : c.as_slice-2.result.now ≡ c.mark_all_freed.new.marked
    = c.as_slice-2.ensures.value ∙ written_back c.in_ok-freed.freed.items c.mark_all_freed.new.marked c.in_ok-freed.freed.len w freed_long (c.mark_all_freed.ensures.long ∙ ap length c.as_mut_slice-2.ensures.value ∙ freed_long) c.in_ok-freed.ensures.len in
    let made : AreMarked makes_number c.args.table.now c.args.block.now c.as_slice.result.now
    = all_marked makes_number c.args.table.now c.args.block.now c.as_mut_slice.result.now c.mark_all_made.new.marked c.as_slice.result.now (c.as_mut_slice.ensures.value ∙ made_clear) c.mark_all_made.ensures.each made_same in
    let freed : AreMarked frees_number c.args.table.now c.args.block.now c.as_slice-2.result.now
    = all_marked frees_number c.args.table.now c.args.block.now c.as_mut_slice-2.result.now c.mark_all_freed.new.marked c.as_slice-2.result.now (c.as_mut_slice-2.ensures.value ∙ freed_clear) c.mark_all_freed.ensures.each freed_same in
    c.count_block.ensures.value
    ∙ ap (λ (table : List Touches). total (λ (t : Touch). t.weight) (distinct same_class (flat_map (kept c.as_slice.result.now c.as_slice-2.result.now) (touched_by table c.args.block.now)))) e
    ∙ touched_cost list c.args.block.now c.as_slice.result.now c.as_slice-2.result.now
    (subst (λ (table : List Touches). AreMarked makes_number table c.args.block.now c.as_slice.result.now) e made)
    (subst (λ (table : List Touches). AreMarked frees_number table c.args.block.now c.as_slice-2.result.now) e freed)
