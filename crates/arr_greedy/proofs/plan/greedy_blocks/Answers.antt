use Rattle.std.proofs.Common.{◌≡◌, ◌<◌, ◌∙◌, ◌+◌, ◌*◌, ℕ, List, None, length, map, replicate, refl, ap, ap₂, sym, subst, rules}
use Rattle.std.specs.Prelude.{nat_lt}
use Rattle.std.specs.List.{All}
use Rattle.std.proofs.lemmas.List.{length-map, length-replicate}
use Rattle.arr_ops.specs.declared.op.Op.{Op}
use Rattle.arr_ops.specs.Formed.{all_pairs}
use Rattle.arr_ops.specs.Plans.{numbered}
use Rattle.arr_heur.specs.Planners.{greedy_within, singles}
use Rattle.arr_cost.proofs.Marking.{written_back}
use Rattle.arr_view.specs.Views.{has}
use Rattle.arr_greedy.specs.Bits.{AreBits, bit}
use Rattle.arr_greedy.specs.Blocks.{live, Keyed}
use Rattle.arr_greedy.specs.Fast.{Told, by_step, flag}
use Rattle.arr_greedy.specs.Start.{deps_at}
use Rattle.arr_greedy.specs.Standing.{AllPriced, ArePrinted, blocks_of}
use Rattle.arr_greedy.proofs.GreedyBlocks.{begun_blocks, begun_keyed, begun_keys, begun_long, begun_told, begun_ways, range_rises}
use Rattle.arr_greedy.proofs.Printed.{numbers_in}
use Rattle.arr_greedy.proofs.plan.greedy_blocks.Goals as goal

pub price_all-requires-clause-blocks_in : goal.price_all-requires-clause-blocks_in
price_all-requires-clause-blocks_in c = ap length c.as_slice-3.ensures.value ∙ sym (length-map c.in_ok-blocks.blocks.items numbers_in) ∙ ap length c.in_ok-blocks.ensures.rows ∙ begun_long c.len-count.result

pub price_all-requires-clause-keyed : goal.price_all-requires-clause-keyed
price_all-requires-clause-keyed c = subst (λ (rows : List (List ℕ)). Keyed rows) (sym (ap (map numbers_in) c.as_slice-3.ensures.value ∙ c.in_ok-blocks.ensures.rows)) (begun_keyed c.len-count.result)

pub price_all-requires-clause-printed : goal.price_all-requires-clause-printed
price_all-requires-clause-printed c = subst (ArePrinted c.args.costs.now) (sym c.as_slice-3.ensures.value) c.in_ok-blocks.ensures.printed

pub price_all-requires-clause-rising : goal.price_all-requires-clause-rising
price_all-requires-clause-rising c = ap (all_pairs nat_lt) (c.as_slice-4.ensures.value ∙ c.in_ok-keys.ensures.value) ∙ range_rises 1 c.len-count.result

pub price_all-requires-clause-ways : goal.price_all-requires-clause-ways
price_all-requires-clause-ways c =
    let w : ℕ = c.len-count.result + 1 in
    begun_ways c.args.graph.now w c.len-count.result c.in_ok-blocks.blocks.items c.in_ok-fuses.fuses.items c.as_slice-4.result.now c.as_slice-6.result.now c.as_slice-7.result.now c.len-count.ensures.value refl c.in_ok-blocks.ensures.rows
    c.in_ok-fuses.ensures.flags
    (subst (λ (rows : List ℕ). AreBits rows w (by_step (deps_at c.args.graph.now) (bit rows w) w)) (sym c.as_slice-6.ensures.value) c.in_ok-reaches.ensures.filled)
    (c.as_slice-4.ensures.value ∙ c.in_ok-keys.ensures.value) (subst (All (λ k. k < w)) (sym c.as_slice-4.ensures.value) c.in_ok-keys.ensures.below)
    (λ z l. ap (λ rows. bit rows w 0 z) c.as_slice-7.ensures.value ∙ c.in_ok-reached.ensures.live z l ∙ ap (λ keys. has keys z) (c.as_slice-2.ensures.value ∙ sym c.as_slice-4.ensures.value))
    (λ x y lx pos ly. ap (λ rows. bit rows w y x) c.as_slice-7.ensures.value ∙ c.in_ok-reached.ensures.turned x y lx pos ly ∙ ap (λ rows. bit rows w x y) (c.as_slice.ensures.value ∙ sym c.as_slice-6.ensures.value))

pub merge_all-requires-clause-ways : goal.merge_all-requires-clause-ways
merge_all-requires-clause-ways c =
    let w : ℕ = c.len-count.result + 1 in
    begun_ways c.args.graph.now w c.len-count.result c.in_ok-blocks.blocks.items c.in_ok-fuses.fuses.items c.in_ok-keys.keys.items c.as_mut_slice-4.result.now c.as_mut_slice-5.result.now c.len-count.ensures.value refl c.in_ok-blocks.ensures.rows
    c.in_ok-fuses.ensures.flags
    (subst (λ (rows : List ℕ). AreBits rows w (by_step (deps_at c.args.graph.now) (bit rows w) w)) (sym c.as_mut_slice-4.ensures.value) c.in_ok-reaches.ensures.filled)
    c.in_ok-keys.ensures.value c.in_ok-keys.ensures.below
    (λ z l. ap (λ rows. bit rows w 0 z) c.as_mut_slice-5.ensures.value ∙ c.in_ok-reached.ensures.live z l ∙ ap (λ keys. has keys z) c.as_slice-2.ensures.value)
    (λ x y lx pos ly. ap (λ rows. bit rows w y x) c.as_mut_slice-5.ensures.value ∙ c.in_ok-reached.ensures.turned x y lx pos ly ∙ ap (λ rows. bit rows w x y) (c.as_slice.ensures.value ∙ sym c.as_mut_slice-4.ensures.value))

pub merge_all-requires-clause-keyed : goal.merge_all-requires-clause-keyed
merge_all-requires-clause-keyed c = subst (λ (rows : List (List ℕ)). Keyed rows) (sym c.in_ok-blocks.ensures.rows) (begun_keyed c.len-count.result)

pub merge_all-requires-clause-blocks_in : goal.merge_all-requires-clause-blocks_in
merge_all-requires-clause-blocks_in c = sym (length-map c.in_ok-blocks.blocks.items numbers_in) ∙ ap length c.in_ok-blocks.ensures.rows ∙ begun_long c.len-count.result

pub merge_all-requires-clause-keys : goal.merge_all-requires-clause-keys
merge_all-requires-clause-keys c = begun_keys c.args.graph.now c.len-count.result c.in_ok-blocks.blocks.items c.in_ok-keys.keys.items c.len-count.ensures.value c.in_ok-blocks.ensures.rows c.in_ok-keys.ensures.value

pub merge_all-requires-clause-told : goal.merge_all-requires-clause-told
merge_all-requires-clause-told c =
    let w : ℕ = c.len-count.result + 1 in
    subst (λ (l : List Op). Told l (blocks_of c.in_ok-blocks.blocks.items) (flag c.as_mut_slice-3.result.now w) (bit c.as_mut_slice-4.result.now w)) (sym c.requires)
    (begun_told c.args.graph.now w c.len-count.result c.in_ok-blocks.blocks.items c.as_mut_slice-3.result.now c.as_mut_slice-4.result.now c.len-count.ensures.value refl c.in_ok-blocks.ensures.rows
    (λ x y lx ly. ap (λ r. flag r w x y) c.as_mut_slice-3.ensures.value ∙ c.in_ok-fuses.ensures.flags x y lx ly)
    (subst (λ (rows : List ℕ). AreBits rows w (by_step (deps_at c.args.graph.now) (bit rows w) w)) (sym c.as_mut_slice-4.ensures.value) c.in_ok-reaches.ensures.filled))

pub merge_all-requires-clause-priced : goal.merge_all-requires-clause-priced
merge_all-requires-clause-priced c =
    let w : ℕ = c.len-count.result + 1 in
    let list : List Op = c.args.costs.now in
    let zeros : c.in_ok-saved.saved.items ≡ replicate ((c.len-count.result + 1) * (c.len-count.result + 1)) 0 = search rules in
    let nones : c.in_ok-bounds.bounds.items ≡ replicate (c.len-count.result + 1) None = search rules in
    let saved_same : c.as_mut_slice-6.result.now ≡ c.price_all.new.saved =
    c.as_mut_slice-6.ensures.value ∙ written_back c.in_ok-saved.saved.items c.price_all.new.saved c.in_ok-saved.saved.len (w * w) (ap length zeros ∙ length-replicate (w * w) 0) c.price_all.ensures.saved_size c.in_ok-saved.ensures.len in
    let bounds_same : c.as_mut_slice-7.result.now ≡ c.price_all.new.bounds =
    c.as_mut_slice-7.ensures.value ∙ written_back c.in_ok-bounds.bounds.items c.price_all.new.bounds c.in_ok-bounds.bounds.len w (ap length nones ∙ length-replicate w None) c.price_all.ensures.bounds_size c.in_ok-bounds.ensures.len in
    subst (λ saved. AllPriced list c.in_ok-blocks.blocks.items c.as_mut_slice-3.result.now c.as_mut_slice-4.result.now c.in_ok-keys.keys.items saved c.as_mut_slice-7.result.now w) (sym saved_same)
    (subst (λ bounds. AllPriced list c.in_ok-blocks.blocks.items c.as_mut_slice-3.result.now c.as_mut_slice-4.result.now c.in_ok-keys.keys.items c.price_all.new.saved bounds w) (sym bounds_same)
    (subst (λ fuses. AllPriced list c.in_ok-blocks.blocks.items fuses c.as_mut_slice-4.result.now c.in_ok-keys.keys.items c.price_all.new.saved c.price_all.new.bounds w) (c.as_slice-5.ensures.value ∙ sym c.as_mut_slice-3.ensures.value)
    (subst (λ reaches. AllPriced list c.in_ok-blocks.blocks.items c.as_slice-5.result.now reaches c.in_ok-keys.keys.items c.price_all.new.saved c.price_all.new.bounds w) (c.as_slice-6.ensures.value ∙ sym c.as_mut_slice-4.ensures.value)
    (subst (λ blocks. AllPriced list blocks c.as_slice-5.result.now c.as_slice-6.result.now c.in_ok-keys.keys.items c.price_all.new.saved c.price_all.new.bounds w) c.as_slice-3.ensures.value
    (subst (λ keys. AllPriced list c.as_slice-3.result.now c.as_slice-5.result.now c.as_slice-6.result.now keys c.price_all.new.saved c.price_all.new.bounds w) c.as_slice-4.ensures.value
    c.price_all.ensures.priced)))))

pub returns : goal.returns
returns c =
    let list : List Op = c.args.graph.now in
    let begun : blocks_of c.in_ok-blocks.blocks.items ≡ singles (numbered list) = begun_blocks list c.len-count.result c.in_ok-blocks.blocks.items c.len-count.ensures.value c.in_ok-blocks.ensures.rows in
    c.in_ok-left.ensures ∙ ap (λ bs. live (map numbers_in bs)) c.as_slice-8.ensures.value ∙ c.in_ok-merge_all.ensures
    ∙ ap₂ (λ (l : List Op) bs. greedy_within c.len-count.result l bs) c.requires begun
    ∙ ap (λ n. greedy_within n list (singles (numbered list))) c.len-count.ensures.value
