use Rattle.std.proofs.Common.{◌≡◌, ℕ, List, ◌∙◌, length, map, refl, subst, sym, ◌<◌, ◌≤◌}
use Rattle.std.proofs.lemmas.List.{length-map}
use Rattle.arr_io.proofs.Buffered.{front_begins, front_ends, front_turns}
use Rattle.arr_listing.proofs.Turns.{blocks_end, blocks_turn, item_mapped}
use Rattle.arr_listing.proofs.plans.put_blocks.Goals as goal

pub loop-index-init : goal.loop-index-init
loop-index-init g c = front_begins _ _

pub loop-index-preserved : goal.loop-index-preserved
loop-index-preserved g c =
    let blocks : List (List ℕ) = map (λ b. b.items) c.args.blocks.now in
    let i = c.loop-index.index in
    let same : length (map (λ b. b.items) c.args.blocks.now) ≡ length c.args.blocks.now = length-map _ _ in
    front_turns c.loop-index.invariant c.put_block.ensures
    (blocks_turn blocks c.args.costs.now i _ _ (subst (λ n. i < n) (sym same) c.loop-index-test.true) (c.requires ∙ sym same)
    (c.deref.ensures.value ∙ item_mapped (λ b. b.items) c.args.blocks.now i c.index-blocks-index.result c.loop-index-test.true c.index-blocks-index.is) refl)

pub returns : goal.returns
returns g c =
    let blocks : List (List ℕ) = map (λ b. b.items) c.args.blocks.now in
    let same : length (map (λ b. b.items) c.args.blocks.now) ≡ length c.args.blocks.now = length-map _ _ in
    front_ends c.loop-index.invariant (blocks_end blocks c.args.costs.now c.loop-index.index (subst (λ n. n ≤ c.loop-index.index) (sym same) c.loop-index-test.false))
