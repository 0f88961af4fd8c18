use Rattle.std.proofs.Common.{◌≡◌, ℕ, List, ◌<◌, not, ap, subst, sym, ◌∙◌}
use Rattle.std.specs.Prelude.{◌==◌}
use Rattle.std.specs.List.{All}
use Rattle.std.proofs.lemmas.Bool.{ne_eqb}
use Rattle.arr_ops.specs.Order.{In}
use Rattle.arr_ops.proofs.Members.{filter_in}
use Rattle.std.proofs.lemmas.List.Elements.{All-filter}
use Rattle.arr_greedy.specs.Bits.{bit}
use Rattle.arr_greedy.specs.Tables.{Onward, ReachesAfter, TellsWays}
use Rattle.arr_greedy.specs.Standing.{ArePriced, PricesStay}
use Rattle.arr_greedy.proofs.Between.{ways_after}
use Rattle.arr_greedy.proofs.merging.one_turn.Goals as goal

reaches_then : (keys slice old new : List ℕ) (w a b : ℕ) → slice ≡ keys → ReachesAfter slice old new w a b → ReachesAfter keys old new w a b
reaches_then keys slice old new w a b e = subst (λ ks. ReachesAfter ks old new w a b) e

-- what reaches leads on backwards
onward_back : (keys slice reaches reached : List ℕ) (w : ℕ) → slice ≡ keys → TellsWays keys reaches reached w → Onward slice (bit reached w)
onward_back keys slice reaches reached w e ways =
    subst (λ ks. Onward ks (bit reached w)) (sym e) (λ x y z ix iy iz p q.
    ways.turned z x iz ix ∙ ways.onward z y x iz iy ix (sym (ways.turned z y iz iy) ∙ q) (sym (ways.turned y x iy ix) ∙ p))

pub reach_rows-requires-clause-onward : goal.reach_rows-requires-clause-onward
reach_rows-requires-clause-onward c = subst (λ ks. Onward ks (bit c.args.reaches.now c.args.width)) (sym c.as_slice.ensures.value) c.requires.ways.onward

pub reach_rows-requires-2-clause-onward : goal.reach_rows-requires-2-clause-onward
reach_rows-requires-2-clause-onward c = onward_back c.args.keys.now.items c.as_slice-2.result.now c.args.reaches.now c.args.reached.now c.args.width c.as_slice-2.ensures.value c.requires.ways

pub returns-in_err-join-clause-reaches : goal.returns-in_err-join-clause-reaches
returns-in_err-join-clause-reaches c = reaches_then c.args.keys.now.items c.as_slice.result.now c.args.reaches.now c.reach_rows.new.rows c.args.width c.args.left c.args.right c.as_slice.ensures.value c.reach_rows.ensures.rows

pub returns-clause-reaches : goal.returns-clause-reaches
returns-clause-reaches c = reaches_then c.args.keys.now.items c.as_slice.result.now c.args.reaches.now c.reach_rows.new.rows c.args.width c.args.left c.args.right c.as_slice.ensures.value c.reach_rows.ensures.rows

pub price_row-requires-clause-keys_in : goal.price_row-requires-clause-keys_in
price_row-requires-clause-keys_in c =
    subst (λ ks. All (λ k. k < c.args.width) ks) (sym (c.as_slice-4.ensures.value ∙ c.drop_key.ensures)) (All-filter (λ k. not (k == c.args.right)) (λ k. k < c.args.width) c.args.keys.now.items c.requires.keys_in)

pub returns-clause-keys_in : goal.returns-clause-keys_in
returns-clause-keys_in c =
    subst (λ ks. All (λ k. k < c.args.width) ks) (sym c.drop_key.ensures) (All-filter (λ k. not (k == c.args.right)) (λ k. k < c.args.width) c.args.keys.now.items c.requires.keys_in)

pub price_row-requires-clause-left_in : goal.price_row-requires-clause-left_in
price_row-requires-clause-left_in c =
    subst (In c.args.left) (sym (c.as_slice-4.ensures.value ∙ c.drop_key.ensures)) (filter_in (λ k. not (k == c.args.right)) c.args.keys.now.items c.args.left c.requires.left_key (ap not (ne_eqb c.args.left c.args.right c.requires.apart)))

pub price_row-requires-clause-ways : goal.price_row-requires-clause-ways
price_row-requires-clause-ways c =
    ways_after c.args.keys.now.items c.as_slice-4.result.now c.args.reaches.now c.args.reached.now c.reach_rows.new.rows c.reach_rows-2.new.rows c.put_bit.new.rows c.args.width c.args.left c.args.right
    c.requires.keys_in c.requires.positive c.requires.left_key c.requires.right_key (c.as_slice-4.ensures.value ∙ c.drop_key.ensures) c.requires.ways c.requires.loopless (reaches_then c.args.keys.now.items c.as_slice.result.now c.args.reaches.now c.reach_rows.new.rows c.args.width c.args.left c.args.right c.as_slice.ensures.value c.reach_rows.ensures.rows) (reaches_then c.args.keys.now.items c.as_slice-2.result.now c.args.reached.now c.reach_rows-2.new.rows c.args.width c.args.left c.args.right c.as_slice-2.ensures.value c.reach_rows-2.ensures.rows)
    c.reach_rows-2.ensures.first c.put_bit.ensures.put

pub returns-clause-ways : goal.returns-clause-ways
returns-clause-ways c =
    ways_after c.args.keys.now.items c.drop_key.new.keys.items c.args.reaches.now c.args.reached.now c.reach_rows.new.rows c.reach_rows-2.new.rows c.put_bit.new.rows c.args.width c.args.left c.args.right
    c.requires.keys_in c.requires.positive c.requires.left_key c.requires.right_key c.drop_key.ensures c.requires.ways c.requires.loopless (reaches_then c.args.keys.now.items c.as_slice.result.now c.args.reaches.now c.reach_rows.new.rows c.args.width c.args.left c.args.right c.as_slice.ensures.value c.reach_rows.ensures.rows) (reaches_then c.args.keys.now.items c.as_slice-2.result.now c.args.reached.now c.reach_rows-2.new.rows c.args.width c.args.left c.args.right c.as_slice-2.ensures.value c.reach_rows-2.ensures.rows)
    c.reach_rows-2.ensures.first c.put_bit.ensures.put

pub returns-clause-priced : goal.returns-clause-priced
returns-clause-priced c =
    subst (λ keys. ArePriced c.args.costs.now c.join.new.blocks.items c.fuse_rows.new.rows c.reach_rows.new.rows keys c.price_row.new.saved c.price_row.new.bounds c.args.width c.args.left 0) c.as_slice-4.ensures.value
    (subst (λ blocks. ArePriced c.args.costs.now blocks c.fuse_rows.new.rows c.reach_rows.new.rows c.as_slice-4.result.now c.price_row.new.saved c.price_row.new.bounds c.args.width c.args.left 0) c.as_slice-3.ensures.value
    c.price_row.ensures.priced)

pub returns-clause-stays : goal.returns-clause-stays
returns-clause-stays c =
    subst (λ blocks. PricesStay c.args.costs.now blocks c.fuse_rows.new.rows c.reach_rows.new.rows c.args.saved.now c.args.bounds.now c.price_row.new.saved c.price_row.new.bounds c.args.width) c.as_slice-3.ensures.value c.price_row.ensures.stays
