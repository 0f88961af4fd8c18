use Rattle.std.proofs.Common.{◌≡◌, ℕ, ◌+◌, ◌-◌, ◌<◌, suc, length, map, ap, sym, subst, ◌∙◌, arith}
use Rattle.std.specs.Prelude.{nat_lt}
use Rattle.std.proofs.lemmas.List.{length-map}
use Rattle.std.specs.List.{All}
use Rattle.arr_ops.specs.Order.{In}
use Rattle.arr_ops.specs.Formed.{all_pairs}
use Rattle.arr_heur.specs.Planners.{greedy_within}
use Rattle.arr_greedy.specs.Blocks.{live}
use Rattle.arr_greedy.specs.Bits.{bit}
use Rattle.arr_greedy.specs.Fast.{amount, flag, next_pair}
use Rattle.arr_greedy.specs.Tables.{Bounded}
use Rattle.arr_greedy.proofs.Carried.{priced_after, saves_of}
use Rattle.arr_greedy.proofs.Fast.{no_turn}
use Rattle.arr_greedy.proofs.Chosen.{Chosen, chosen_now}
use Rattle.arr_greedy.proofs.Turns.{keys_positive, keys_rise, to_kept, turned}
use Rattle.arr_greedy.proofs.Printed.{numbers_in}
use Rattle.arr_greedy.proofs.merging.merge_all.Goals as goal

pub loop-turn-init : goal.loop-turn-init
loop-turn-init c =
    let blocks = live (map numbers_in c.args.blocks.now.items) in
    let e : c.args.count - 0 ≡ c.args.count = omega arith in
    record {
      keyed = c.requires.keyed;
      printed = c.requires.printed;
      blocks_in = c.requires.blocks_in;
      keys_in = c.requires.keys_in;
      fuses_size = c.requires.fuses_size;
      reaches_size = c.requires.reaches_size;
      reached_size = c.requires.reached_size;
      ways = c.requires.ways;
      saved_size = c.requires.saved_size;
      bounds_size = c.requires.bounds_size;
      keys = c.requires.keys;
      kept = to_kept c.args.costs.now blocks (flag c.args.fuses.now c.args.width) (bit c.args.reaches.now c.args.width) c.requires.told;
      priced = c.requires.priced;
      same = ap (λ n. greedy_within n c.args.costs.now blocks) e;
    }

pub next_pair-requires-clause-rising : goal.next_pair-requires-clause-rising
next_pair-requires-clause-rising c =
    let blocks = live (map numbers_in c.loop-turn.blocks.items) in
    ap (all_pairs nat_lt) (c.as_slice.ensures.value ∙ c.loop-turn.invariant.keys) ∙ keys_rise blocks c.loop-turn.invariant.kept.rising

pub returns-in-None : goal.returns-in-None
returns-in-None c =
    let i = c.loop-turn.invariant in
    let blocks = live (map numbers_in c.loop-turn.blocks.items) in
    let F = flag c.loop-turn.fuses c.args.width in
    let R = bit c.loop-turn.reaches c.args.width in
    let V = amount c.loop-turn.saved c.args.width in
    let saves = saves_of c.args.costs.now c.loop-turn.blocks.items c.loop-turn.fuses c.loop-turn.reaches c.loop-turn.keys.items c.loop-turn.saved c.loop-turn.bounds c.args.width i.priced i.keys in
    sym (no_turn c.args.costs.now blocks F R V i.kept saves (ap (next_pair F R V) (sym (c.as_slice.ensures.value ∙ i.keys)) ∙ sym c.in-None.ensures.best) (c.args.count - c.loop-turn.turn))
    ∙ i.same

picked : (c : goal.After-one_turn-arg-in-Some-6-1) → Chosen c.args.costs.now (map numbers_in c.loop-turn.blocks.items) (bit c.loop-turn.reaches c.args.width) c.as_slice.result.now c.in-Some.left c.in-Some.right
picked c =
    let i = c.loop-turn.invariant in
    chosen_now c.args.costs.now (map numbers_in c.loop-turn.blocks.items) (flag c.loop-turn.fuses c.args.width) (bit c.loop-turn.reaches c.args.width) (amount c.loop-turn.saved c.args.width)
    c.as_slice.result.now (length c.loop-turn.blocks.items) c.args.width c.in-Some.left c.in-Some.right i.kept
    (saves_of c.args.costs.now c.loop-turn.blocks.items c.loop-turn.fuses c.loop-turn.reaches c.loop-turn.keys.items c.loop-turn.saved c.loop-turn.bounds c.args.width i.priced i.keys)
    (c.as_slice.ensures.value ∙ i.keys) (sym c.in-Some.ensures.best) i.keyed (length-map c.loop-turn.blocks.items numbers_in) i.blocks_in c.in-Some.ensures.below

pub one_turn-requires-clause-apart : goal.one_turn-requires-clause-apart
one_turn-requires-clause-apart c = (picked c).apart

pub one_turn-requires-clause-some : goal.one_turn-requires-clause-some
one_turn-requires-clause-some c = (picked c).some

pub one_turn-requires-clause-left_block : goal.one_turn-requires-clause-left_block
one_turn-requires-clause-left_block c = (picked c).left_block

pub one_turn-requires-clause-right_block : goal.one_turn-requires-clause-right_block
one_turn-requires-clause-right_block c = (picked c).right_block

pub one_turn-requires-clause-key : goal.one_turn-requires-clause-key
one_turn-requires-clause-key c = (picked c).key

pub one_turn-requires-clause-left_key : goal.one_turn-requires-clause-left_key
one_turn-requires-clause-left_key c = subst (In c.in-Some.left) c.as_slice.ensures.value (picked c).left_key

pub one_turn-requires-clause-right_key : goal.one_turn-requires-clause-right_key
one_turn-requires-clause-right_key c = subst (In c.in-Some.right) c.as_slice.ensures.value (picked c).right_key

pub one_turn-requires-clause-positive : goal.one_turn-requires-clause-positive
one_turn-requires-clause-positive c =
    subst (All (λ k. 0 < k)) (sym c.loop-turn.invariant.keys) (keys_positive c.args.costs.now (live (map numbers_in c.loop-turn.blocks.items)) c.loop-turn.invariant.kept.partition)

pub one_turn-requires-clause-loopless : goal.one_turn-requires-clause-loopless
one_turn-requires-clause-loopless c z i ne = (picked c).loopless z (subst (In z) (sym c.as_slice.ensures.value) i) ne

pub loop-turn-preserved : goal.loop-turn-preserved
loop-turn-preserved c =
    let i = c.loop-turn.invariant in
    let o = c.in_ok-one_turn-in-Some.ensures in
    let list = c.args.costs.now in
    let w : ℕ = c.args.width in
    let x : ℕ = c.in-Some.left in
    let y : ℕ = c.in-Some.right in
    let blocks = live (map numbers_in c.loop-turn.blocks.items) in
    let after = live (map numbers_in c.one_turn.new.blocks.items) in
    let F = flag c.loop-turn.fuses w in
    let R = bit c.loop-turn.reaches w in
    let V = amount c.loop-turn.saved w in
    let saves = saves_of list c.loop-turn.blocks.items c.loop-turn.fuses c.loop-turn.reaches c.loop-turn.keys.items c.loop-turn.saved c.loop-turn.bounds w i.priced i.keys in
    let t = turned list blocks after F R V c.loop-turn.keys.items c.one_turn.new.keys.items w x y (flag c.one_turn.new.fuses w) (bit c.one_turn.new.reaches w)
    i.kept saves i.keys i.keys_in (ap (next_pair F R V) (sym c.as_slice.ensures.value) ∙ sym c.in-Some.ensures.best) o.blocks o.keys o.fuses o.reaches in
    let bounded = subst (λ ks. Bounded c.loop-turn.fuses c.loop-turn.reaches c.loop-turn.saved w c.next_pair.new.bounds ks) c.as_slice.ensures.value c.in-Some.ensures.bounded in
    let less : c.loop-turn.turn < c.args.count = c.loop-turn-test.true in
    let n : ℕ = c.args.count - (c.loop-turn.turn + 1) in
    let e : suc n ≡ c.args.count - c.loop-turn.turn = omega arith in
    record {
      keyed = o.keyed;
      printed = o.printed;
      blocks_in = o.blocks_in;
      keys_in = o.keys_in;
      fuses_size = o.fuses_size;
      reaches_size = o.reaches_size;
      reached_size = o.reached_size;
      ways = o.ways;
      saved_size = o.saved_size;
      bounds_size = o.bounds_size;
      keys = t.keys_are;
      kept = t.kept;
      priced = priced_after list c.loop-turn.blocks.items c.one_turn.new.blocks.items c.loop-turn.fuses c.one_turn.new.fuses c.loop-turn.reaches c.one_turn.new.reaches
          c.loop-turn.keys.items c.one_turn.new.keys.items c.loop-turn.saved c.one_turn.new.saved c.next_pair.new.bounds c.one_turn.new.bounds w x y
          (ap (all_pairs nat_lt) t.keys_are ∙ keys_rise after t.kept.rising) i.keys_in t.first_in t.apart o.keys o.fuses o.reaches t.stays
          (λ p m q. ((i.priced p m q).0, bounded p m q)) o.priced o.stays;
      same = sym (t.goes_on n) ∙ ap (λ m. greedy_within m list blocks) e ∙ i.same;
    }
