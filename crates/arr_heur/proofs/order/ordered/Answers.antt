use Rattle.std.proofs.Common.{◌≡◌, ◌∙◌, ◌<◌, ◌++◌, ◌∷◌, Vec, Global, ℕ, List, [], Some, None, arith, length, map, not, ap, sym}
use Rattle.std.specs.List.{filter}
use Rattle.std.proofs.lemmas.Bool.{ltb-true}
use Rattle.std.proofs.lemmas.List.{length-map}
use Rattle.std.proofs.lemmas.List.Elements.{All-push, All-same}
use Rattle.arr_ops.specs.Order.{first_block, is_ready, same_block}
use Rattle.arr_ops.specs.Plans.{numbered}
use Rattle.arr_heur.specs.Partitions.{block_in}
use Rattle.arr_heur.proofs.OrderedBlocks.{order_begins, order_goes_on, order_stops}
use Rattle.arr_heur.proofs.order.ordered.Goals as goal

abbrev pub numbers_in : Vec ℕ Global → List ℕ
numbers_in b = b.items

pub loop-turn-init : goal.loop-turn-init
loop-turn-init c =
    let blocks : List (List ℕ) = map numbers_in c.args.blocks.now in
    let none : length c.new-placed.result.items ≡ 0 = ap length c.new-placed.ensures.items in
    record {
      left_in = c.in_ok-left.ensures.below;
      placed_in = λ k d l. absurd (omega arith);
      same = order_begins c.args.graph.now blocks (length c.args.blocks.now) c.in_ok-left.left.items c.new-placed.result.items (sym (length-map c.args.blocks.now numbers_in)) c.in_ok-left.ensures.value c.new-placed.ensures.items;
    }

pub returns-in-None : goal.returns-in-None
returns-in-None c =
    let blocks : List (List ℕ) = map numbers_in c.args.blocks.now in
    let none : first_block (is_ready (numbered c.args.graph.now) (map (block_in blocks) c.loop-turn.left.items)) (map (block_in blocks) c.loop-turn.left.items) ≡ None =
    ap (λ l. first_block (is_ready (numbered c.args.graph.now) (map (block_in blocks) l)) (map (block_in blocks) l)) (sym c.as_slice.ensures.value) ∙ sym c.in-None.ensures.first in
    sym (sym c.loop-turn.invariant.same ∙ order_stops c.args.graph.now blocks (length c.args.blocks.now) c.loop-turn.turn c.loop-turn.left.items c.loop-turn.placed.items c.loop-turn-test.true none)

pub loop-turn-preserved : goal.loop-turn-preserved
loop-turn-preserved c =
    let blocks : List (List ℕ) = map numbers_in c.args.blocks.now in
    let first : first_block (is_ready (numbered c.args.graph.now) (map (block_in blocks) c.loop-turn.left.items)) (map (block_in blocks) c.loop-turn.left.items) ≡ Some (block_in blocks c.in-Some.place) =
    ap (λ l. first_block (is_ready (numbered c.args.graph.now) (map (block_in blocks) l)) (map (block_in blocks) l)) (sym c.as_slice.ensures.value) ∙ sym c.in-Some.ensures.first in
    record {
      left_in = c.in_ok-left-in-Some.ensures.below;
      placed_in = All-same (λ k. k < length c.args.blocks.now) c.push.new.self.items (c.loop-turn.placed.items ++ c.in-Some.place ∷ []) c.in_ok-push-in-Some.ensures.items
          (All-push (λ k. k < length c.args.blocks.now) c.loop-turn.placed.items c.in-Some.place c.loop-turn.invariant.placed_in (ltb-true c.in-Some.place (length c.args.blocks.now) c.in-Some.ensures.below));
      same = order_goes_on c.args.graph.now blocks (length c.args.blocks.now) c.loop-turn.turn c.loop-turn.left.items c.loop-turn.placed.items c.in_ok-left-in-Some.left.items c.push.new.self.items c.in-Some.place c.loop-turn-test.true first
          c.in_ok-push-in-Some.ensures.items (c.in_ok-left-in-Some.ensures.value ∙ ap (filter (λ other. not (same_block (block_in blocks other) (block_in blocks c.in-Some.place)))) c.as_slice-in-Some.ensures.value)
          ∙ c.loop-turn.invariant.same;
    }
