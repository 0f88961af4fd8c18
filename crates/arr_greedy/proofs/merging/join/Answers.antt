use Rattle.std.proofs.Common.{◌≡◌, ◌<◌, ◌∙◌, [], ℕ, List, length, map, set, ap, ap₂, sym, subst, arith}
use Rattle.std.proofs.lemmas.List.{length-map, map-set}
use Rattle.std.proofs.lemmas.List.Elements.{All-set}
use Rattle.arr_ops.specs.Plans.{numbered}
use Rattle.arr_heur.specs.Planners.{union}
use Rattle.arr_greedy.specs.Blocks.{live, row_at, Keyed}
use Rattle.arr_greedy.proofs.KeyedBlocks.{Joined, joined_rows}
use Rattle.arr_greedy.specs.Standing.{IsPrinted}
use Rattle.arr_greedy.proofs.Printed.{numbers_in, row_is}
use Rattle.arr_greedy.proofs.merging.join.Goals as goal

-- the rows after the join
joined : (c : goal.After-drop-index_mut-4) → Joined c.args.costs.now (map numbers_in c.args.blocks.now.items) (set (set (map numbers_in c.args.blocks.now.items) c.args.left c.in_ok-both.both.numbers.items) c.args.right []) c.args.left c.args.right
joined c =
    let rows : List (List ℕ) = map numbers_in c.args.blocks.now.items in
    let long : length rows ≡ length c.args.blocks.now.items = length-map c.args.blocks.now.items numbers_in in
    let left : c.args.left < length c.args.blocks.now.items = c.requires.left_in in
    let right : c.args.right < length c.args.blocks.now.items = c.requires.right_in in
    let both : c.in_ok-both.both.numbers.items ≡ union (numbered c.args.costs.now) (row_at rows c.args.left) (row_at rows c.args.right) =
    c.in_ok-both.ensures.numbers
    ∙ ap₂ (union (numbered c.args.costs.now))
    (ap numbers_in c.index.ensures ∙ sym (row_is c.args.blocks.now.items c.args.left c.index.result.now left))
    (ap numbers_in c.index-2.ensures ∙ sym (row_is c.args.blocks.now.items c.args.right c.index-2.result.now right)) in
    joined_rows c.args.costs.now rows c.args.left c.args.right c.in_ok-both.both.numbers.items c.requires.keyed (omega arith) (omega arith) c.requires.apart c.requires.some c.requires.left_block c.requires.right_block both c.requires.key

shown : (c : goal.After-drop-index_mut-4) → map numbers_in (set (set c.args.blocks.now.items c.args.left c.in_ok-both.both) c.args.right c.in_ok-none.none) ≡ set (set (map numbers_in c.args.blocks.now.items) c.args.left c.in_ok-both.both.numbers.items) c.args.right []
shown c =
    map-set numbers_in (set c.args.blocks.now.items c.args.left c.in_ok-both.both) c.args.right c.in_ok-none.none
    ∙ ap₂ (λ rs v. set rs c.args.right v) (map-set numbers_in c.args.blocks.now.items c.args.left c.in_ok-both.both) c.in_ok-none.ensures.numbers

pub returns-clause-keyed : goal.returns-clause-keyed
returns-clause-keyed c = subst (λ (rs : List (List ℕ)). Keyed rs) (sym (shown c)) (joined c).keyed

pub returns-clause-blocks : goal.returns-clause-blocks
returns-clause-blocks c = ap live (shown c) ∙ (joined c).blocks

pub returns-clause-printed : goal.returns-clause-printed
returns-clause-printed c =
    All-set (IsPrinted c.args.costs.now) (set c.args.blocks.now.items c.args.left c.in_ok-both.both) c.args.right c.in_ok-none.none c.in_ok-none.ensures.print
    (All-set (IsPrinted c.args.costs.now) c.args.blocks.now.items c.args.left c.in_ok-both.both c.in_ok-both.ensures.print c.requires.printed)
