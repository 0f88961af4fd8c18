use Rattle.std.proofs.Common.{◌≡◌, ◌∙◌, ◌++◌, length, map, ap, sym, subst, arith}
use Rattle.arr_ops.proofs.Parts.{length-elements}
use Rattle.arr_ops.specs.Gathers.{picked}
use Rattle.arr_view.specs.Views.{elements, positions}
use Rattle.arr_view.proofs.Checks.{lawful}
use Rattle.arr_view.proofs.Counting.{some_position}
use Rattle.arr_picks.specs.Picks.{AllBelow, numbers_of}
use Rattle.arr_picks.proofs.picking.picked_by_walk.Goals as goal

pub loop-place-init : goal.loop-place-init
loop-place-init g c =
    let places = c.args.places.now in
    let all : c.into_iter-place-iterator.result ≡ elements places = cc (c.into_iter-place-iterator.ensures.into_iter_gives, c.new-place-items.ensures) in
    let long : length c.into_iter-place-iterator.result ≡ positions places.lengths = ap length all ∙ length-elements places c.positions.ensures.lawful in
    let source = numbers_of (map g.T.Native.number c.args.numbers.now) (elements c.args.view.now) in
    record {
      whole = ap (λ xs. map g.T.Native.number xs ++ picked source (numbers_of (map g.I.Native.number c.args.index.now) c.into_iter-place-iterator.result)) c.in_ok-picked.ensures.items
          ∙ ap (λ es. picked source (numbers_of (map g.I.Native.number c.args.index.now) es)) all;
      there = subst (AllBelow (length c.args.index.now)) (sym all) c.requires.there;
      count = omega (arith, c.in_ok-picked.ensures.len);
      room = c.in_ok-picked.ensures.exact ∙ c.positions.ensures.value;
    }

pub number_named-requires-clause-some : goal.number_named-requires-clause-some
number_named-requires-clause-some g c =
    let some = some_position c.args.view.now.lengths (lawful c.args.view.now c.positions-count.ensures.lawful).lengths in
    omega (arith, c.positions-count.ensures.value)
