use Rattle.std.proofs.Common.{◌≡◌, ◌∙◌, ◌++◌, length, map, ap, sym, subst, arith}
use Rattle.arr_ops.proofs.Parts.{length-elements}
use Rattle.arr_view.specs.Views.{elements, positions}
use Rattle.arr_picks.specs.Picks.{AllBelow, numbers_of}
use Rattle.arr_picks.proofs.picking.in_order.Goals as goal

pub loop-place-init : goal.loop-place-init
loop-place-init g c =
    let view = c.args.view.now in
    let all : c.into_iter-place-iterator.result ≡ elements view = cc (c.into_iter-place-iterator.ensures.into_iter_gives, c.new-place-items.ensures) in
    let long : length c.into_iter-place-iterator.result ≡ positions view.lengths = ap length all ∙ length-elements view c.positions.ensures.lawful in
    let ns = map g.T.Native.number c.args.numbers.now in
    record {
      whole = ap (λ xs. map g.T.Native.number xs ++ numbers_of ns c.into_iter-place-iterator.result) c.in_ok-ordered.ensures.items ∙ ap (numbers_of ns) all;
      there = subst (AllBelow (length c.args.numbers.now)) (sym all) c.requires;
      count = omega (arith, c.in_ok-ordered.ensures.len);
      room = c.in_ok-ordered.ensures.exact ∙ c.positions.ensures.value;
    }
