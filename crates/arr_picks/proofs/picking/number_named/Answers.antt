use Rattle.std.proofs.Common.{◌≡◌, ◌∙◌, ap, sym, arith, length, get_or}
use Rattle.arr_ops.proofs.Parts.{length-elements}
use Rattle.arr_view.specs.Views.{elements, positions}
use Rattle.arr_picks.proofs.Named.{below_at, named_at}
use Rattle.arr_picks.proofs.picking.number_named.Goals as goal

pub bounds-numbers-element_at : goal.bounds-numbers-element_at
bounds-numbers-element_at g c =
    let view = c.args.view.now in
    let long : length (elements view) ≡ positions view.lengths = length-elements view c.element_at.ensures.lawful in
    let inside = below_at (length c.args.numbers.now) (elements view) c.position-position.result c.requires.inside (omega (arith, c.requires.count, c.position-position.ensures.below)) in
    let is = c.element_at.ensures.value in
    omega arith

pub returns : goal.returns
returns g c =
    let view = c.args.view.now in
    let ns = c.args.numbers.now in
    let x = c.index-numbers-element_at.result in
    let long : length (elements view) ≡ c.args.count = length-elements view c.element_at.ensures.lawful ∙ sym c.requires.count in
    let k = c.position-position.result in
    let there = below_at (length ns) (elements view) k c.requires.inside (omega (arith, c.position-position.ensures.below)) in
    ap g.T.Native.number c.itself.ensures.same
    ∙ named_at g.T.Native.number ns (elements view) c.args.count k (g.I.Native.number c.args.index) x long c.position-position.ensures.value c.position-position.ensures.below there
    (c.index-numbers-element_at.is ∙ ap (λ e. get_or ns e x) c.element_at.ensures.value)
