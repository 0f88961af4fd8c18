use Rattle.std.proofs.Common.{◌≡◌, ◌+◌, ◌/◌, ◌++◌, ap, length, subst, sym, arith}
use Rattle.arr_cost.specs.Footprints.{IsFootprint, bases_of}
use Rattle.arr_cost.proofs.Prints.{footprints_join}
use Rattle.arr_cost.proofs.footprints.Footprint.joined.Goals as goal

pub returns : goal.returns
returns c = λ list x y f g.
    let la : length c.args.self.now ≡ length (bases_of list) / 64 + 1 = f.long in
    let lb : length c.args.other.now ≡ length (bases_of list) / 64 + 1 = g.long in
    let long = c.loop-index.invariant.long in
    let sa : length c.self.inside.rows.items ≡ length c.args.self.now = ap length c.self.view_is in
    let sb : length c.other.inside.rows.items ≡ length c.args.other.now = ap length c.other.view_is in
    subst (IsFootprint list (x ++ y)) (sym c.framed.ensures)
    (footprints_join list x y c.args.self.now c.args.other.now c.loop-index.rows.items f g (omega arith) (λ k l. c.loop-index.invariant.rows k (omega arith)))
