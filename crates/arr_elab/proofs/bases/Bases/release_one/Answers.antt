use Rattle.std.proofs.Common.{rules, arith, ◌≡◌, ◌-◌, ◌<◌, get_or}
use Rattle.arr_elab.specs.Totals.{live_by}
use Rattle.arr_elab.proofs.Totals.{released}
use Rattle.arr_elab.proofs.bases.Bases.release_one.Goals as goal

pub replace-requires-clause-room : goal.replace-requires-clause-room
replace-requires-clause-room c =
    let old = c.args.self.now in
    let x = c.index.result.now in
    let is : x ≡ get_or old.list c.args.base x = search rules in
    let most = released old.first c.args.base old.list x (x.names - 1) (omega arith) (search rules) is in
    let fits : live_by old.first 0 old.list < 18446744073709551616 = search (rules, c.self.ranges, c.self.invariant) in
    omega (arith, most, fits)
