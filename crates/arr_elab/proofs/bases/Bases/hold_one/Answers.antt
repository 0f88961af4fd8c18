use Rattle.std.proofs.Common.{rules, ◌≡◌, get_or}
use Rattle.arr_elab.proofs.Totals.{hold_room}
use Rattle.arr_elab.proofs.bases.Bases.hold_one.Goals as goal

pub replace-requires-clause-room : goal.replace-requires-clause-room
replace-requires-clause-room c =
    let old = c.args.self.now in
    let x = c.index.result.now in
    let is : x ≡ get_or old.list c.args.base x = search rules in
    hold_room old c.args.base x (search rules) is c.requires
