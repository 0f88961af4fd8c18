use Rattle.std.proofs.Common.{rules}
use Rattle.arr_store.specs.Slots.{slots_of}
use Rattle.arr_run.proofs.Sums.{adds_slot}
use Rattle.arr_run.proofs.demo.add_slot.Goals as goal

pub total_lines-requires : goal.total_lines-requires
total_lines-requires c = c.requires.shows c.in-Some.slot c.in-Some.is

pub returns-clause-adds : goal.returns-clause-adds
returns-clause-adds c =
    adds_slot c.args.totals.now _ (slots_of c.args.slots.now) c.args.op.now c.in-Some.slot _ c.in_ok-lines.lines.items c.in-Some.is (c.requires.shows c.in-Some.slot c.in-Some.is).is (search rules) c.in_ok-lines.ensures (search rules)
