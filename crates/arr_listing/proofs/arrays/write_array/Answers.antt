use Rattle.std.proofs.Common.{subst}
use Rattle.arr_store.specs.Slots.{slots_of}
use Rattle.arr_io.specs.Buffered.{Writes}
use Rattle.arr_listing.specs.Shown.{shown_text}
use Rattle.arr_listing.proofs.arrays.write_array.Goals as goal

pub returns-then-fills : goal.returns-then-fills
returns-then-fills g c =
    subst (λ (sink : g.row.K.Denot). Writes g.K.Sink sink c.write_shown.new.sink c.write_shown.result (shown_text (slots_of c.args.slots.now c.args.slot))) c.loop-op.invariant.same
    c.write_shown.ensures
