use Rattle.std.proofs.Common.{◌≡◌, ℕ, Some, sym, subst}
use Rattle.arr_ops.specs.declared.op.Op.{Op}
use Rattle.arr_io.proofs.Buffered.{front_begins, front_ends, front_turns}
use Rattle.arr_listing.specs.Shown.{Shows}
use Rattle.arr_store.specs.Slots.{slots_of}
use Rattle.arr_run.specs.Shown.{slot_text}
use Rattle.arr_run.proofs.Writes.{pieces_end, pieces_turn}
use Rattle.arr_run.proofs.flush.put_slots.Goals as goal

pub loop-op-init : goal.loop-op-init
loop-op-init g c = front_begins _ _

pub put_slot-requires : goal.put_slot-requires
put_slot-requires g c =
    subst (λ (op : Op). (s : ℕ) → op.slot ≡ Some s → Shows op (slots_of c.args.slots.now s)) (sym c.op-item.is) (c.requires c.loop-op.op-index c.op-item.result c.loop-op-test.true)

pub loop-op-preserved : goal.loop-op-preserved
loop-op-preserved g c = front_turns c.loop-op.invariant c.put_slot.ensures (pieces_turn (slot_text (slots_of c.args.slots.now)) c.args.ops.now c.loop-op.op-index c.op-item.result c.loop-op-test.true c.op-item.is)

pub returns : goal.returns
returns g c = front_ends c.loop-op.invariant (pieces_end (slot_text (slots_of c.args.slots.now)) c.args.ops.now c.loop-op.op-index c.loop-op-test.false)
