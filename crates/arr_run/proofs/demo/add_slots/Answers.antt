use Rattle.std.proofs.Common.{◌≡◌, ℕ, Some, sym, subst, arith, take}
use Rattle.arr_ops.specs.declared.op.Op.{Op}
use Rattle.arr_listing.specs.Shown.{Shows}
use Rattle.arr_store.specs.Slots.{slots_of}
use Rattle.arr_run.specs.Summing.{shown_slot, shown_slots}
use Rattle.arr_run.proofs.Sums.{adds_as, adds_more, adds_none, shown_turn, shown_whole}
use Rattle.arr_run.proofs.demo.add_slots.Goals as goal

pub loop-op-init : goal.loop-op-init
loop-op-init c = record { adds = adds_none c.args.totals.now; few = omega arith }

pub add_slot-requires-clause-shows : goal.add_slot-requires-clause-shows
add_slot-requires-clause-shows c =
    subst (λ (op : Op). (s : ℕ) → op.slot ≡ Some s → Shows op (slots_of c.args.slots.now s)) (sym c.op-item.is) (c.requires.shows c.loop-op.op-index c.op-item.result c.loop-op-test.true)

pub loop-op-preserved : goal.loop-op-preserved
loop-op-preserved c =
    let slots = slots_of c.args.slots.now in
    let ops = c.args.ops.now in
    let i = c.loop-op.op-index in
    let x = c.op-item.result in
    record {
      adds = adds_as c.args.totals.now _ _ _ (shown_turn slots ops i x c.loop-op-test.true c.op-item.is) (adds_more c.args.totals.now _ _ (shown_slots slots (take i ops)) (shown_slot slots x) c.loop-op.invariant.adds c.in_ok-add_slot.ensures.adds);
      few = omega (arith, c.loop-op.invariant.few, c.in_ok-add_slot.ensures.few);
    }

pub returns-clause-adds : goal.returns-clause-adds
returns-clause-adds c =
    adds_as c.args.totals.now _ _ _ (shown_whole (slots_of c.args.slots.now) c.args.ops.now c.loop-op.op-index c.loop-op-test.false) c.loop-op.invariant.adds
