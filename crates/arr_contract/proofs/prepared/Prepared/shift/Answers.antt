use Rattle.std.proofs.Common.{◌≡◌, ◌∙◌, ap, sym, true}
use Rattle.std.specs.List.{list_any}
use Rattle.std.proofs.lemmas.Bool.{true≢false}
use Rattle.arr_ops.specs.Ops.{serial}
use Rattle.arr_contract.specs.Prepared.{PreparedBlock}
use Rattle.arr_contract.proofs.KeptNumbers.{lane_kept}
use Rattle.arr_contract.proofs.prepared.Prepared.shift.Goals as goal

pub invariant_of-self : goal.invariant_of-self
invariant_of-self c =
    let inv = c.self.invariant in
    let view : c.self.inside.ops.items ≡ c.args.self.now.ops = ap (λ (v : PreparedBlock). v.ops) c.self.view_is in
    let some : c.self.inside.is_serial ≡ true = inv.5 ∙ ap (list_any serial) view ∙ c.requires.serial in
    let lane = inv.9 some in (
      inv.0,
      inv.1,
      inv.2,
      inv.3,
      inv.4,
      inv.5,
      inv.6,
      (λ no. absurd (true≢false (sym some ∙ no))),
      inv.8,
      (λ yes. record { some = lane.some; lane = λ op e. lane_kept op.to c.self.inside.machine.room c.self.inside.machine.lanes.items c.index_mut.result.now c.shift.new.lane (lane.lane op e) c.index_mut.ensures.value c.shift.ensures.elem c.shift.ensures.length }),
    )
