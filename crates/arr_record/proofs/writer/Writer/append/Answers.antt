use Rattle.std.proofs.Common.{rules, suc, List, [], ◌∷◌, ◌≡◌, ◌<◌, ◌++◌, ap, sym, ◌∙◌, length}
use Rattle.std.specs.Prelude.{unwrap_or}
use Rattle.arr_ops.specs.declared.op.Op.{Op}
use Rattle.arr_ops.specs.Ops.{at_slot}
use Rattle.arr_elab.specs.Steps.{slot_from, slot_count}
use Rattle.arr_record.proofs.Runs.{slot_last}
use Rattle.arr_record.proofs.writer.Writer.append.Goals as goal

pub invariant_of-self-in-Some : goal.invariant_of-self-in-Some
invariant_of-self-in-Some c =
    let waiting : List Op = c.self.inside.waiting.items in
    let op : Op = at_slot c.args.op c.slot_for-slot.result in
    let items : c.push-2.new.self.items ≡ waiting ++ op ∷ [] = c.in_ok-push-3.ensures.items in
    let slot : c.slot_for-slot.result ≡ slot_from (suc (slot_count waiting)) op.code = search rules in
    let few : length c.push-2.new.self.items < 256 = search rules in
    (sym (ap slot_count items ∙ slot_last waiting op slot ∙ ap (λ s. unwrap_or s (slot_count waiting)) c.in-Some.is), few)

pub invariant_of-self-in_default : goal.invariant_of-self-in_default
invariant_of-self-in_default c =
    let waiting : List Op = c.self.inside.waiting.items in
    let op : Op = at_slot c.args.op c.slot_for-slot.result in
    let items : c.push-2.new.self.items ≡ waiting ++ op ∷ [] = c.in_ok-push-3.ensures.items in
    let slot : c.slot_for-slot.result ≡ slot_from (suc (slot_count waiting)) op.code = search rules in
    let few : length c.push-2.new.self.items < 256 = search rules in
    (c.self.invariant.0 ∙ sym (ap slot_count items ∙ slot_last waiting op slot ∙ ap (λ s. unwrap_or s (slot_count waiting)) c.in_default.is), few)
