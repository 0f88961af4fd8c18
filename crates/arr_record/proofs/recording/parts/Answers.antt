use Rattle.std.proofs.Common.{◌≡◌, ◌<◌, ◌^◌, List, get_or, length, sym, ap, ◌∙◌, arith}
use Rattle.std.specs.List.{list_all}
use Rattle.arr_record.specs.declared.part.Part.{Part}
use Rattle.arr_ops.specs.Memory.{empty}
use Rattle.arr_record.specs.Runs.{after_parts, each_fits, is_part, printed_parts}
use Rattle.arr_record.proofs.Following.{along_none, along_more, all_written, ready}
use Rattle.arr_record.proofs.Walk.{recording, all_parts}
use Rattle.arr_record.proofs.recording.parts.Goals as goal

pub loop-step-init : goal.loop-step-init
loop-step-init c = along_none c.args.steps.now c.new-writer.result c.new-owners.result c.requires.recording c.new-writer.ensures c.new-owners.ensures.owned c.new-owners.ensures.made

pub follow-requires : goal.follow-requires
follow-requires c =
    ready c.args.steps.now c.loop-step.step-index c.loop-step.writer c.loop-step.owners c.step-item.result c.loop-step.invariant (omega arith) (sym c.step-item.is) (omega arith)

pub loop-step-preserved : goal.loop-step-preserved
loop-step-preserved c =
    let below : c.loop-step.step-index < length c.args.steps.now = omega arith in
    let here : get_or c.args.steps.now c.loop-step.step-index c.step-item.result ≡ c.step-item.result = sym c.step-item.is in
    let small : c.loop-step.step-index < 2 ^ 63 = omega arith in
    along_more c.args.steps.now c.loop-step.step-index c.loop-step.writer c.loop-step.owners c.step-item.result c.loop-step.invariant below here
    c.follow.new.writer c.follow.new.owners small
    (c.in_ok-follow.ensures (ready c.args.steps.now c.loop-step.step-index c.loop-step.writer c.loop-step.owners c.step-item.result c.loop-step.invariant below here small))

pub returns-clause-parts : goal.returns-clause-parts
returns-clause-parts c =
    c.into_parts.ensures
    ∙ all_written c.args.steps.now c.loop-step.step-index c.loop-step.writer c.free_loose.new.writer c.cut.new.self c.loop-step.owners c.release_all.new.self c.loop-step.invariant (omega arith)
    c.in_ok-release_all.ensures c.in_ok-free_loose.ensures.freed c.in_ok-cut.ensures

pub returns-clause-formed : goal.returns-clause-formed
returns-clause-formed c = ap (list_all is_part) (returns-clause-parts c) ∙ all_parts c.args.steps.now c.requires.recording

pub returns-clause-fitting : goal.returns-clause-fitting
returns-clause-fitting c = ap (each_fits empty) (returns-clause-parts c) ∙ (recording c.args.steps.now c.requires.recording).fitting

pub returns-clause-prints : goal.returns-clause-prints
returns-clause-prints c = ap (printed_parts empty) (returns-clause-parts c) ∙ (recording c.args.steps.now c.requires.recording).prints

pub returns-clause-emptied : goal.returns-clause-emptied
returns-clause-emptied c =
    λ b. ap (λ (parts : List Part). (after_parts empty parts).bases b) (returns-clause-parts c) ∙ (recording c.args.steps.now c.requires.recording).emptied b
