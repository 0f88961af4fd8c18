use Rattle.std.proofs.Common.{◌≡◌, ◌∙◌, subst}
use Rattle.arr_demo.specs.Script.{demo_script}
use Rattle.arr_record.specs.Runs.{after_parts}
use Rattle.arr_store.specs.Stored.{memory_of}
use Rattle.arr_run.specs.Parts.{IsMemory}
use Rattle.arr_run.proofs.Sums.{DemoRan, blames_writes, finishes, never_refused, served_demo}
use Rattle.arr_run.proofs.Whole.{demo_wanting, emptied_parts, empty_memory}
use Rattle.arr_run.proofs.program.demo.Goals as goal

pub returns-clause-served : goal.returns-clause-served
returns-clause-served g c = demo_wanting c.args.number (g.K.Sink.written c.args.sink.now) c.args.store.now

pub returns-in_default-clause-served : goal.returns-in_default-clause-served
returns-in_default-clause-served g c = demo_wanting c.args.number (g.K.Sink.written c.args.sink.now) c.args.store.now

pub returns-in-Ok-parts_of_text-clause-served : goal.returns-in-Ok-parts_of_text-clause-served
returns-in-Ok-parts_of_text-clause-served g c =
    let m = memory_of c.args.store.now in
    let text = c.as_bytes-text.result.now in
    let parts = c.in-Ok-parts_of_text.parts.items in
    let old = g.K.Sink.written c.args.sink.now in
    let new = g.K.Sink.written c.sum_all.new.sink in
    let same : c.deref.result.now ≡ parts = c.deref.ensures.value in
    let own : text ≡ demo_script c.args.number = c.as_bytes-text.ensures.value ∙ c.in-Ok.ensures in
    let ran : DemoRan text m parts c.sum_all.result old new c.args.store.now c.sum_all.new.store =
    subst (λ ls. DemoRan text m ls c.sum_all.result old new c.args.store.now c.sum_all.new.store) same
    (record { known = c.sum_all.ensures.known; wrote = c.sum_all.ensures.wrote; memory = c.sum_all.ensures.memory; cut = c.sum_all.ensures.cut; broke = c.sum_all.ensures.broke }) in
    served_demo c.args.number text parts m c.sum_all.result old new c.args.store.now c.sum_all.new.store own c.in-Ok-parts_of_text.ensures.parts (empty_memory c.args.store.now c.requires.empty) ran

pub returns-in-Ok-parts_of_text-clause-emptied : goal.returns-in-Ok-parts_of_text-clause-emptied
returns-in-Ok-parts_of_text-clause-emptied g c = λ done.
    let parts = c.in-Ok-parts_of_text.parts.items in
    let after : memory_of c.sum_all.new.store ≡ after_parts (memory_of c.args.store.now) parts =
    subst (λ ls. memory_of c.sum_all.new.store ≡ after_parts (memory_of c.args.store.now) ls) c.deref.ensures.value (c.sum_all.ensures.memory done) in
    emptied_parts c.as_bytes-text.result.now parts c.args.store.now c.sum_all.new.store (empty_memory c.args.store.now c.requires.empty) c.in-Ok-parts_of_text.ensures.parts after

pub returns-in-Ok-parts_of_text-clause-blames : goal.returns-in-Ok-parts_of_text-clause-blames
returns-in-Ok-parts_of_text-clause-blames g c = λ reads proofs.
    blames_writes c.sum_all.result reads proofs (g.K.Sink.faults c.args.sink.now) (g.K.Sink.faults c.sum_all.new.sink) c.sum_all.ensures.known c.sum_all.ensures.later c.sum_all.ensures.cause

pub returns-in-Ok-parts_of_text-clause-complete : goal.returns-in-Ok-parts_of_text-clause-complete
returns-in-Ok-parts_of_text-clause-complete g c =
    finishes c.sum_all.result (g.K.Sink.faults c.args.sink.now) (g.K.Sink.faults c.sum_all.new.sink) c.sum_all.ensures.known c.sum_all.ensures.cause

pub unreachable-requires : goal.unreachable-requires
unreachable-requires g c =
    let own : c.as_bytes-text.result.now ≡ demo_script c.args.number = c.as_bytes-text.ensures.value ∙ c.in-Ok.ensures in
    never_refused c.args.number c.as_bytes-text.result.now ⊥ own (λ steps a. subst IsMemory c.in-Err-Refused.field-0-is (c.in-Err-Refused.ensures.accepted steps a))
