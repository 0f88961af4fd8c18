use Rattle.std.proofs.Common.{◌≡◌, ◌∙◌, length, ap, arith}
use Rattle.arr_elab.specs.Recording.{is_recording}
use Rattle.arr_elab.proofs.Recorded.{recorded}
use Rattle.arr_record.specs.Parts.{parts_of}
use Rattle.arr_record.proofs.Few.{few_parts}
use Rattle.arr_run.specs.Answers.{IsAccepted, start}
use Rattle.arr_tokens.specs.Tokens.{place_behind}
use Rattle.arr_syntax.proofs.Weighed.{script_weighs}
use Rattle.arr_run.proofs.Given.{refuses_length}
use Rattle.arr_run.proofs.script.parts_of_text.Goals as goal

pub returns-then-bytes-gt-MOST_BYTES-clause-refused : goal.returns-then-bytes-gt-MOST_BYTES-clause-refused
returns-then-bytes-gt-MOST_BYTES-clause-refused c =
    refuses_length c.args.bytes.now c.place_behind-at.result (c.place_behind-at.ensures.what ∙ ap (place_behind start) c.split_at.ensures.front) (omega arith)

pub parts-requires : goal.parts-requires
parts-requires c =
    let a : IsAccepted c.args.bytes.now c.in-Ok.steps.items = c.in-Ok.ensures.steps in
    record { recording = ap is_recording c.deref.ensures.value ∙ recorded a.statements c.in-Ok.steps.items a.accepts }

pub returns-in-Ok-parts-clause-few : goal.returns-in-Ok-parts-clause-few
returns-in-Ok-parts-clause-few c =
    let parts = c.in-Ok-parts.parts.items in
    let steps = c.in-Ok.steps.items in
    let a : IsAccepted c.args.bytes.now steps = c.in-Ok.ensures.steps in
    let same : length parts ≡ length (parts_of steps) = ap length (c.in-Ok-parts.ensures.parts ∙ ap parts_of c.deref.ensures.value) in
    let few = few_parts (length c.args.bytes.now) a.statements steps a.short (script_weighs c.args.bytes.now a.statements a.reads.script) a.accepts in
    omega arith
