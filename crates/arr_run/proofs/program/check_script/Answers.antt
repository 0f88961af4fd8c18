use Rattle.std.proofs.Common.{◌≡◌, refl, length, vec_len, arith, rules, subst}
use Rattle.arr_run.specs.Answers.{Refuses}
use Rattle.arr_run.specs.Checking.{Judges}
use Rattle.arr_run.specs.Parts.{ArePartsOf, IfRefused}
use Rattle.arr_run.proofs.Whole.{Told, check_refusal, check_served, check_unread, check_wanting, ended_at, told}
use Rattle.arr_run.proofs.program.check_script.Goals as goal

pub returns-in-Ok-parts_of_text-clause-served : goal.returns-in-Ok-parts_of_text-clause-served
returns-in-Ok-parts_of_text-clause-served g c = λ store.
    let long : vec_len c.in-Ok.bytes ≡ length c.in-Ok.bytes.items = search rules in
    let parts = c.in-Ok-parts_of_text.parts.items in
    let left = g.S.Source.left c.args.script.now in
    let proof = g.C.Source.left c.args.proof.now in
    let old = g.K.Sink.written c.args.sink.now in
    let new = g.K.Sink.written c.judge.new.sink in
    let t : Told left c.in-Ok.bytes.items = told _ _ c.in-Ok.bytes.items c.in-Ok.ensures.front (λ h. c.in-Ok.ensures.whole (omega arith)) in
    let judged : Judges parts proof c.judge.result old new = subst (λ ls. Judges ls proof c.judge.result old new) c.deref-in-Ok-parts_of_text.ensures.value c.judge.ensures.judges in
    check_served left proof c.in-Ok.bytes.items parts c.judge.result old new store t (subst (λ b. ArePartsOf b parts) c.deref.ensures.value c.in-Ok-parts_of_text.ensures.parts) judged

pub returns-in-Err-Refused-clause-served : goal.returns-in-Err-Refused-clause-served
returns-in-Err-Refused-clause-served g c = λ store.
    let long : vec_len c.in-Ok.bytes ≡ length c.in-Ok.bytes.items = search rules in
    let left = g.S.Source.left c.args.script.now in
    let t : Told left c.in-Ok.bytes.items = told _ _ c.in-Ok.bytes.items c.in-Ok.ensures.front (λ h. c.in-Ok.ensures.whole (omega arith)) in
    let why : Refuses c.deref.result.now c.in-Err-Refused.refusal = subst (IfRefused (Refuses c.deref.result.now)) c.in-Err-Refused.field-0-is c.in-Err-Refused.ensures.refused in
    check_refusal left (g.C.Source.left c.args.proof.now) c.in-Ok.bytes.items c.refuse.result c.in-Err-Refused.refusal _ _ store t (subst (λ b. Refuses b c.in-Err-Refused.refusal) c.deref.ensures.value why)
    (ended_at 1 c.refuse.result _ _ _ c.in-Err-Refused.refusal c.refuse.ensures.ended refl)

pub returns-in-Err-NoMemory-clause-served : goal.returns-in-Err-NoMemory-clause-served
returns-in-Err-NoMemory-clause-served g c = λ store. check_wanting (g.S.Source.left c.args.script.now) (g.C.Source.left c.args.proof.now) (g.K.Sink.written c.args.sink.now) store

pub returns-in-Err-ReadFault-clause-served : goal.returns-in-Err-ReadFault-clause-served
returns-in-Err-ReadFault-clause-served g c = λ store. check_unread (g.S.Source.left c.args.script.now) (g.C.Source.left c.args.proof.now) (g.K.Sink.written c.args.sink.now) store

pub returns-clause-served : goal.returns-clause-served
returns-clause-served g c = λ store. check_wanting (g.S.Source.left c.args.script.now) (g.C.Source.left c.args.proof.now) (g.K.Sink.written c.args.sink.now) store
