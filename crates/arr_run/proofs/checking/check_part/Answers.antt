use Rattle.std.proofs.Common.{◌≡◌, ◌∷◌, arith, Err, rules, subst, sym}
use Rattle.arr_record.specs.declared.part.Part.{Part}
use Rattle.arr_record.specs.declared.part.Part.TheVariants.{Flush}
use Rattle.arr_cert.specs.Proofs.{unread}
use Rattle.arr_run.specs.Checking.{Checking, Checks}
use Rattle.arr_run.proofs.Judging.{accepted_list, stopped_list}
use Rattle.arr_run.proofs.checking.check_part.Goals as goal

pub returns-in_err-check_list-in-Flush-clause-checks : goal.returns-in_err-check_list-in-Flush-clause-checks
returns-in_err-check_list-in-Flush-clause-checks g c = λ parts left u before s.
    let e = c.in_err-check_list-in-Flush.field-0.0 in
    let v = unread g.C.Source c.args.reader.now c.args.proof.now in
    let w = unread g.C.Source c.check_list.new.reader c.check_list.new.proof in
    let old = g.K.Sink.written c.args.sink.now in
    let new = g.K.Sink.written c.check_list.new.sink in
    let returned : c.from_residual.result ≡ Err e = search rules in
    let own : Checking parts (Flush c.list.result.now ∷ left) c.args.number u v before old = subst (λ (x : Part). Checking parts (x ∷ left) c.args.number u v before old) (search rules) s in
    subst (λ r. Checks parts left u w before new r) (sym returned)
    (stopped_list parts left c.list.result.now c.args.number u v w before old new e own c.in_err-check_list-in-Flush.ensures.judged)

pub returns-in_ok-check_list-in-Flush-clause-checks : goal.returns-in_ok-check_list-in-Flush-clause-checks
returns-in_ok-check_list-in-Flush-clause-checks g c = λ parts left u before s.
    let v = unread g.C.Source c.args.reader.now c.args.proof.now in
    let w = unread g.C.Source c.check_list.new.reader c.check_list.new.proof in
    let old = g.K.Sink.written c.args.sink.now in
    let new = g.K.Sink.written c.check_list.new.sink in
    let j = c.in_ok-check_list-in-Flush.ensures.judged in
    let own : Checking parts (Flush c.list.result.now ∷ left) c.args.number u v before old = subst (λ (x : Part). Checking parts (x ∷ left) c.args.number u v before old) (search rules) s in
    let more = accepted_list parts left c.list.result.now c.args.number j.0 j.1 u v w before old new own j.2 j.3 in
    subst (λ n. Checking parts left n u w before new) (omega arith) more
