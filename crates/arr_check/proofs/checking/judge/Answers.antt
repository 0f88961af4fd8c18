use Rattle.std.proofs.Common.{◌≡◌, ℕ, Result, IfOk, false, arith, subst, sym}
use Rattle.arr_law.specs.declared.record.Record.{Record}
use Rattle.arr_law.specs.declared.reject.Reject.{Reject}
use Rattle.arr_law.specs.ProblemOf.{problem_of}
use Rattle.arr_law.specs.Verdict.{AtHead, State, after}
use Rattle.arr_cert.specs.Proofs.{is_over, last_line, unread}
use Rattle.arr_check.specs.declared.stages.Stage.{Stage}
use Rattle.arr_check.specs.Judged.{Fails, Finds}
use Rattle.arr_check.specs.Stages.{IsAt, Turns}
use Rattle.arr_check.specs.Steps.{IsTree}
use Rattle.arr_check.proofs.Judging.{answered_no, answered_none, answered_yes, ready_at, turned}
use Rattle.arr_check.proofs.checking.judge.Goals as goal

pub returns-in-Some-clause-judged : goal.returns-in-Some-clause-judged
returns-in-Some-clause-judged g c =
    let i = c.loop-cost.invariant in
    answered_yes (problem_of c.args.tables.now) c.args.number (unread g.S.Source c.args.reader.now c.args.source.now) (unread g.S.Source c.loop-cost.reader c.loop-cost.source)
    c.loop-cost.stage c.loop-cost.tree i.state c.in-Some.cost c.in-Some.bound i.at c.in-Some.ensures i.leads

pub returns-in-Err-found-clause-judged : goal.returns-in-Err-found-clause-judged
returns-in-Err-found-clause-judged g c =
    let i = c.loop-cost.invariant in
    let P = problem_of c.args.tables.now in
    let u = unread g.S.Source c.args.reader.now c.args.source.now in
    let v = unread g.S.Source c.loop-cost.reader c.loop-cost.source in
    subst (λ (n : ℕ). Fails P c.args.number u AtHead n c.in-Err-found.kind) (sym c.line.ensures)
    (answered_none P c.args.number u v c.loop-cost.stage c.loop-cost.tree i.state (last_line c.next_record.new.reader) c.in-Err-found.kind i.at (ready_at c.loop-cost.stage c.done.result c.in_default.is c.done.ensures) i.leads
    (subst (λ (f : Result Record Reject). Finds g.S.Source c.loop-cost.reader c.next_record.new.reader c.loop-cost.source c.next_record.new.source f) c.in-Err-found.is c.in-Ok.ensures.found))

pub returns-in-Err-next-clause-judged : goal.returns-in-Err-next-clause-judged
returns-in-Err-next-clause-judged g c =
    let i = c.loop-cost.invariant in
    let P = problem_of c.args.tables.now in
    let u = unread g.S.Source c.args.reader.now c.args.source.now in
    let v = unread g.S.Source c.loop-cost.reader c.loop-cost.source in
    let w = unread g.S.Source c.next_record.new.reader c.next_record.new.source in
    subst (λ (n : ℕ). Fails P c.args.number u AtHead n c.in-Err-next.kind) (sym c.line-in-Err-next.ensures)
    (answered_no P c.args.number u v w c.loop-cost.stage c.loop-cost.tree c.read.new.tree i.state (last_line c.next_record.new.reader) c.in-Ok-found.entry c.in-Err-next.kind i.at
    (ready_at c.loop-cost.stage c.done.result c.in_default.is c.done.ensures) i.leads
    (subst (λ (f : Result Record Reject). Finds g.S.Source c.loop-cost.reader c.next_record.new.reader c.loop-cost.source c.next_record.new.source f) c.in-Ok-found.is c.in-Ok.ensures.found)
    (subst (λ (n : Result Stage Reject). (t : State) → IsAt P c.loop-cost.stage c.loop-cost.tree t → Turns P c.args.number t c.read.new.tree c.in-Ok-found.entry n) c.in-Err-next.is c.in-Ok-read.ensures.turns))

pub loop-cost-preserved-in-Ok-next : goal.loop-cost-preserved-in-Ok-next
loop-cost-preserved-in-Ok-next g c =
    let i = c.loop-cost.invariant in
    let P = problem_of c.args.tables.now in
    let u = unread g.S.Source c.args.reader.now c.args.source.now in
    let v = unread g.S.Source c.loop-cost.reader c.loop-cost.source in
    let w = unread g.S.Source c.next_record.new.reader c.next_record.new.source in
    let first = subst (λ (f : Result Record Reject). Finds g.S.Source c.loop-cost.reader c.next_record.new.reader c.loop-cost.source c.next_record.new.source f) c.in-Ok-found.is c.in-Ok.ensures.found in
    let turns = subst (λ (n : Result Stage Reject). (t : State) → IsAt P c.loop-cost.stage c.loop-cost.tree t → Turns P c.args.number t c.read.new.tree c.in-Ok-found.entry n) c.in-Ok-next.is c.in-Ok-read.ensures.turns in
    record {
      state = after P i.state c.in-Ok-found.entry;
      at = (turns i.state i.at).1;
      leads = turned P c.args.number u v w c.loop-cost.stage c.in-Ok-next.next c.loop-cost.tree c.read.new.tree i.state (last_line c.next_record.new.reader) c.in-Ok-found.entry i.at
          (ready_at c.loop-cost.stage c.done.result c.in_default.is c.done.ensures) i.leads first turns;
      tree = subst (λ (n : Result Stage Reject). IfOk n (λ k. IsTree P c.read.new.tree)) c.in-Ok-next.is c.in-Ok-read.ensures.tree;
      going = subst (λ (f : Result Record Reject). IfOk f (λ r. is_over c.next_record.new.reader ≡ false)) c.in-Ok-found.is c.in-Ok.ensures.open;
      met = c.in-Ok.ensures.met;
      later = omega (arith, i.later, c.in-Ok.ensures.later);
    }

pub loop-cost-preserved-in-Ok-next-2 : goal.loop-cost-preserved-in-Ok-next-2
loop-cost-preserved-in-Ok-next-2 g c =
    let i = c.loop-cost.invariant in
    let P = problem_of c.args.tables.now in
    let u = unread g.S.Source c.args.reader.now c.args.source.now in
    let v = unread g.S.Source c.loop-cost.reader c.loop-cost.source in
    let w = unread g.S.Source c.next_record.new.reader c.next_record.new.source in
    let first = subst (λ (f : Result Record Reject). Finds g.S.Source c.loop-cost.reader c.next_record.new.reader c.loop-cost.source c.next_record.new.source f) c.in-Ok-found.is c.in-Ok.ensures.found in
    let turns = subst (λ (n : Result Stage Reject). (t : State) → IsAt P c.loop-cost.stage c.loop-cost.tree t → Turns P c.args.number t c.read.new.tree c.in-Ok-found.entry n) c.in-Ok-next.is c.in-Ok-read.ensures.turns in
    record {
      state = after P i.state c.in-Ok-found.entry;
      at = (turns i.state i.at).1;
      leads = turned P c.args.number u v w c.loop-cost.stage c.in-Ok-next.next c.loop-cost.tree c.read.new.tree i.state (last_line c.next_record.new.reader) c.in-Ok-found.entry i.at
          (ready_at c.loop-cost.stage c.done.result c.in_default.is c.done.ensures) i.leads first turns;
      tree = subst (λ (n : Result Stage Reject). IfOk n (λ k. IsTree P c.read.new.tree)) c.in-Ok-next.is c.in-Ok-read.ensures.tree;
      going = subst (λ (f : Result Record Reject). IfOk f (λ r. is_over c.next_record.new.reader ≡ false)) c.in-Ok-found.is c.in-Ok.ensures.open;
      met = c.in-Ok.ensures.met;
      later = omega (arith, i.later, c.in-Ok.ensures.later);
    }

pub loop-cost-preserved : goal.loop-cost-preserved
loop-cost-preserved g c =
    let i = c.loop-cost.invariant in
    let P = problem_of c.args.tables.now in
    let u = unread g.S.Source c.args.reader.now c.args.source.now in
    let v = unread g.S.Source c.loop-cost.reader c.loop-cost.source in
    let w = unread g.S.Source c.next_record.new.reader c.next_record.new.source in
    let first = subst (λ (f : Result Record Reject). Finds g.S.Source c.loop-cost.reader c.next_record.new.reader c.loop-cost.source c.next_record.new.source f) c.in-Ok-found.is c.in-Ok.ensures.found in
    let turns = subst (λ (n : Result Stage Reject). (t : State) → IsAt P c.loop-cost.stage c.loop-cost.tree t → Turns P c.args.number t c.read.new.tree c.in-Ok-found.entry n) c.in-Ok-next.is c.in-Ok-read.ensures.turns in
    record {
      state = after P i.state c.in-Ok-found.entry;
      at = (turns i.state i.at).1;
      leads = turned P c.args.number u v w c.loop-cost.stage c.in-Ok-next.next c.loop-cost.tree c.read.new.tree i.state (last_line c.next_record.new.reader) c.in-Ok-found.entry i.at
          (ready_at c.loop-cost.stage c.done.result c.in_default.is c.done.ensures) i.leads first turns;
      tree = subst (λ (n : Result Stage Reject). IfOk n (λ k. IsTree P c.read.new.tree)) c.in-Ok-next.is c.in-Ok-read.ensures.tree;
      going = subst (λ (f : Result Record Reject). IfOk f (λ r. is_over c.next_record.new.reader ≡ false)) c.in-Ok-found.is c.in-Ok.ensures.open;
      met = c.in-Ok.ensures.met;
      later = omega (arith, i.later, c.in-Ok.ensures.later);
    }
