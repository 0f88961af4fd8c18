use Rattle.std.proofs.Common.{◌≡◌, ◌∙◌, ap, rules, subst}
use Rattle.std.specs.Io.KnownBytes.{Appends}
use Rattle.arr_io.specs.Taken.{AppendsPart}
use Rattle.arr_rewrite.specs.NormalForm.{normal_form}
use Rattle.arr_run.specs.Demo.{summary_of, summary_text}
use Rattle.arr_run.proofs.Flushing.{moved_rises}
use Rattle.arr_run.proofs.Sums.{summary_is}
use Rattle.arr_run.proofs.demo.sum_flush.Goals as goal

pub returns-in-Ok-write_all-clause-wrote : goal.returns-in-Ok-write_all-clause-wrote
returns-in-Ok-write_all-clause-wrote g c =
    let p = c.in-Ok.prepared.planned in
    let text : c.deref.result.now ≡ summary_text (summary_of c.args.number c.args.ops.now p) =
    c.deref.ensures.value ∙ c.in-Ok-summary_line.ensures
    ∙ ap summary_text (summary_is _ (summary_of c.args.number c.args.ops.now p) (search rules) (search rules) (search rules) (search rules) c.in-Ok.ensures.prepared.cost (search rules) (search rules) (search rules) (search rules) (search rules)) in
    record {
      planned = (p, c.in-Ok.ensures.prepared.planned);
      wrote = subst (Appends (g.K.Sink.written c.args.sink.now) (g.K.Sink.written c.write_all.new.sink)) text c.in-Ok-write_all.ensures.all;
      counts = moved_rises (normal_form c.args.ops.now) p.plan c.args.store.now c.sum_prepared.new.store (search rules);
    }

pub returns-clause-cut : goal.returns-clause-cut
returns-clause-cut g c = λ is.
    let p = c.in-Ok.prepared.planned in
    let text : c.deref.result.now ≡ summary_text (summary_of c.args.number c.args.ops.now p) =
    c.deref.ensures.value ∙ c.in-Ok-summary_line.ensures
    ∙ ap summary_text (summary_is _ (summary_of c.args.number c.args.ops.now p) (search rules) (search rules) (search rules) (search rules) c.in-Ok.ensures.prepared.cost (search rules) (search rules) (search rules) (search rules) (search rules)) in
    record {
      planned = (p, c.in-Ok.ensures.prepared.planned);
      wrote = subst (AppendsPart (g.K.Sink.written c.args.sink.now) (g.K.Sink.written c.write_all.new.sink)) text c.in-Err.ensures.part;
    }
