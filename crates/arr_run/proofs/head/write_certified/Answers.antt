use Rattle.arr_rewrite.specs.NormalForm.{normal_form}
use Rattle.arr_run.proofs.Chosen.{certificate_spellable}
use Rattle.arr_run.proofs.Flushing.{all_ok}
use Rattle.arr_run.proofs.Writes.{written_both}
use Rattle.arr_run.proofs.head.write_certified.Goals as goal

pub write_certificate-requires : goal.write_certificate-requires
write_certificate-requires g c = λ certificate is.
    certificate_spellable c.args.choice.fuse (normal_form c.args.ops.now) c.args.number c.args.choice.budget c.args.prepared.now.planned c.requires.prepared.planned.chosen certificate is

pub returns : goal.returns
returns g c =
    written_both (g.K.Sink.written c.args.sink.now) (g.K.Sink.written c.write_planned.new.sink) (g.K.Sink.written c.write_certificate.new.sink) (g.K.Sink.faults c.args.sink.now) (g.K.Sink.faults c.write_planned.new.sink)
    (g.K.Sink.faults c.write_certificate.new.sink) c.write_certificate.result _ _ (all_ok c.write_planned.result _ c.in-Ok.is c.write_planned.ensures.all) c.write_planned.ensures.cause.later c.write_certificate.ensures
