use Rattle.std.proofs.Common.{◌∙◌, ap, sym, subst}
use Rattle.arr_record.specs.declared.part.Part.{Part}
use Rattle.arr_record.specs.declared.part.Part.TheVariants.{Flush}
use Rattle.arr_store.specs.Stored.{memory_of}
use Rattle.arr_run.specs.Parts.{PartBroke}
use Rattle.arr_run.proofs.parts.run_part.Goals as goal

pub returns-in-Flush-clause-broke : goal.returns-in-Flush-clause-broke
returns-in-Flush-clause-broke g c = λ e.
    subst (λ (x : Part). PartBroke c.args.choice c.args.number (memory_of c.args.store.now) x (g.K.Sink.written c.args.sink.now) (g.K.Sink.written c.run_flush.new.sink)) (ap Flush c.list.ensures ∙ sym c.in-Flush.is) (c.run_flush.ensures.broke e)
