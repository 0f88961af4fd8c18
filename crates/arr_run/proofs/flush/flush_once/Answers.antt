use Rattle.std.proofs.Common.{◌≡◌, inr}
use Rattle.arr_store.specs.Stored.{memory_of}
use Rattle.arr_ops.specs.Memory.{eager, without_slots}
use Rattle.arr_run.specs.declared.flush.RunFault.TheVariants.{WriteFault, NoMemory}
use Rattle.arr_rewrite.specs.NormalForm.{normal_form}
use Rattle.arr_run.specs.Flushes.{flush_segment}
use Rattle.arr_run.specs.Pieces.{plan_rise}
use Rattle.arr_run.proofs.Flushing.{all_ok, cut_arrays, cut_head, front_fault, moved_rises, part_err, part_fault, ran_fault, same_err}
use Rattle.arr_run.proofs.Writes.{front_of_second}
use Rattle.arr_run.proofs.flush.flush_once.Goals as goal

pub returns-in-Err-clause-broke : goal.returns-in-Err-clause-broke
returns-in-Err-clause-broke g c = λ is.
    let p = c.in-Ok.prepared.planned in
    let segment = flush_segment c.args.choice c.args.number (memory_of c.args.store.now) c.args.ops.now p in
    inr (
      (p, c.in-Ok.ensures.prepared.planned),
      front_of_second (g.K.Sink.written c.args.sink.now) (g.K.Sink.written c.write_head.new.sink) (g.K.Sink.written c.run_prepared.new.sink) segment.head segment.arrays
          (all_ok c.write_head.result _ c.in-Ok-write_head.is c.write_head.ensures.all) (front_fault c.in-Err.fault _ _ segment.arrays (same_err c.in-Err.fault NoMemory is) c.in-Err.ensures.wrote),
    )

pub returns-in-Err-clause-stopped : goal.returns-in-Err-clause-stopped
returns-in-Err-clause-stopped g c = λ is.
    let p = c.in-Ok.prepared.planned in
    let segment = flush_segment c.args.choice c.args.number (memory_of c.args.store.now) c.args.ops.now p in
    let fault : c.in-Err.fault ≡ WriteFault = same_err c.in-Err.fault WriteFault is in
    record {
      planned = (p, c.in-Ok.ensures.prepared.planned);
      cut = cut_arrays segment (plan_rise (normal_form c.args.ops.now) p.plan) (without_slots (eager (memory_of c.args.store.now) c.args.ops.now)) (g.K.Sink.written c.args.sink.now) (g.K.Sink.written c.write_head.new.sink) (g.K.Sink.written c.run_prepared.new.sink) c.args.store.now
          c.run_prepared.new.store (all_ok c.write_head.result _ c.in-Ok-write_head.is c.write_head.ensures.all) (part_fault c.in-Err.fault _ _ segment.arrays fault c.in-Err.ensures.wrote) (ran_fault c.in-Err.fault fault c.in-Err.ensures.memory)
          (moved_rises (normal_form c.args.ops.now) p.plan c.args.store.now c.run_prepared.new.store (ran_fault c.in-Err.fault fault c.in-Err.ensures.moved));
    }

pub returns-in_default-write_head-clause-stopped : goal.returns-in_default-write_head-clause-stopped
returns-in_default-write_head-clause-stopped g c = λ is.
    let p = c.in-Ok.prepared.planned in
    let segment = flush_segment c.args.choice c.args.number (memory_of c.args.store.now) c.args.ops.now p in
    record {
      planned = (p, c.in-Ok.ensures.prepared.planned);
      cut = cut_head segment (plan_rise (normal_form c.args.ops.now) p.plan) (without_slots (eager (memory_of c.args.store.now) c.args.ops.now)) (g.K.Sink.written c.args.sink.now) (g.K.Sink.written c.write_head.new.sink) c.args.store.now
          (part_err c.write_head.result _ c.in_default-write_head.is c.write_head.ensures.part);
    }
