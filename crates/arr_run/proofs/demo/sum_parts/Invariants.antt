use Rattle.std.proofs.Common.{◌*◌, ◌^◌, ◌+◌, ◌≤◌, take}
use Rattle.arr_record.specs.Runs.{printed_parts}
use Rattle.arr_store.specs.Stored.{memory_of}
use Rattle.arr_run.specs.Parts.{RisesBy}
use Rattle.arr_run.specs.Summing.{Adds, PartsSummed}
use Rattle.arr_run.proofs.Turns.{Reached}
use Rattle.arr_run.proofs.demo.sum_parts.Given as goal

abbrev pub invariant-loop-part : goal.invariant-loop-part
invariant-loop-part g l =
    let before = memory_of l.initial.store in
    record {
      reached : Reached l.parts l.part-index before (memory_of l.store) l.number;
      wrote : PartsSummed (take l.part-index l.parts) (g.K.Sink.written l.initial.sink) (g.K.Sink.written l.sink) l.initial.store l.store;
      few : l.number ≤ l.part-index + 1;
      counts : RisesBy (l.part-index * 2 ^ 32) l.initial.store l.store;
      adds : Adds l.initial.totals l.totals (printed_parts before (take l.part-index l.parts));
      few_arrays : l.totals.count ≤ l.part-index * 256;
      later : g.K.Sink.faults l.initial.sink ≤ g.K.Sink.faults l.sink;
    }
