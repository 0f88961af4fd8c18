use Rattle.std.proofs.Common.{◌≡◌, ◌+◌, ◌*◌, ◌<◌, ◌≤◌, ℕ, length, get_or}
use Rattle.arr_ops.specs.declared.op.Op.{Op}
use Rattle.arr_machine.specs.Kept.{kept_from}
use Rattle.arr_machine.specs.Tasks.{IsTask}
use Rattle.arr_machine.specs.declared.task.Task.{Task}
use Rattle.arr_contract.proofs.tasks.tasks_of.Given as goal

abbrev pub invariant-loop-index : goal.invariant-loop-index
invariant-loop-index l =
    record {
      kept : l.kept ≡ kept_from l.ops l.index;
      few : l.kept ≤ 768 + l.index * 2097152;
      long : length l.tasks.items ≡ l.index;
      each : (k : ℕ) (op : Op) (task : Task) → k < l.index → op ≡ get_or l.ops k op → task ≡ get_or l.tasks.items k task → IsTask l.ops l.room l.lanes k op task;
    }
