-- What tasks say of their lines.
use Rattle.std.proofs.Common.{◌≡◌, ◌⊎◌, inl, inr, ℕ, List, subst}
use Rattle.arr_ops.specs.declared.op.Op.{Op}
use Rattle.arr_store.specs.declared.buffer.Buffer.{Buffer}
use Rattle.arr_lanes.specs.declared.line.Line.{Line}
use Rattle.arr_machine.specs.declared.task.Task.{Task}
use Rattle.arr_machine.specs.declared.task.Task.TheVariants.{Line as line_task, Link}
use Rattle.arr_machine.specs.Tasks.{IsLine, IsTask}

pub line_of : (ops : List Op) (room : ℕ) (lanes : List Buffer) (k : ℕ) (op : Op) (task : Task) (line : Line) → (task ≡ line_task line) ⊎ (task ≡ Link line) → IsTask ops room lanes k op task → IsLine ops room lanes op line
line_of ops room lanes k op task line (inl e) h = subst (IsTask ops room lanes k op) e h
line_of ops room lanes k op task line (inr e) h = (subst (IsTask ops room lanes k op) e h).0
