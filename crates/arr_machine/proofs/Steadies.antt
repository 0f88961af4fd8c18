-- Tasks stay those of a block while lanes change.
use Rattle.std.proofs.Common.{ℕ, List, Option, Some, None, refl, ap, ◌∙◌}
use Rattle.arr_num.specs.declared.elem.Elem.{Elem}
use Rattle.arr_ops.specs.declared.op.Op.{Op}
use Rattle.arr_ops.specs.declared.op.Operand.{Operand}
use Rattle.arr_ops.specs.declared.op.Operand.TheVariants.{Array, Number}
use Rattle.arr_store.specs.declared.buffer.Buffer.{Buffer}
use Rattle.arr_strips.specs.Registers.{number_in, register_views}
use Rattle.arr_lanes.specs.declared.line.Work.{Work}
use Rattle.arr_lanes.specs.declared.line.Line.{Line}
use Rattle.arr_lanes.specs.declared.line.Work.TheVariants.{Arithmetic, Comparison, Power, Conversion, Positions}
use Rattle.arr_lanes.specs.Lanes.{lane_number}
use Rattle.arr_machine.specs.declared.task.Task.{Task}
use Rattle.arr_machine.specs.declared.task.Task.TheVariants.{Line as line_task, Link, Scan, Fold, Show, Nothing}
use Rattle.arr_machine.specs.Tasks.{AreTasks, IsLine, IsTask, Stands, Steady, TypedLanes, WorkOf}

pub steady_none : (ops : List Op) (room : ℕ) (lanes : List Buffer) → Steady ops room lanes lanes
steady_none ops room lanes = record { long = refl; types = λ t r h. h; constants = λ r l. refl }

pub steady_more : (ops : List Op) (room : ℕ) (old now new : List Buffer) → Steady ops room old now → Steady ops room now new → Steady ops room old new
steady_more ops room old now new a b = record { long = b.long ∙ a.long; types = λ t r h. b.types t r (a.types t r h); constants = λ r l. b.constants r l ∙ a.constants r l }

module _ (ops : List Op) (room : ℕ) (old new : List Buffer) (s : Steady ops room old new) where
  pub typed_steady : TypedLanes ops room old → TypedLanes ops room new
  typed_steady typed v on = s.types _ (number_in (register_views ops) v) (typed v on)

  stands_steady : (t : Elem) (o : Option Operand) (lane : ℕ) → Stands ops room old t o lane → Stands ops room new t o lane
  stands_steady t None lane h = s.types t lane h
  stands_steady t (Some (Number z)) lane h = record { behind = h.behind; there = s.types t lane h.there; each = λ i u. ap (λ o. lane_number o i) (s.constants lane h.behind) ∙ h.each i u }
  stands_steady t (Some (Array v)) lane h = h

  work_steady : (op : Op) (w : Work) → WorkOf ops room old op w → WorkOf ops room new op w
  work_steady op (Arithmetic code first second) h = (h.0, (h.1.0, (stands_steady op.from op.first first h.1.1.0, stands_steady op.from op.second second h.1.1.1)))
  work_steady op (Comparison code from first second) h = (h.0, (h.1.0, (h.1.1.0, (stands_steady op.from op.first first h.1.1.1.0, stands_steady op.from op.second second h.1.1.1.1))))
  work_steady op (Power first exponent) h = (h.0, (h.1.0, stands_steady op.from op.first first h.1.1))
  work_steady op (Conversion from first) h = (h.0, (h.1.0, stands_steady op.from op.first first h.1.1))
  work_steady op Positions h = h

  line_steady : (op : Op) (line : Line) → IsLine ops room old op line → IsLine ops room new op line
  line_steady op line h = (h.0, (work_steady op line.work h.1.0, h.1.1))

  pub task_steady : (k : ℕ) (op : Op) (task : Task) → IsTask ops room old k op task → IsTask ops room new k op task
  task_steady k op (line_task line) h = line_steady op line h
  task_steady k op (Link line) h = (line_steady op line h.0, h.1)
  task_steady k op (Scan along dest) h = h
  task_steady k op (Fold along) h = h
  task_steady k op (Show slot lane) h = (h.0, (h.1.0, stands_steady op.from op.first lane h.1.1))
  task_steady k op Nothing h = h

  pub tasks_steady : (tasks : List Task) → AreTasks ops room old tasks → AreTasks ops room new tasks
  tasks_steady tasks a = record { long = a.long; each = λ k op task l e f. task_steady k op task (a.each k op task l e f) }
