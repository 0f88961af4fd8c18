-- The task of a reduction.
use Rattle.std.proofs.Common.{◌≡◌, ℕ, ◌<◌, List, true, ap, sym, subst, ◌∙◌, ◌||◌, get_or, length}
use Rattle.std.proofs.lemmas.Bool.{false≢true}
use Rattle.arr_num.specs.Kinds.{Kind, Reduction, binds_one, binds_two, counts, folds, is_reduction, kind}
use Rattle.arr_ops.specs.declared.op.Op.{Op}
use Rattle.arr_store.specs.declared.buffer.Buffer.{Buffer}
use Rattle.arr_machine.specs.declared.task.Task.{Task}
use Rattle.arr_machine.specs.declared.task.Task.TheVariants.{Line, Link, Scan, Fold, Show, Nothing}
use Rattle.arr_machine.specs.declared.walk.Machine.{Machine}
use Rattle.arr_machine.specs.Kept.{kept_from}
use Rattle.arr_machine.specs.Machines.{IsMachineOf}
use Rattle.arr_machine.specs.Tasks.{AreTasks, IsTask}
use Rattle.arr_machine.proofs.Blocks.{item_at}

-- an element-wise operation is none
not_both : (k : Kind) → (binds_two k || (binds_one k || counts k)) ≡ true → folds k ≡ true → ⊥
not_both Reduction h e = false≢true h
not_both _ h e = false≢true e

-- a task that folds
abbrev pub Folds : ℕ → Task → Type 0
Folds at (Fold along) = along.kept ≡ at
Folds at _ = ⊥

fold_task : (ops : List Op) (room : ℕ) (lanes : List Buffer) (k : ℕ) (op : Op) (task : Task) → is_reduction op.code ≡ true → IsTask ops room lanes k op task → Folds (kept_from ops k) task
fold_task ops room lanes k op (Line line) red t = not_both (kind op.code) t.0 red
fold_task ops room lanes k op (Link line) red t = not_both (kind op.code) t.0.0 red
fold_task ops room lanes k op (Scan along dest) red t = false≢true (sym (ap folds t.0) ∙ red)
fold_task ops room lanes k op (Fold along) red t = t.1.kept
fold_task ops room lanes k op (Show slot lane) red t = false≢true (sym (ap folds t.0) ∙ red)
fold_task ops room lanes k op Nothing red t = false≢true (sym (ap folds t) ∙ red)

folds_at : (ops : List Op) (room : ℕ) (lanes : List Buffer) (tasks : List Task) (k : ℕ) (task : Task) → AreTasks ops room lanes tasks → k < length ops → task ≡ get_or tasks k task
    → ((op : Op) → op ≡ get_or ops k op → is_reduction op.code ≡ true) → Folds (kept_from ops k) task
folds_at ops room lanes tasks k task are l e red =
    let item : (op : Op) × (op ≡ get_or ops k op) = item_at ops k l in
    fold_task ops room lanes k item.0 task (red item.0 item.1) (are.each k item.0 task l item.1 e)

-- of a machine, by the operations that a contract sees
pub folds_in : (inside now : List Op) (m : Machine) (k : ℕ) (task : Task) → inside ≡ now → IsMachineOf inside m → k < length now → task ≡ get_or m.tasks.items k task
    → ((op : Op) → op ≡ get_or now k op → is_reduction op.code ≡ true) → Folds (kept_from now k) task
folds_in inside now m k task same is l e red =
    subst (λ (os : List Op). Folds (kept_from os k) task) same
    (folds_at inside m.room m.lanes.items m.tasks.items k task is.tasks (subst (λ (os : List Op). k < length os) (sym same) l) e
    (subst (λ (os : List Op). (op : Op) → op ≡ get_or os k op → is_reduction op.code ≡ true) (sym same) red))
