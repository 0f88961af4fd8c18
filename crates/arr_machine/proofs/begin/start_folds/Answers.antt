use Rattle.std.proofs.Common.{◌∙◌, refl, arith}
use Rattle.std.proofs.lemmas.List.{get_or_default}
use Rattle.arr_machine.proofs.begin.start_folds.Goals as goal

pub loop-index-init : goal.loop-index-init
loop-index-init c = record { long = refl; kept = c.requires.kept; starts = λ j op u lj ej red q v. absurd (omega arith) }

pub start_task-requires-clause-task : goal.start_task-requires-clause-task
start_task-requires-clause-task c op e =
    c.requires.tasks.each c.loop-index.index op _ (omega (arith, c.requires.tasks.long, c.loop-index-test.true)) e (get_or_default c.args.tasks.now c.loop-index.index _ _ c.loop-index-test.true)

pub loop-index-preserved : goal.loop-index-preserved
loop-index-preserved c =
    record {
      long = c.start_task.ensures.long ∙ c.loop-index.invariant.long;
      kept = c.start_task.ensures.kept;
      starts = c.start_task.ensures.starts;
    }

pub returns-clause-starts : goal.returns-clause-starts
returns-clause-starts c j op lj ej red q v = c.loop-index.invariant.starts j op (omega (arith, c.requires.tasks.long, c.loop-index-test.false)) lj ej red q v
