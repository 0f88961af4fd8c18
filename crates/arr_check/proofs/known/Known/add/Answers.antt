use Rattle.arr_law.specs.ProblemOf.{problem_of}
use Rattle.arr_check.proofs.Marks.{fine_add, turned_ops}
use Rattle.arr_check.proofs.known.Known.add.Goals as goal

pub set_marks-requires-clause-turned : goal.set_marks-requires-clause-turned
set_marks-requires-clause-turned c = turned_ops (problem_of c.args.tables.now) c.args.fact c.requires.ops

pub returns-clause-fine : goal.returns-clause-fine
returns-clause-fine c =
    fine_add (problem_of c.args.tables.now) c.args.self.now.trail.items c.push.new.self.items c.args.self.now.marks.items c.set_marks.new.marks.items c.args.fact
    c.requires.fine c.requires.ops c.requires.new c.in_ok-push.ensures.items c.set_marks.ensures
