use Rattle.arr_law.specs.ProblemOf.{problem_of}
use Rattle.arr_check.proofs.Grows.{closes}
use Rattle.arr_check.proofs.tree.Tree.close.Goals as goal

pub returns-in_ok-add-in-Some-clause-tree : goal.returns-in_ok-add-in-Some-clause-tree
returns-in_ok-add-in-Some-clause-tree c =
    (closes (problem_of c.args.tables.now) c.args.self.now (record { known = c.add.new.self; waits = c.pop.new.self; whole = c.args.self.now.whole }) c.in-Some.next c.undo_to.new.self.trail.items
    c.requires.tree c.in-Some.ensures.items c.undo_to.ensures.kept c.in_ok-add-in-Some.ensures.is c.in_ok-add-in-Some.ensures.fine c.requires.open).1

pub returns-in_ok-add-in-Some-clause-next : goal.returns-in_ok-add-in-Some-clause-next
returns-in_ok-add-in-Some-clause-next c =
    (closes (problem_of c.args.tables.now) c.args.self.now (record { known = c.add.new.self; waits = c.pop.new.self; whole = c.args.self.now.whole }) c.in-Some.next c.undo_to.new.self.trail.items
    c.requires.tree c.in-Some.ensures.items c.undo_to.ensures.kept c.in_ok-add-in-Some.ensures.is c.in_ok-add-in-Some.ensures.fine c.requires.open).0
