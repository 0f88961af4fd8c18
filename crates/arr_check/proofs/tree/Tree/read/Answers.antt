use Rattle.std.proofs.Common.{◌∙◌, refl}
use Rattle.arr_law.specs.ProblemOf.{problem_of}
use Rattle.arr_check.proofs.Grows.{grows_add, grows_split}
use Rattle.arr_check.proofs.tree.Tree.read.Goals as goal

pub returns-in_ok-add-in-Add : goal.returns-in_ok-add-in-Add
returns-in_ok-add-in-Add c =
    grows_add (problem_of c.args.tables.now) c.args.version c.args.bound c.args.self.now (record { known = c.add.new.self; waits = c.args.self.now.waits; whole = c.args.self.now.whole }) c.args.entry.now c.in-Add.fact
    c.requires.tree c.requires.open c.in-Add.ensures c.in_ok-add-in-Add.ensures.fine c.in_ok-add-in-Add.ensures.is refl refl

pub returns-in_ok-add-in-Split : goal.returns-in_ok-add-in-Split
returns-in_ok-add-in-Split c =
    grows_split (problem_of c.args.tables.now) c.args.version c.args.bound c.args.self.now (record { known = c.add-in-Split.new.self; waits = c.push.new.self; whole = c.args.self.now.whole }) c.args.entry.now
    c.in-Split.first c.in-Split.second c.len.result c.requires.tree c.requires.open c.in-Split.ensures c.in_ok-add-in-Split.ensures.fine c.in_ok-add-in-Split.ensures.is
    (c.len.ensures ∙ c.args.self.now.known.trail.ok.0) c.in_ok-push-in-Split.ensures.items refl
