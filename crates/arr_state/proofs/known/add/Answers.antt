use Rattle.std.proofs.Common.{◌≡◌, true, subst}
use Rattle.arr_law.specs.ProblemOf.{problem_of}
use Rattle.arr_state.specs.Rows.{rows_with}
use Rattle.arr_state.proofs.Keeps.{kept_add}
use Rattle.arr_state.proofs.known.add.Goals as goal

pub returns-clause-kept : goal.returns-clause-kept
returns-clause-kept c =
    kept_add (problem_of c.args.ops.now) c.args.known.now.facts.items c.push.new.self.items c.args.known.now.rows.items c.set_rows.new.rows.items c.args.known.now.closed.items c.args.fact c.requires.kept c.requires.about c.requires.new c.in_ok-push.ensures.items
    (subst (λ n. c.set_rows.new.rows.items ≡ rows_with n c.args.fact true c.args.known.now.rows.items) c.count_of.ensures c.set_rows.ensures)
