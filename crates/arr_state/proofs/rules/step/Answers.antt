use Rattle.std.proofs.Common.{arith}
use Rattle.arr_law.specs.Facts.{facts_of}
use Rattle.arr_law.specs.ProblemOf.{problem_of}
use Rattle.arr_state.proofs.Gives.{given_none}
use Rattle.arr_state.proofs.rules.step.Goals as goal

pub returns-in_default : goal.returns-in_default
returns-in_default c =
    given_none (problem_of c.args.ops.now) (facts_of (problem_of c.args.ops.now) c.args.known.now.facts.items) c.args.rule c.args.f c.args.g c.args.h
    (omega arith) (omega arith) (omega arith) (omega arith) (omega arith) (omega arith) (omega arith)
