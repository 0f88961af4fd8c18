use Rattle.std.proofs.Common.{arith}
use Rattle.arr_law.specs.Facts.{facts_of}
use Rattle.arr_law.specs.ProblemOf.{problem_of}
use Rattle.arr_state.specs.Went.{IsClash}
use Rattle.arr_state.proofs.Clashes.{word_next}
use Rattle.arr_state.proofs.clash.clash_in_row.Goals as goal

pub loop-i-init : goal.loop-i-init
loop-i-init c = λ g l clash. absurd (omega (arith, l))

pub loop-i-preserved : goal.loop-i-preserved
loop-i-preserved c = word_next {P = λ g. IsClash (facts_of (problem_of c.args.ops.now) c.args.known.now.facts.items) c.args.f g → ⊥} c.loop-i.i c.loop-i.invariant c.in-None.ensures

pub returns : goal.returns
returns c = λ g l. c.loop-i.invariant g (omega (arith, l, c.loop-i-test.false, c.count_of.ensures))
