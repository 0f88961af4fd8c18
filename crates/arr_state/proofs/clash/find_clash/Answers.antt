use Rattle.std.proofs.Common.{ℕ, ◌+◌, ◌≤◌, length, arith}
use Rattle.arr_law.specs.Facts.{facts_of}
use Rattle.arr_law.specs.ProblemOf.{problem_of}
use Rattle.arr_state.specs.Went.{IsClash}
use Rattle.arr_state.proofs.Clashes.{below_next, consistent}
use Rattle.arr_state.proofs.clash.find_clash.Goals as goal

pub loop-f-init : goal.loop-f-init
loop-f-init c = λ f l. absurd (omega (arith, l))

pub loop-f-preserved : goal.loop-f-preserved
loop-f-preserved c = below_next {P = λ f. (g : ℕ) → g ≤ length c.args.ops.now → IsClash (facts_of (problem_of c.args.ops.now) c.args.known.now.facts.items) f g → ⊥} c.loop-f.f c.loop-f.invariant c.in-None.ensures

pub returns : goal.returns
returns c =
    let l : length c.args.ops.now + 1 ≤ c.loop-f.f = omega (arith, c.loop-f-test.false, c.count_of-f-end.ensures) in
    consistent (problem_of c.args.ops.now) c.args.known.now.facts.items c.args.known.now.rows.items c.args.known.now.closed.items c.requires.kept c.loop-f.f l c.loop-f.invariant
