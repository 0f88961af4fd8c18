use Rattle.std.proofs.Common.{◌≤◌, ◌+◌, ◌/◌, length, sym, arith}
use Rattle.arr_law.specs.Facts.{facts_of}
use Rattle.arr_law.specs.ProblemOf.{problem_of}
use Rattle.arr_state.proofs.Frees.{none_more, some_wait, all_wait}
use Rattle.arr_state.proofs.rules.are_before.Goals as goal

pub loop-i-init : goal.loop-i-init
loop-i-init c = λ u l. absurd (omega (arith, l))

pub loop-i-preserved : goal.loop-i-preserved
loop-i-preserved c = none_more (problem_of c.args.ops.now) (facts_of (problem_of c.args.ops.now) c.args.known.now.facts.items) c.args.f c.args.g c.loop-i.i c.waiting.result c.loop-i.invariant c.waiting.ensures (omega (arith, c.if-waiting-ne0.false))

pub returns-then-waiting-ne0 : goal.returns-then-waiting-ne0
returns-then-waiting-ne0 c = sym (some_wait c.args.ops.now (facts_of (problem_of c.args.ops.now) c.args.known.now.facts.items) c.args.f c.args.g c.loop-i.i c.waiting.result (omega (arith, c.waiting.type_inv)) c.waiting.ensures c.if-waiting-ne0.true)

pub returns : goal.returns
returns c =
    let l : length c.args.ops.now / 64 + 1 ≤ c.loop-i.i = omega (arith, c.loop-i-test.false, c.count_of.ensures) in
    sym (all_wait (problem_of c.args.ops.now) (facts_of (problem_of c.args.ops.now) c.args.known.now.facts.items) c.args.f c.args.g c.loop-i.i l c.loop-i.invariant)
