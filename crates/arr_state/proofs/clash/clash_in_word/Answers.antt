use Rattle.std.proofs.Common.{◌+◌, ◌*◌, arith}
use Rattle.arr_state.specs.Went.{IsClash}
use Rattle.arr_law.specs.Facts.{facts_of}
use Rattle.arr_law.specs.ProblemOf.{problem_of}
use Rattle.arr_state.proofs.Clashes.{no_clash, below_next}
use Rattle.arr_state.proofs.clash.clash_in_word.Goals as goal

pub returns-then-row_word-eq0 : goal.returns-then-row_word-eq0
returns-then-row_word-eq0 c = λ k l clash.
    no_clash (problem_of c.args.ops.now) c.args.known.now.rows.items (facts_of (problem_of c.args.ops.now) c.args.known.now.facts.items) c.requires.kept.rowed c.args.f c.args.i c.row_word.result c.row_word-2.result k c.requires.within c.requires.room c.row_word.ensures c.row_word-2.ensures c.if-row_word-eq0.true l clash

pub loop-k-init : goal.loop-k-init
loop-k-init c = λ k l clash. absurd (omega (arith, l))

pub loop-k-preserved : goal.loop-k-preserved
loop-k-preserved c = below_next {P = λ k. IsClash (facts_of (problem_of c.args.ops.now) c.args.known.now.facts.items) c.args.f (64 * c.args.i + k) → ⊥} c.loop-k.k c.loop-k.invariant c.in-None.ensures

pub returns : goal.returns
returns c = λ k l. c.loop-k.invariant k (omega (arith, l, c.loop-k-test.false))
