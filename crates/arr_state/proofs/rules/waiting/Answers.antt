use Rattle.std.proofs.Common.{◌*◌, ◌+◌, not, ◌∙◌, ap, arith}
use Rattle.std.specs.Prelude.{◌==◌}
use Rattle.std.specs.Int.{bit_at}
use Rattle.arr_law.specs.declared.fact.Fact.TheVariants.{Before}
use Rattle.arr_law.specs.Problem.{ends_base_of}
use Rattle.arr_law.specs.Facts.{facts_of}
use Rattle.arr_law.specs.ProblemOf.{problem_of}
use Rattle.arr_state.proofs.Frees.{waiting_bit}
use Rattle.arr_state.proofs.Sifts.{row_bit}
use Rattle.arr_state.proofs.rules.waiting.Goals as goal

pub returns : goal.returns
returns c = λ k l.
    let facts = facts_of (problem_of c.args.ops.now) c.args.known.now.facts.items in
    let u = 64 * c.args.i + k in
    waiting_bit c.row_word-users.result c.row_word-before.result c.without.result c.without-2.result k (ends_base_of (problem_of c.args.ops.now) u c.args.g) (facts (Before u c.args.f)) (not (u == c.args.f)) (not (u == c.args.g))
    (ap (λ w. bit_at w k) c.row_word-users.ensures ∙ row_bit (problem_of c.args.ops.now) c.args.known.now.rows.items facts c.requires.kept.rowed c.args.i k c.requires.room l 5 c.args.g (omega arith) c.requires.second)
    (ap (λ w. bit_at w k) c.row_word-before.ensures ∙ row_bit (problem_of c.args.ops.now) c.args.known.now.rows.items facts c.requires.kept.rowed c.args.i k c.requires.room l 3 c.args.f (omega arith) c.requires.first)
    (c.without.ensures k l) (c.without-2.ensures k l)
