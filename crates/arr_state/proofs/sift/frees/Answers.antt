use Rattle.std.proofs.Common.{sym, ◌∙◌}
use Rattle.arr_law.specs.ProblemOf.{problem_of}
use Rattle.arr_state.specs.declared.jobs.Job.TheVariants.{Frees}
use Rattle.arr_state.proofs.Keeps.{small_op}
use Rattle.arr_state.proofs.Sifts.{sieve_is, frees9}
use Rattle.arr_state.proofs.sift.frees.Goals as goal

pub returns : goal.returns
returns c =
    sieve_is (problem_of c.args.ops.now) (Frees c.args.u c.args.f) 4 c.args.u 4 c.args.f 0 c.args.f c.begin.result c.begin.ensures.is c.begin.ensures.fits
    (λ rows facts r even i word room is. frees9 (problem_of c.args.ops.now) rows facts i word c.args.u c.args.f r room (small_op (problem_of c.args.ops.now) c.args.u (sym c.is_operation.ensures ∙ c.if-not-is_operation.false)) (small_op (problem_of c.args.ops.now) c.args.f (sym c.is_operation-else-not-is_operation.ensures ∙ c.if-not-is_operation-2.false)) is)
