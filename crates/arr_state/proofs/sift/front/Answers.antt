use Rattle.std.proofs.Common.{sym, ◌∙◌}
use Rattle.arr_law.specs.ProblemOf.{problem_of}
use Rattle.arr_state.specs.declared.jobs.Job.TheVariants.{Front}
use Rattle.arr_state.proofs.Keeps.{small_op}
use Rattle.arr_state.proofs.Sifts.{sieve_front, sieve_is, front4, front6, front7, front8}
use Rattle.arr_state.proofs.sift.front.Goals as goal

pub returns-in-4 : goal.returns-in-4
returns-in-4 c =
    sieve_front (problem_of c.args.ops.now) c.args.rule 4 c.args.g c.args.h c.begin.result c.in-4.is
    (sieve_is (problem_of c.args.ops.now) (Front 4 c.args.g c.args.h) 3 c.args.g 3 c.args.g 3 c.args.h c.begin.result c.begin.ensures.is c.begin.ensures.fits
    (λ rows facts r even i word room is. front4 (problem_of c.args.ops.now) rows facts r even i word room c.args.g c.args.h (small_op (problem_of c.args.ops.now) c.args.g (sym c.is_operation.ensures ∙ c.if-not-is_operation.false)) (small_op (problem_of c.args.ops.now) c.args.h (sym c.is_operation-else-not-is_operation.ensures ∙ c.if-not-is_operation-2.false)) is))

pub returns-in-6 : goal.returns-in-6
returns-in-6 c =
    sieve_front (problem_of c.args.ops.now) c.args.rule 6 c.args.g c.args.h c.begin-in-6.result c.in-6.is
    (sieve_is (problem_of c.args.ops.now) (Front 6 c.args.g c.args.h) 0 c.args.g 0 c.args.g 1 c.args.h c.begin-in-6.result c.begin-in-6.ensures.is c.begin-in-6.ensures.fits
    (λ rows facts r even i word room is. front6 (problem_of c.args.ops.now) rows facts r even i word room c.args.g c.args.h (small_op (problem_of c.args.ops.now) c.args.g (sym c.is_operation.ensures ∙ c.if-not-is_operation.false)) (small_op (problem_of c.args.ops.now) c.args.h (sym c.is_operation-else-not-is_operation.ensures ∙ c.if-not-is_operation-2.false)) is))

pub returns-in-7 : goal.returns-in-7
returns-in-7 c =
    sieve_front (problem_of c.args.ops.now) c.args.rule 7 c.args.g c.args.h c.begin-in-7.result c.in-7.is
    (sieve_is (problem_of c.args.ops.now) (Front 7 c.args.g c.args.h) 3 c.args.g 1 c.args.g 1 c.args.h c.begin-in-7.result c.begin-in-7.ensures.is c.begin-in-7.ensures.fits
    (λ rows facts r even i word room is. front7 (problem_of c.args.ops.now) rows facts r even i word room c.args.g c.args.h (small_op (problem_of c.args.ops.now) c.args.g (sym c.is_operation.ensures ∙ c.if-not-is_operation.false)) (small_op (problem_of c.args.ops.now) c.args.h (sym c.is_operation-else-not-is_operation.ensures ∙ c.if-not-is_operation-2.false)) is))

pub returns-in-8 : goal.returns-in-8
returns-in-8 c =
    sieve_front (problem_of c.args.ops.now) c.args.rule 8 c.args.g c.args.h c.begin-in-8.result c.in-8.is
    (sieve_is (problem_of c.args.ops.now) (Front 8 c.args.g c.args.h) 3 c.args.g 3 c.args.g 1 c.args.h c.begin-in-8.result c.begin-in-8.ensures.is c.begin-in-8.ensures.fits
    (λ rows facts r even i word room is. front8 (problem_of c.args.ops.now) rows facts r even i word room c.args.g c.args.h (small_op (problem_of c.args.ops.now) c.args.g (sym c.is_operation.ensures ∙ c.if-not-is_operation.false)) (small_op (problem_of c.args.ops.now) c.args.h (sym c.is_operation-else-not-is_operation.ensures ∙ c.if-not-is_operation-2.false)) is))
