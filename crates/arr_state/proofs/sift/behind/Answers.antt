use Rattle.std.proofs.Common.{sym, ◌∙◌}
use Rattle.arr_law.specs.ProblemOf.{problem_of}
use Rattle.arr_state.specs.declared.jobs.Job.TheVariants.{Behind}
use Rattle.arr_state.proofs.Keeps.{small_op}
use Rattle.arr_state.proofs.Sifts.{sieve_behind, sieve_is, behind4, behind6, behind7, behind8}
use Rattle.arr_state.proofs.sift.behind.Goals as goal

pub returns-in-4 : goal.returns-in-4
returns-in-4 c =
    sieve_behind (problem_of c.args.ops.now) c.args.rule 4 c.args.f c.args.g c.begin.result c.in-4.is
    (sieve_is (problem_of c.args.ops.now) (Behind 4 c.args.f c.args.g) 2 c.args.g 2 c.args.g 2 c.args.f c.begin.result c.begin.ensures.is c.begin.ensures.fits
    (λ rows facts r even i word room is. behind4 (problem_of c.args.ops.now) rows facts r even i word room c.args.f c.args.g (small_op (problem_of c.args.ops.now) c.args.f (sym c.is_operation.ensures ∙ c.if-not-is_operation.false)) (small_op (problem_of c.args.ops.now) c.args.g (sym c.is_operation-else-not-is_operation.ensures ∙ c.if-not-is_operation-2.false)) is))

pub returns-in-6 : goal.returns-in-6
returns-in-6 c =
    sieve_behind (problem_of c.args.ops.now) c.args.rule 6 c.args.f c.args.g c.begin-in-6.result c.in-6.is
    (sieve_is (problem_of c.args.ops.now) (Behind 6 c.args.f c.args.g) 1 c.args.g 1 c.args.g 1 c.args.f c.begin-in-6.result c.begin-in-6.ensures.is c.begin-in-6.ensures.fits
    (λ rows facts r even i word room is. behind6 (problem_of c.args.ops.now) rows facts r even i word room c.args.f c.args.g (small_op (problem_of c.args.ops.now) c.args.f (sym c.is_operation.ensures ∙ c.if-not-is_operation.false)) (small_op (problem_of c.args.ops.now) c.args.g (sym c.is_operation-else-not-is_operation.ensures ∙ c.if-not-is_operation-2.false)) is))

pub returns-in-7 : goal.returns-in-7
returns-in-7 c =
    sieve_behind (problem_of c.args.ops.now) c.args.rule 7 c.args.f c.args.g c.begin-in-7.result c.in-7.is
    (sieve_is (problem_of c.args.ops.now) (Behind 7 c.args.f c.args.g) 2 c.args.g 2 c.args.g 1 c.args.f c.begin-in-7.result c.begin-in-7.ensures.is c.begin-in-7.ensures.fits
    (λ rows facts r even i word room is. behind7 (problem_of c.args.ops.now) rows facts r even i word room c.args.f c.args.g (small_op (problem_of c.args.ops.now) c.args.f (sym c.is_operation.ensures ∙ c.if-not-is_operation.false)) (small_op (problem_of c.args.ops.now) c.args.g (sym c.is_operation-else-not-is_operation.ensures ∙ c.if-not-is_operation-2.false)) is))

pub returns-in-8 : goal.returns-in-8
returns-in-8 c =
    sieve_behind (problem_of c.args.ops.now) c.args.rule 8 c.args.f c.args.g c.begin-in-8.result c.in-8.is
    (sieve_is (problem_of c.args.ops.now) (Behind 8 c.args.f c.args.g) 2 c.args.g 1 c.args.g 1 c.args.f c.begin-in-8.result c.begin-in-8.ensures.is c.begin-in-8.ensures.fits
    (λ rows facts r even i word room is. behind8 (problem_of c.args.ops.now) rows facts r even i word room c.args.f c.args.g (small_op (problem_of c.args.ops.now) c.args.f (sym c.is_operation.ensures ∙ c.if-not-is_operation.false)) (small_op (problem_of c.args.ops.now) c.args.g (sym c.is_operation-else-not-is_operation.ensures ∙ c.if-not-is_operation-2.false)) is))
