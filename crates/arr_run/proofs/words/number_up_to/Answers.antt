use Rattle.std.proofs.Common.{arith}
use Rattle.arr_run.proofs.Numerals.{none_over}
use Rattle.arr_run.proofs.words.number_up_to.Goals as goal

pub returns-then-number-limit : goal.returns-then-number-limit
returns-then-number-limit c =
    none_over c.args.most c.args.digits.now c.loop-digit.digit-index c.loop-digit.number c.loop-digit.invariant c.loop-digit-test.true c.if-not-is_ascii_digit.ensures.cases (omega (arith, c.from.ensures, c.from-limit.ensures, c.if-number-limit.true))
