use Rattle.std.proofs.Common.{arith}
use Rattle.arr_tokens.proofs.Cutting.{too_wide, whole_number}
use Rattle.arr_tokens.proofs.text.number.Goals as goal

pub returns-in_default : goal.returns-in_default
returns-in_default c = too_wide c.loop-b.value c.loop-b.b-index c.args.digits.now (omega arith) c.loop-b.invariant.spells (let h = c.in_default.ensures in omega (arith, h))

pub returns-in_default-checked_add : goal.returns-in_default-checked_add
returns-in_default-checked_add c = too_wide c.loop-b.value c.loop-b.b-index c.args.digits.now (omega arith) c.loop-b.invariant.spells
    (let h = c.in_default-checked_add.ensures in let k = c.in-Some.ensures in let d = c.saturating_sub.ensures in let f = c.from-digit.ensures in omega (arith, h, k, d, f))

pub returns : goal.returns
returns c = whole_number c.loop-b.value c.loop-b.b-index c.args.digits.now (omega arith) c.loop-b.invariant.fits c.loop-b.invariant.spells
