use Rattle.std.proofs.Common.{◌+◌, ◌-◌, ◌^◌, ℕ, sym, subst, ap}
use Rattle.arr_cert.specs.Spelled.{DecimalOf}
use Rattle.arr_cert.proofs.Joined.{Listed}
use Rattle.arr_cert.proofs.Numbers.{Narrow, wrong_sign, wrong_number, more_numbers, all_numbers, counted, cut_is}
use Rattle.arr_cert.proofs.spelling.numbers.Goals as goal

pub returns-then-text-at : goal.returns-then-text-at
returns-then-text-at c = wrong_sign c.args.sign c.args.text.now c.loop-at.at c.loop-at.found.items c.requires.apart c.loop-at.invariant c.loop-at-test.true c.if-text-at.true

pub returns-in_default : goal.returns-in_default
returns-in_default c =
    wrong_number c.args.sign c.args.text.now c.loop-at.at c.loop-at.found.items c.requires.apart c.loop-at.invariant c.loop-at-test.true
    (subst (λ t. (n : ℕ) → DecimalOf (2 ^ 32 - 1) t n → ⊥) (cut_is c.args.sign (c.loop-at.at + 1) c.before-in-loop-at.result c.args.text.now (counted c.args.sign (c.loop-at.at + 1) c.before-in-loop-at.result c.args.text.now c.before-in-loop-at.ensures)) c.in_default.ensures)

pub loop-at-preserved : goal.loop-at-preserved
loop-at-preserved c =
    let number = subst (λ t. DecimalOf (2 ^ 32 - 1) t c.in-Some.value) (cut_is c.args.sign (c.loop-at.at + 1) c.before-in-loop-at.result c.args.text.now (counted c.args.sign (c.loop-at.at + 1) c.before-in-loop-at.result c.args.text.now c.before-in-loop-at.ensures)) c.in-Some.ensures in
    subst (Listed c.args.sign _ Narrow c.args.text.now _) (sym c.in_ok-push.ensures.items)
    (more_numbers c.args.sign c.args.text.now c.loop-at.at _ c.loop-at.found.items c.in-Some.value c.requires.apart c.loop-at.invariant c.loop-at-test.true c.if-text-at.false number (ap (λ k. c.loop-at.at + 1 + k) (counted c.args.sign (c.loop-at.at + 1) c.before-in-loop-at.result c.args.text.now c.before-in-loop-at.ensures)))

pub returns : goal.returns
returns c = all_numbers c.args.sign c.args.text.now c.loop-at.at c.loop-at.found.items c.loop-at.invariant c.loop-at-test.false
