use Rattle.std.proofs.Common.{sym, ap, ◌∙◌, subst, arith}
use Rattle.arr_cert.specs.Texts.{takes_two}
use Rattle.arr_cert.specs.Spelled.{Is}
use Rattle.arr_cert.specs.Spelling.{IsText}
use Rattle.arr_cert.proofs.Words.{all_narrow, step_shape}
use Rattle.arr_cert.proofs.spelling.step.Goals as goal

pub returns-then-numbers-lt3 : goal.returns-then-numbers-lt3
returns-then-numbers-lt3 c = λ r t.
    let s = step_shape c.args.numbers.now (all_narrow c.args.numbers.now (λ k. (c.type_inv.numbers k).fits)) r t in
    omega (arith, s.long, c.if-numbers-lt3.true)

pub returns-in_err-rule : goal.returns-in_err-rule
returns-in_err-rule c = subst (Is (IsText _)) (sym c.from_residual.ensures) (λ r t.
    let s = step_shape c.args.numbers.now (all_narrow c.args.numbers.now (λ k. (c.type_inv.numbers k).fits)) r t in
    c.in_err-rule.ensures s.rule)

pub returns-then-numbers-ne3 : goal.returns-then-numbers-ne3
returns-then-numbers-ne3 c = λ r t.
    let s = step_shape c.args.numbers.now (all_narrow c.args.numbers.now (λ k. (c.type_inv.numbers k).fits)) r t in
    let h = c.in_ok-rule.ensures in
    c.if-numbers-ne3.true (s.two (ap takes_two (sym h.1) ∙ (sym c.takes_two-two.ensures ∙ c.if-two.true)))

pub returns-then-numbers-ne4 : goal.returns-then-numbers-ne4
returns-then-numbers-ne4 c = λ r t.
    let s = step_shape c.args.numbers.now (all_narrow c.args.numbers.now (λ k. (c.type_inv.numbers k).fits)) r t in
    let h = c.in_ok-rule.ensures in
    c.if-numbers-ne4.true (s.three (ap takes_two (sym h.1) ∙ (sym c.takes_two-two.ensures ∙ c.if-two.false)))
