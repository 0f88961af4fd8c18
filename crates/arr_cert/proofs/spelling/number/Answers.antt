use Rattle.std.proofs.Common.{◌≡◌, ◌<◌, ◌+◌, ℕ, List, ap, ◌∙◌, sym, length, get_or, subst, arith, rules}
use Rattle.std.specs.Int.{IsOutOfRange}
use Rattle.std.proofs.lemmas.Bool.{eqb-true}
use Rattle.arr_cert.specs.Spelled.{DecimalOf, Is}
use Rattle.arr_cert.proofs.Decimals.{none_empty, none_digit, none_zero, none_more, begins, goes_on, stops, ends, others_at}
use Rattle.arr_cert.proofs.spelling.number.Goals as goal
use Rattle.arr_cert.proofs.spelling.number.Goals.{else-value-eq0-via-then-value-eq0+else-not-is_empty, else-value-eq0-via-else-value-eq0}

pub returns-in_err-first : goal.returns-in_err-first
returns-in_err-first c = subst (Is (DecimalOf c.args.most c.args.text.now)) (sym c.from_residual.ensures) (λ n d. none_empty c.args.most n c.args.text.now c.ranges.most.fits c.in_err-first.ensures.cases d)

pub returns-then-not-is_ascii_digit : goal.returns-then-not-is_ascii_digit
returns-then-not-is_ascii_digit c =
    let e = c.in_ok-first.ensures.cases in
    λ n d. none_digit c.args.most n 0 c.args.text.now c.ranges.most.fits (omega (arith, e.1)) (subst (λ t. IsOutOfRange 48 57 (get_or t 0 0)) (sym e.0) c.if-not-is_ascii_digit.ensures.cases) d

pub returns-then-not-is_empty : goal.returns-then-not-is_empty
returns-then-not-is_empty c =
    let e = c.in_ok-first.ensures.cases in
    let r = c.if-not-is_ascii_digit.ensures.cases in
    let some : 0 < length c.in_ok-first.others.now = search rules in
    let zero : get_or c.args.text.now 0 0 ≡ 48 = ap (λ (t : List ℕ). get_or t 0 0) e.0 ∙ omega (arith, r.0, r.1, c.from-value.ensures, c.if-value-eq0.true) in
    λ n d. none_zero c.args.most n c.args.text.now c.ranges.most.fits (omega (arith, e.1, some)) zero d

pub loop-b-init : goal.loop-b-init
loop-b-init c =
    let e = c.in_ok-first.ensures.cases in
    begins c.from-value.result c.in_ok-first.first.now c.in_ok-first.others.now c.args.text.now c.from-value.ensures e.0 c.if-not-is_ascii_digit.ensures.cases
    (elim c.else-value-eq0.branch [
      | else-value-eq0-via-then-value-eq0+else-not-is_empty w ↦ λ l. omega (arith, l, e.1, eqb-true (length c.in_ok-first.others.now) 0 (sym w.if-not-is_empty.ensures))
      | else-value-eq0-via-else-value-eq0 w ↦ λ l. omega (arith, w.if-value-eq0.false)
    ])

pub returns-then-not-is_ascii_digit-2 : goal.returns-then-not-is_ascii_digit-2
returns-then-not-is_ascii_digit-2 c =
    let e = c.in_ok-first.ensures.cases in
    let i = c.loop-b.b-index in
    let here : get_or c.args.text.now (i + 1) 0 ≡ get_or c.in_ok-first.others.now i 0 = others_at c.args.text.now c.in_ok-first.others.now c.in_ok-first.first.now i e.0 in
    λ n d. none_digit c.args.most n (i + 1) c.args.text.now c.ranges.most.fits (omega (arith, e.1, c.loop-b-test.true)) (subst (IsOutOfRange 48 57) (sym here) c.if-not-is_ascii_digit-2.ensures.cases) d

pub returns-in_err-checked_mul : goal.returns-in_err-checked_mul
returns-in_err-checked_mul c =
    let big = c.in_err-checked_mul.ensures in
    subst (Is (DecimalOf c.args.most c.args.text.now)) (sym c.from_residual-in_err-checked_mul.ensures)
    (λ n d. stops c.args.most n c.loop-b.value c.loop-b.b-index c.in_ok-first.others.now c.args.text.now c.ranges.most.fits c.loop-b.invariant c.loop-b-test.true c.if-not-is_ascii_digit-2.ensures.cases (omega (arith, big)) d)

pub returns-in_err-value : goal.returns-in_err-value
returns-in_err-value c =
    let big = c.in_err-value.ensures in
    let ten = c.in_ok-checked_mul.ensures in
    let digit = c.from.ensures in
    subst (Is (DecimalOf c.args.most c.args.text.now)) (sym c.from_residual-in_err-value.ensures)
    (λ n d. stops c.args.most n c.loop-b.value c.loop-b.b-index c.in_ok-first.others.now c.args.text.now c.ranges.most.fits c.loop-b.invariant c.loop-b-test.true c.if-not-is_ascii_digit-2.ensures.cases (omega (arith, big, ten, digit)) d)

pub loop-b-preserved : goal.loop-b-preserved
loop-b-preserved c =
    let ten = c.in_ok-checked_mul.ensures in
    let digit = c.from.ensures in
    let sum = c.in_ok-value.ensures in
    goes_on c.loop-b.value c.in_ok-value.value c.loop-b.b-index c.in_ok-first.first.now c.in_ok-first.others.now c.args.text.now c.loop-b.invariant c.in_ok-first.ensures.cases.0 c.loop-b-test.true
    c.if-not-is_ascii_digit-2.ensures.cases (omega (arith, ten, digit, sum)) (omega (arith, sum))

pub returns-then-value-most : goal.returns-then-value-most
returns-then-value-most c =
    let all = ends c.loop-b.value c.loop-b.b-index c.in_ok-first.others.now c.args.text.now c.loop-b.invariant c.in_ok-first.ensures.cases.1 c.loop-b-test.false in
    λ n d. none_more c.args.most n c.loop-b.value c.args.text.now c.ranges.most.fits c.loop-b.invariant.fits c.if-value-most.true all d

pub returns-else-value-most : goal.returns-else-value-most
returns-else-value-most c =
    record { same = sym (ends c.loop-b.value c.loop-b.b-index c.in_ok-first.others.now c.args.text.now c.loop-b.invariant c.in_ok-first.ensures.cases.1 c.loop-b-test.false); within = omega (arith, c.if-value-most.false) }
