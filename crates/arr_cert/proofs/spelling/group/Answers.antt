use Rattle.std.proofs.Common.{◌+◌, ◌∷◌, ◌^◌, ◌-◌, ℕ, List, subst, sym, ap, ◌∙◌}
use Rattle.arr_cert.specs.Spelled.{DecimalOf, NumbersOf, GroupOf}
use Rattle.arr_cert.proofs.Numbers.{counted, cut_front, tail_cut, tail_rest}
use Rattle.arr_cert.proofs.Groups.{none_point, none_first, none_view, none_others, made}
use Rattle.arr_cert.proofs.spelling.group.Goals as goal

pub returns-then-point-text : goal.returns-then-point-text
returns-then-point-text c = λ x. none_point c.args.text.now x (sym c.before-point.ensures ∙ c.if-point-text.true)

pub returns-in_default : goal.returns-in_default
returns-in_default c =
    λ x. none_first c.args.text.now x (subst (λ t. (n : ℕ) → DecimalOf (2 ^ 32 - 1) t n → ⊥) (cut_front 46 c.before-point.result c.args.text.now c.before-point.ensures) c.in_default.ensures)

pub returns-in_default-view_number : goal.returns-in_default-view_number
returns-in_default-view_number c =
    let cut = tail_cut 44 (c.before-point.result + 1) c.before-comma.result c.args.text.now c.before-comma.ensures in
    λ x. none_view c.args.text.now c.before-point.result x c.before-point.ensures (subst (λ t. (n : ℕ) → DecimalOf 2 t n → ⊥) cut c.in_default-view_number.ensures)

pub returns-in_default-2 : goal.returns-in_default-2
returns-in_default-2 c =
    let none = rw c.in_default-2.is at c.in_ok-others.ensures in
    let rest = tail_rest (c.before-point.result + 1) c.before-comma.result c.args.text.now in
    λ x. none_others c.args.text.now c.before-point.result c.before-comma.result x c.before-point.ensures (counted 44 (c.before-point.result + 1) c.before-comma.result c.args.text.now c.before-comma.ensures)
    (subst (λ t. (ns : List ℕ) → NumbersOf 44 t ns → ⊥) rest none)

pub returns : goal.returns
returns c =
    let some = rw c.in-Some-2.is at c.in_ok-others.ensures in
    let point = c.before-point.result in
    let first = subst (λ t. DecimalOf (2 ^ 32 - 1) t c.in-Some.first) (cut_front 46 point c.args.text.now c.before-point.ensures) c.in-Some.ensures in
    let view = subst (λ t. DecimalOf 2 t c.in-Some-view_number.operand) (tail_cut 44 (point + 1) c.before-comma.result c.args.text.now c.before-comma.ensures) c.in-Some-view_number.ensures in
    let others = subst (λ t. NumbersOf 44 t c.in-Some-2.others.items) (tail_rest (point + 1) c.before-comma.result c.args.text.now) some in
    subst (λ ops. GroupOf c.args.text.now (record { operand = c.in-Some-view_number.operand; ops = ops })) (sym (c.in_ok-ops.ensures ∙ ap (λ t. c.in-Some.first ∷ t) c.deref.ensures.value))
    (made c.args.text.now point c.before-comma.result c.in-Some.first c.in-Some-view_number.operand c.in-Some-2.others.items c.before-point.ensures c.if-point-text.false
    (counted 44 (point + 1) c.before-comma.result c.args.text.now c.before-comma.ensures) first view others)
