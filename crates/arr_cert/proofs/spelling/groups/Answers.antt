use Rattle.std.proofs.Common.{◌+◌, ap, sym, subst}
use Rattle.arr_law.specs.declared.charge.Charge.{Charge}
use Rattle.arr_cert.specs.Spelled.{GroupOf}
use Rattle.arr_cert.proofs.Joined.{Listed}
use Rattle.arr_cert.proofs.Numbers.{counted, cut_is}
use Rattle.arr_cert.proofs.Groups.{Good, bare, wrong_blank, wrong_group, more_groups, all_groups}
use Rattle.arr_cert.proofs.spelling.groups.Goals as goal

pub returns-then-text-at-ne32 : goal.returns-then-text-at-ne32
returns-then-text-at-ne32 c = wrong_blank c.args.text.now c.loop-at.at c.loop-at.found c.loop-at.invariant c.loop-at-test.true c.if-text-at-ne32.true

pub returns-in_default : goal.returns-in_default
returns-in_default c =
    let none = rw c.in_default.is at c.in_ok-charge.ensures in
    wrong_group c.args.text.now c.loop-at.at c.loop-at.found c.loop-at.invariant c.loop-at-test.true
    (subst (λ t. (g : Charge) → GroupOf t g → ⊥) (cut_is 32 (c.loop-at.at + 1) c.before-in-loop-at.result c.args.text.now (counted 32 (c.loop-at.at + 1) c.before-in-loop-at.result c.args.text.now c.before-in-loop-at.ensures)) none)

pub loop-at-preserved : goal.loop-at-preserved
loop-at-preserved c =
    let some = rw c.in-Some.is at c.in_ok-charge.ensures in
    let count = counted 32 (c.loop-at.at + 1) c.before-in-loop-at.result c.args.text.now c.before-in-loop-at.ensures in
    let group = subst (λ t. GroupOf t c.in-Some.charge) (cut_is 32 (c.loop-at.at + 1) c.before-in-loop-at.result c.args.text.now count) some in
    subst (Listed 32 bare Good c.args.text.now _) (sym c.in_ok-push.ensures.ok)
    (more_groups c.args.text.now c.loop-at.at _ c.loop-at.found c.in-Some.charge c.loop-at.invariant c.loop-at-test.true c.if-text-at-ne32.false group (ap (λ k. c.loop-at.at + 1 + k) count))

pub returns : goal.returns
returns c = all_groups c.args.text.now c.loop-at.at c.loop-at.found c.loop-at.invariant c.loop-at-test.false
