use Rattle.std.proofs.Common.{◌≡◌, ◌∙◌, ◌+◌, suc, cond, ap, arith, drop, sym}
use Rattle.std.proofs.lemmas.List.{at_drop_all, at_drop_more}
use Rattle.arr_view.specs.Strided.{Strided}
use Rattle.arr_view.specs.Views.{identical}
use Rattle.arr_strips.specs.Registers.{number_in}
use Rattle.arr_contract.proofs.tasks.number_in.Goals as goal

pub returns-then-identical : goal.returns-then-identical
returns-then-identical c =
    let here : number_in (drop c.loop-other.other-index c.args.views.now) c.args.view.now ≡ 0 =
    at_drop_more (λ vs. number_in vs c.args.view.now) c.args.views.now c.loop-other.other-index c.other-item.result c.loop-other-test.true
    ∙ ap (λ (v : Strided). cond (identical v c.args.view.now) 0 (suc (number_in (drop (c.loop-other.other-index + 1) c.args.views.now) c.args.view.now))) (sym c.other-item.is)
    ∙ ap (λ z. cond z 0 (suc (number_in (drop (c.loop-other.other-index + 1) c.args.views.now) c.args.view.now))) (sym c.identical.ensures.value ∙ c.if-identical.true) in
    let whole : number_in c.args.views.now c.args.view.now ≡ c.loop-other.other-index + number_in (drop c.loop-other.other-index c.args.views.now) c.args.view.now = c.loop-other.invariant.whole in
    let place : c.loop-other.at ≡ c.loop-other.other-index = c.loop-other.invariant.place in
    omega arith

pub loop-other-preserved : goal.loop-other-preserved
loop-other-preserved c =
    let here : number_in (drop c.loop-other.other-index c.args.views.now) c.args.view.now ≡ suc (number_in (drop (c.loop-other.other-index + 1) c.args.views.now) c.args.view.now) =
    at_drop_more (λ vs. number_in vs c.args.view.now) c.args.views.now c.loop-other.other-index c.other-item.result c.loop-other-test.true
    ∙ ap (λ (v : Strided). cond (identical v c.args.view.now) 0 (suc (number_in (drop (c.loop-other.other-index + 1) c.args.views.now) c.args.view.now))) (sym c.other-item.is)
    ∙ ap (λ z. cond z 0 (suc (number_in (drop (c.loop-other.other-index + 1) c.args.views.now) c.args.view.now))) (sym c.identical.ensures.value ∙ c.if-identical.false) in
    let whole : number_in c.args.views.now c.args.view.now ≡ c.loop-other.other-index + number_in (drop c.loop-other.other-index c.args.views.now) c.args.view.now = c.loop-other.invariant.whole in
    let place : c.loop-other.at ≡ c.loop-other.other-index = c.loop-other.invariant.place in
    record { place = omega arith; whole = omega arith }

pub returns : goal.returns
returns c =
    let none : number_in (drop c.loop-other.other-index c.args.views.now) c.args.view.now ≡ 0 = at_drop_all (λ vs. number_in vs c.args.view.now) c.args.views.now c.loop-other.other-index c.loop-other-test.false in
    let whole : number_in c.args.views.now c.args.view.now ≡ c.loop-other.other-index + number_in (drop c.loop-other.other-index c.args.views.now) c.args.view.now = c.loop-other.invariant.whole in
    let place : c.loop-other.at ≡ c.loop-other.other-index = c.loop-other.invariant.place in
    omega arith
