use Rattle.std.proofs.Common.{◌≡◌, ◌∙◌, ◌<◌, ap, arith, length, map, refl, subst, sym}
use Rattle.std.specs.List.{list_all}
use Rattle.std.proofs.lemmas.List.{length-map, take_all}
use Rattle.arr_num.specs.Numbers.{in_type}
use Rattle.arr_native.proofs.Entries.{entry_is}
use Rattle.arr_store.proofs.Places.{typed_more}
use Rattle.arr_store.proofs.runs.are_typed.Goals as goal

pub loop-i-init : goal.loop-i-init
loop-i-init g c = refl

pub loop-i-preserved : goal.loop-i-preserved
loop-i-preserved g c =
    let all = map g.T.Native.number c.args.numbers.now in
    let here : c.loop-i.i < length all = subst (λ n. c.loop-i.i < n) (sym (length-map c.args.numbers.now g.T.Native.number)) c.loop-i-test.true in
    let is = entry_is g.T.Native.number c.args.numbers.now c.loop-i.i c.index-numbers-i.result c.loop-i-test.true c.index-numbers-i.is in
    typed_more g.T.Native.elem all c.loop-i.i here c.loop-i.invariant (ap (in_type g.T.Native.elem) is ∙ c.itself-same.ensures.typed)

pub returns : goal.returns
returns g c =
    let all = map g.T.Native.number c.args.numbers.now in
    let long : length all ≡ length c.args.numbers.now = length-map c.args.numbers.now g.T.Native.number in
    ap (list_all (in_type g.T.Native.elem)) (sym (take_all c.loop-i.i all (omega (arith, c.loop-i-test.false, long)))) ∙ c.loop-i.invariant
