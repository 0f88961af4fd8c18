use Rattle.std.proofs.Common.{◌≡◌, ◌∙◌, ◌+◌, ◌<◌, ◌≤◌, length, get_or, ap, subst, sym, arith}
use Rattle.std.proofs.lemmas.List.{get_or_default, length-append}
use Rattle.arr_view.specs.Strided.{Strided}
use Rattle.arr_machine.specs.Ports.{IsPort}
use Rattle.arr_machine.proofs.Blocks.{all_get}
use Rattle.arr_strips.specs.Registers.{number_in}
use Rattle.arr_contract.specs.Making.{IsWalked}
use Rattle.arr_contract.proofs.Makings.{each_more, number_most}
use Rattle.arr_contract.proofs.making.ports_of.Goals as goal

pub overflow_cast-number_in : goal.overflow_cast-number_in
overflow_cast-number_in c =
    let most : c.number_in.result ≤ length c.args.views.now = subst (λ n. n ≤ length c.args.views.now) (sym c.number_in.ensures) (number_most c.args.views.now _) in
    omega (arith, c.requires.few)

pub loop-view-preserved : goal.loop-view-preserved
loop-view-preserved c =
    let item = c.view-item.result in
    let walked : IsWalked c.args.ops.now item = all_get (IsWalked c.args.ops.now) c.args.some.now c.loop-view.view-index item c.loop-view-test.true c.view-item.is c.requires.walked in
    record {
      long = ap length c.in_ok-push.ensures.items ∙ length-append c.loop-view.ports.items _ ∙ ap (λ n. n + 1) c.loop-view.invariant.long;
      each = λ k v port l e f.
          each_more (λ (q : _) (w : Strided) p. IsPort c.args.ops.now w p) c.args.some.now c.loop-view.ports.items c.loop-view.view-index _ c.loop-view.invariant.long c.loop-view.invariant.each
          (λ w h.
          let same : item ≡ w = c.view-item.is ∙ get_or_default c.args.some.now c.loop-view.view-index item w c.loop-view-test.true ∙ sym h in
          subst (λ (u : Strided). IsPort c.args.ops.now u (record { rows = c.of.result; lane = c.number_in.result; is_lent = c.is_lent.result })) same
          (record {
            rows = c.of.ensures;
            lane = c.number_in.ensures ∙ ap (λ vs. number_in vs item) c.requires.views;
            register = walked.register;
            long = walked.long;
            lent = c.is_lent.ensures;
          }))
          k v port l e (f ∙ ap (λ xs. get_or xs k port) c.in_ok-push.ensures.items);
    }

pub returns : goal.returns
returns c =
    let all : c.loop-view.view-index ≡ length c.args.some.now = omega (arith, c.loop-view-test.false) in
    record {
      long = c.loop-view.invariant.long ∙ all;
      each = λ k v port l e f. c.loop-view.invariant.each k v port (subst (λ n. k < n) (sym all) l) e f;
    }
