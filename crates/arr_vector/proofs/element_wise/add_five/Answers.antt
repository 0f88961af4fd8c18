use Rattle.std.proofs.Common.{◌≡◌, ◌∙◌, sym, ap₂, arith}
use Rattle.std.proofs.Math.ListN.{length-set}
use Rattle.arr_native.specs.Entries.{entry}
use Rattle.arr_native.proofs.Entries.{entry_is, entry_more}
use Rattle.arr_vector.specs.Sorts.{plus}
use Rattle.arr_vector.proofs.element_wise.add_five.Goals as goal

pub loop-i-preserved : goal.loop-i-preserved
loop-i-preserved g c =
    let n = g.T.Native.number in
    let p = plus g.T.Native.elem in
    let i = c.loop-i.i in
    let u : entry n c.args.a.now i ≡ n c.index-a-i.result = entry_is n c.args.a.now i c.index-a-i.result (omega (arith, c.loop-i-test.true, c.requires.a)) c.index-a-i.is in
    let v : entry n c.args.b.now i ≡ n c.index-b-i.result = entry_is n c.args.b.now i c.index-b-i.result (omega (arith, c.loop-i-test.true, c.requires.b)) c.index-b-i.is in
    let w : entry n c.args.c.now i ≡ n c.index-c-i.result = entry_is n c.args.c.now i c.index-c-i.result (omega (arith, c.loop-i-test.true, c.requires.c)) c.index-c-i.is in
    let x : entry n c.args.d.now i ≡ n c.index-d-i.result = entry_is n c.args.d.now i c.index-d-i.result (omega (arith, c.loop-i-test.true, c.requires.d)) c.index-d-i.is in
    let y : entry n c.args.e.now i ≡ n c.index-e-i.result = entry_is n c.args.e.now i c.index-e-i.result (omega (arith, c.loop-i-test.true, c.requires.e)) c.index-e-i.is in
    record {
      long = length-set c.loop-i.out i c.compute-in-loop-i-2.result ∙ c.loop-i.invariant.long;
      each = entry_more n (λ k. p (p (p (p (entry n c.args.a.now k) (entry n c.args.b.now k)) (entry n c.args.c.now k)) (entry n c.args.d.now k)) (entry n c.args.e.now k))
          c.loop-i.out i c.compute-in-loop-i-2.result (omega (arith, c.loop-i-test.true, c.requires.out, c.loop-i.invariant.long)) c.loop-i.invariant.each
          (c.compute-in-loop-i-2.ensures ∙ ap₂ p (c.compute-in-loop-i.ensures ∙ ap₂ p (c.compute-three.ensures ∙ ap₂ p (c.compute.ensures ∙ ap₂ p (sym u) (sym v)) (sym w)) (sym x)) (sym y));
    }
