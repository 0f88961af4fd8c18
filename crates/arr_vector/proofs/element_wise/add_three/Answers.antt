use Rattle.std.proofs.Common.{◌≡◌, ◌∙◌, sym, ap₂, arith}
use Rattle.std.proofs.Math.ListN.{length-set}
use Rattle.arr_native.specs.Entries.{entry}
use Rattle.arr_native.proofs.Entries.{entry_is, entry_more}
use Rattle.arr_vector.specs.Sorts.{plus}
use Rattle.arr_vector.proofs.element_wise.add_three.Goals as goal

pub loop-i-preserved : goal.loop-i-preserved
loop-i-preserved g c =
    let n = g.T.Native.number in
    let p = plus g.T.Native.elem in
    let i = c.loop-i.i in
    let x : entry n c.args.a.now i ≡ n c.index-a-i.result = entry_is n c.args.a.now i c.index-a-i.result (omega (arith, c.loop-i-test.true, c.requires.a)) c.index-a-i.is in
    let y : entry n c.args.b.now i ≡ n c.index-b-i.result = entry_is n c.args.b.now i c.index-b-i.result (omega (arith, c.loop-i-test.true, c.requires.b)) c.index-b-i.is in
    let z : entry n c.args.c.now i ≡ n c.index-c-i.result = entry_is n c.args.c.now i c.index-c-i.result (omega (arith, c.loop-i-test.true, c.requires.c)) c.index-c-i.is in
    record {
      long = length-set c.loop-i.out i c.compute-in-loop-i.result ∙ c.loop-i.invariant.long;
      each = entry_more n (λ k. p (p (entry n c.args.a.now k) (entry n c.args.b.now k)) (entry n c.args.c.now k)) c.loop-i.out i c.compute-in-loop-i.result
          (omega (arith, c.loop-i-test.true, c.requires.out, c.loop-i.invariant.long)) c.loop-i.invariant.each
          (c.compute-in-loop-i.ensures ∙ ap₂ p (c.compute.ensures ∙ ap₂ p (sym x) (sym y)) (sym z));
    }
