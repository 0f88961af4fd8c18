use Rattle.std.proofs.Common.{◌≡◌, ◌∙◌, sym, ap, arith, pos}
use Rattle.std.proofs.Math.ListN.{length-set}
use Rattle.arr_num.specs.Numbers.{value}
use Rattle.arr_num.specs.declared.code.Code.TheVariants.{Power}
use Rattle.arr_native.specs.Entries.{entry}
use Rattle.arr_native.proofs.Entries.{entry_is, entry_more}
use Rattle.arr_vector.proofs.element_wise.raise.Goals as goal

pub loop-i-preserved : goal.loop-i-preserved
loop-i-preserved g c =
    let a : entry g.T.Native.number c.args.a.now c.loop-i.i ≡ g.T.Native.number c.index-a-i.result = entry_is g.T.Native.number c.args.a.now c.loop-i.i c.index-a-i.result (omega (arith, c.loop-i-test.true, c.requires.a)) c.index-a-i.is in
    record {
      long = length-set c.loop-i.out c.loop-i.i c.raise.result ∙ c.loop-i.invariant.long;
      each = entry_more g.T.Native.number (λ k. value Power g.T.Native.elem (entry g.T.Native.number c.args.a.now k) (pos c.args.exponent)) c.loop-i.out c.loop-i.i c.raise.result
          (omega (arith, c.loop-i-test.true, c.requires.out, c.loop-i.invariant.long)) c.loop-i.invariant.each
          (c.raise.ensures ∙ ap (λ x. value Power g.T.Native.elem x (pos c.args.exponent)) (sym a));
    }
