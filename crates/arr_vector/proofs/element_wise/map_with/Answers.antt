use Rattle.std.proofs.Common.{◌≡◌, ◌∙◌, sym, ap₂, arith}
use Rattle.std.proofs.Math.ListN.{length-set}
use Rattle.arr_num.specs.Numbers.{value}
use Rattle.arr_native.specs.Entries.{entry}
use Rattle.arr_native.proofs.Entries.{entry_is, entry_more}
use Rattle.arr_vector.proofs.element_wise.map_with.Goals as goal

pub loop-i-preserved : goal.loop-i-preserved
loop-i-preserved g c =
    let v = value c.args._code g.U.Native.elem in
    let a : entry g.T.Native.number c.args.a.now c.loop-i.i ≡ g.T.Native.number c.index-a-i.result = entry_is g.T.Native.number c.args.a.now c.loop-i.i c.index-a-i.result (omega (arith, c.loop-i-test.true, c.requires.a)) c.index-a-i.is in
    record {
      long = length-set c.loop-i.out c.loop-i.i c.f.result ∙ c.loop-i.invariant.long;
      each = entry_more g.U.Native.number (λ k. v (entry g.T.Native.number c.args.a.now k) (entry g.T.Native.number c.args._b.now k)) c.loop-i.out c.loop-i.i c.f.result
          (omega (arith, c.loop-i-test.true, c.requires.out, c.loop-i.invariant.long)) c.loop-i.invariant.each
          (c.requires.values c.index-a-i.result c.f.result c.f.ensures ∙ ap₂ v (sym a) (sym (c.requires.constant c.loop-i.i (omega (arith, c.loop-i-test.true)))));
    }
