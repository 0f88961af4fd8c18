use Rattle.std.proofs.Common.{◌∙◌, ◌+◌, arith, pos}
use Rattle.std.proofs.Math.ListN.{length-set}
use Rattle.arr_num.specs.Numbers.{value}
use Rattle.arr_num.specs.declared.code.Code.TheVariants.{Range}
use Rattle.arr_native.proofs.Entries.{entry_more}
use Rattle.arr_vector.proofs.Values.{range_value}
use Rattle.arr_vector.proofs.element_wise.count_up.Goals as goal

pub loop-i-preserved : goal.loop-i-preserved
loop-i-preserved g c =
    record {
      long = length-set c.loop-i.out c.loop-i.i c.from_bits.result ∙ c.loop-i.invariant.long;
      each = entry_more g.T.Native.number (λ k. value Range g.T.Native.elem (pos (c.args.position + k)) (pos 0)) c.loop-i.out c.loop-i.i c.from_bits.result
          (omega (arith, c.loop-i-test.true, c.requires.out, c.loop-i.invariant.long)) c.loop-i.invariant.each
          (c.from_bits.ensures ∙ range_value g.T.Native.elem (pos (c.args.position + c.loop-i.i)));
    }
