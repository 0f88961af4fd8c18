use Rattle.std.proofs.Common.{◌≡◌, ◌∙◌, ap, pos, nat_eq, arith}
use Rattle.std.proofs.lemmas.Bool.{eqb-true}
use Rattle.arr_num.specs.Numbers.{digits, wrap}
use Rattle.arr_num.specs.declared.elem.Elem.TheVariants.{U64}
use Rattle.arr_native.specs.Entries.{entry}
use Rattle.arr_native.proofs.Entries.{entry_is}
use Rattle.arr_vector.proofs.Values.{by_bits, one_more}
use Rattle.arr_vector.proofs.element_wise.one_number.Goals as goal

pub loop-i-preserved : goal.loop-i-preserved
loop-i-preserved g c =
    let number = g.T.Native.number in
    let b : entry number c.args.b.now c.loop-i.i ≡ number c.index-b-i.result = entry_is number c.args.b.now c.loop-i.i c.index-b-i.result (omega (arith, c.loop-i-test.true, c.requires)) c.index-b-i.is in
    record {
      each = one_more (entry number c.args.b.now) (wrap g.T.Native.elem (pos c.bits-bits.result)) c.loop-i.same (nat_eq c.bits.result c.bits-bits.result) c.loop-i.i c.loop-i.invariant.each
          (λ equal. b ∙ by_bits g.T.Native.elem c.bits.result (number c.index-b-i.result) (c.bits.ensures ∙ ap (λ x. digits U64 (number x)) c.itself.ensures.same) c.itself.ensures.typed
          ∙ ap (λ n. wrap g.T.Native.elem (pos n)) (eqb-true c.bits.result c.bits-bits.result equal));
    }
