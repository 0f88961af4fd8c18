use Rattle.std.proofs.Common.{◌∙◌, ◌<◌, ◌+◌, pos, map, drop, length, set, take, ap, sym, subst, arith, rules, to_z}
use Rattle.std.proofs.Math.ListN.{length-set}
use Rattle.std.proofs.lemmas.List.{map-set, length-map, get_or-drop}
use Rattle.std.specs.Int.{w32, w64}
use lib.IntN.{nat_abs}
use mir.Val.{SFits}
use Rattle.arr_num.specs.Numbers.{in_type}
use Rattle.arr_ops.specs.Memory.{write}
use Rattle.arr_native.proofs.Entries.{entry_is}
use Rattle.arr_store.specs.Runs.{moved, run_place, run_places}
use Rattle.arr_store.proofs.Places.{abs_place, step_place, run_more, typed_more, left_long}
use Rattle.arr_store.proofs.runs.scatter_each.Goals as goal

pub loop-i-preserved : goal.loop-i-preserved
loop-i-preserved g c =
    let s = c.args.run.stride in
    let all = map g.T.Native.number c.args.source.now in
    let m = drop c.args.at all in
    let old = map g.T.Native.number c.args.out.now in
    let z = g.T.Native.number c.itself.result in
    let inside = c.requires.there c.loop-i.i c.loop-i-test.true in
    let here = c.loop-i.invariant.here in
    let small : SFits w32 c.args.run.stride = search rules in
    let place = ap nat_abs here ∙ abs_place (moved (pos c.args.run.start) s c.loop-i.i) inside.0 in
    let reads : c.args.at + c.loop-i.i < length c.args.source.now = omega (arith, c.loop-i-test.true, c.requires.source) in
    let known = left_long c.args.at c.loop-i.i all (subst (λ k. c.args.at + c.loop-i.i < k) (sym (length-map c.args.source.now g.T.Native.number)) reads) in
    let number = get_or-drop c.args.at all c.loop-i.i (pos 0) ∙ entry_is g.T.Native.number c.args.source.now (c.args.at + c.loop-i.i) c.index-source-at.result reads c.index-source-at.is in
    let same = number ∙ ap g.T.Native.number (sym c.itself.ensures.same) in
    record {
      long = length-set c.loop-i.out (nat_abs (to_z w64 c.loop-i.place-bits)) c.itself.result ∙ c.loop-i.invariant.long;
      here = step_place c.args.run.start s (to_z w64 c.loop-i.place-bits) c.loop-i.i small here inside.0;
      done = map-set g.T.Native.number c.loop-i.out (nat_abs (to_z w64 c.loop-i.place-bits)) c.itself.result
          ∙ ap (λ ns. set ns (nat_abs (to_z w64 c.loop-i.place-bits)) z) c.loop-i.invariant.done
          ∙ ap (λ k. set (write (run_places c.args.run.start s c.loop-i.i) (take c.loop-i.i m) old) k z) place
          ∙ ap (set (write (run_places c.args.run.start s c.loop-i.i) (take c.loop-i.i m) old) (run_place c.args.run.start s c.loop-i.i)) (sym same)
          ∙ sym (run_more c.args.run.start s c.loop-i.i m old known);
      typed = typed_more g.T.Native.elem m c.loop-i.i known c.loop-i.invariant.typed (ap (in_type g.T.Native.elem) number ∙ c.itself.ensures.typed);
    }
