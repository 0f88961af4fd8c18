use Rattle.std.proofs.Common.{◌∙◌, ◌≡◌, ◌+◌, ◌<◌, ℤ, drop, length, true, pos, get_or, set, take, ap, sym, subst, arith, rules, to_z, of_z}
use Rattle.std.specs.Int.{w32, w64, w128}
use lib.IntN.{nat_abs}
use mir.Val.{SFits}
use Rattle.std.proofs.lemmas.List.{get_or-drop}
use Rattle.arr_num.specs.Numbers.{in_type}
use Rattle.arr_num.proofs.Reading.{read}
use Rattle.arr_num.proofs.Wrapping.{fits_of_type}
use Rattle.arr_ops.specs.Memory.{Cell, write}
use Rattle.arr_store.specs.Buffers.{cell_of}
use Rattle.arr_store.specs.Runs.{moved, run_place, run_places}
use Rattle.arr_store.proofs.Lawful.{length-write}
use Rattle.arr_store.proofs.Places.{abs_place, step_place, run_more, left_long, next_typed}
use Rattle.arr_store.proofs.buffer.Buffer.put_numbers.Goals as goal

pub put-requires-clause-place : goal.put-requires-clause-place
put-requires-clause-place c =
    let s = c.args.run.stride in
    let es = run_places c.args.run.start s c.loop-i.i in
    let xs = take c.loop-i.i (drop c.args.at c.args.numbers.now) in
    let there = c.requires.there c.loop-i.i c.loop-i-test.true in
    let place = ap nat_abs c.loop-i.invariant.here ∙ abs_place (moved (pos c.args.run.start) s c.loop-i.i) there.0 in
    let long = ap (λ (k : Cell). length k.numbers) c.loop-i.invariant.done ∙ length-write es xs (cell_of c.args.self.now).numbers in
    subst (λ p. p < length (cell_of c.loop-i.self).numbers) (sym place) (subst (λ n. run_place c.args.run.start s c.loop-i.i < n) (sym long) there.1)

pub put-requires-clause-typed : goal.put-requires-clause-typed
put-requires-clause-typed c =
    let t = (cell_of c.args.self.now).elem in
    let z : ℤ = get_or c.args.numbers.now (c.args.at + c.loop-i.i) (pos 0) in
    let typed : in_type (cell_of c.args.self.now).elem z ≡ true =
    next_typed (cell_of c.args.self.now).elem c.args.numbers.now c.args.at c.args.run.count c.loop-i.i c.loop-i-test.true c.requires.numbers c.requires.typed in
    ap (in_type (cell_of c.loop-i.self).elem) (read z (fits_of_type (cell_of c.args.self.now).elem z typed))
    ∙ ap (λ (k : Cell). in_type k.elem z) c.loop-i.invariant.done ∙ typed

pub loop-i-preserved : goal.loop-i-preserved
loop-i-preserved c =
    let s = c.args.run.stride in
    let small : SFits w32 c.args.run.stride = search rules in
    let m = drop c.args.at c.args.numbers.now in
    let old = (cell_of c.args.self.now).numbers in
    let z : ℤ = get_or c.args.numbers.now (c.args.at + c.loop-i.i) (pos 0) in
    let p = run_place c.args.run.start s c.loop-i.i in
    let es = run_places c.args.run.start s c.loop-i.i in
    let there = c.requires.there c.loop-i.i c.loop-i-test.true in
    let place = ap nat_abs c.loop-i.invariant.here ∙ abs_place (moved (pos c.args.run.start) s c.loop-i.i) there.0 in
    let typed : in_type (cell_of c.args.self.now).elem z ≡ true =
    next_typed (cell_of c.args.self.now).elem c.args.numbers.now c.args.at c.args.run.count c.loop-i.i c.loop-i-test.true c.requires.numbers c.requires.typed in
    let same = read z (fits_of_type (cell_of c.args.self.now).elem z typed) in
    let left = left_long c.args.at c.loop-i.i c.args.numbers.now (omega (arith, c.loop-i-test.true, c.requires.numbers)) in
    record {
      here = step_place c.args.run.start s (to_z w64 c.loop-i.place-bits) c.loop-i.i small c.loop-i.invariant.here there.0;
      done = c.put.ensures
          ∙ ap (λ (k : Cell). let r : Cell = record { elem = k.elem; numbers = set k.numbers (nat_abs (to_z w64 c.loop-i.place-bits)) (to_z w128 (of_z w128 z)) } in r) c.loop-i.invariant.done
          ∙ ap (λ q. let r : Cell = record { elem = (cell_of c.args.self.now).elem; numbers = set (write es (take c.loop-i.i m) old) q (to_z w128 (of_z w128 z)) } in r) place
          ∙ ap (λ x. let r : Cell = record { elem = (cell_of c.args.self.now).elem; numbers = set (write es (take c.loop-i.i m) old) p x } in r)
          (same ∙ sym (get_or-drop c.args.at c.args.numbers.now c.loop-i.i (pos 0)))
          ∙ ap (λ ns. let r : Cell = record { elem = (cell_of c.args.self.now).elem; numbers = ns } in r) (sym (run_more c.args.run.start s c.loop-i.i m old left));
    }
