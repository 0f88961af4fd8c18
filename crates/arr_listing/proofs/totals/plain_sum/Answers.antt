use Rattle.std.proofs.Common.{◌∙◌, ◌<◌, ◌≤◌, length, sym, arith}
use Rattle.std.proofs.lemmas.Int.{ints}
use Rattle.std.proofs.Math.IntN.{+ℤ_idl}
use Rattle.arr_store.specs.Slots.{slots_of}
use Rattle.arr_listing.specs.Shown.{numbers_of}
use Rattle.arr_listing.specs.Totals.{plain_sum}
use Rattle.arr_listing.proofs.Rows.{size_is}
use Rattle.arr_listing.proofs.Summing.{Added, added, sum_end}
use Rattle.arr_listing.proofs.totals.plain_sum.Goals as goal

pub loop-position-init : goal.loop-position-init
loop-position-init c = record { sum = +ℤ_idl (plain_sum (numbers_of (slots_of c.args.slots.now c.args.slot))); bounded = record { low = omega (arith, ints); high = omega (arith, ints) } }

pub overflow_add-sum : goal.overflow_add-sum
overflow_add-sum c =
    let o = slots_of c.args.slots.now c.args.slot in
    let i = c.loop-position.position in
    let before : i < c.args.count = c.loop-position-test.true in
    let inside : i < length (numbers_of o) = omega (arith, c.requires.all, size_is o) in
    let a : Added (numbers_of o) i _ c.get-sum.result = added o i _ c.get-sum.result inside (omega (arith, c.requires.few)) c.get-sum.ensures.typed c.get-sum.ensures.number c.loop-position.invariant.bounded in
    a.fits

pub loop-position-preserved : goal.loop-position-preserved
loop-position-preserved c =
    let o = slots_of c.args.slots.now c.args.slot in
    let i = c.loop-position.position in
    let before : i < c.args.count = c.loop-position-test.true in
    let inside : i < length (numbers_of o) = omega (arith, c.requires.all, size_is o) in
    let a : Added (numbers_of o) i _ c.get-sum.result = added o i _ c.get-sum.result inside (omega (arith, c.requires.few)) c.get-sum.ensures.typed c.get-sum.ensures.number c.loop-position.invariant.bounded in
    record { sum = a.total ∙ c.loop-position.invariant.sum; bounded = a.bounded }

pub returns : goal.returns
returns c =
    let o = slots_of c.args.slots.now c.args.slot in
    let i = c.loop-position.position in
    let past : length (numbers_of o) ≤ i = let a : c.args.count ≤ i = c.loop-position-test.false in omega (arith, c.requires.all, size_is o) in
    sym (sum_end (numbers_of o) i _ past) ∙ c.loop-position.invariant.sum
