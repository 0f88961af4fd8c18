use Rattle.std.proofs.Common.{◌≡◌, ◌∙◌, ◌-◌, ◌+◌, ◌<◌, ap, sym, subst, suc, arith, length, get_or, to_z, of_z}
use Rattle.std.specs.FinMap as finite
use Rattle.std.specs.Int.{w128}
use Rattle.arr_num.proofs.Reading.{read}
use Rattle.arr_num.proofs.Wrapping.{fits_of_type}
use Rattle.arr_ops.proofs.Parts.{length-elements}
use Rattle.arr_ops.specs.Gathers.{position_named}
use Rattle.arr_store.specs.Cells.{assigned, size_at, width_at, with_number}
use Rattle.arr_store.specs.Stored.{cells}
use Rattle.arr_view.specs.Views.{elements, positions}
use Rattle.arr_view.proofs.Checks.{lawful}
use Rattle.arr_view.proofs.Counting.{some_position}
use Rattle.arr_gather.specs.Feeds.{spot}
use Rattle.arr_gather.proofs.Numbers.{element_inside}
use Rattle.arr_gather.proofs.Scattered.{Scattering, Taken, all_scattered, scattering_more, scattering_starts, taken_there, taken_typed}
use Rattle.arr_gather.proofs.scattering.place_all.Goals as goal

pub loop-position-init : goal.loop-position-init
loop-position-init c =
    let s = c.args.store.now in
    let e : positions c.args.op.now.index.lengths ≡ c.positions-position-end.result - 0 = omega (arith, c.positions-position-end.ensures.value) in
    subst (Scattering c.args.op.now s s c.args.index c.args.values c.args.index c.args.values 0) e (scattering_starts c.args.op.now s c.args.index c.args.values c.requires.can)

pub position_named-named-requires : goal.position_named-named-requires
position_named-named-requires c =
    let some = some_position c.args.op.now.target.lengths (lawful c.args.op.now.target c.positions-count.ensures.lawful).lengths in
    omega (arith, c.positions-count.ensures.value)

pub store-requires-clause-there : goal.store-requires-clause-there
store-requires-clause-there c =
    let target = c.args.op.now.target in
    let long : length (elements target) ≡ positions target.lengths = length-elements target c.positions-count.ensures.lawful in
    let count = c.positions-count.ensures.value in
    let below : c.position_named-named.result < length (elements target) = omega (arith, c.position_named-named.ensures.below) in
    let inside = element_inside (cells c.args.store.now) c.args.op.now.to target c.position_named-named.result c.requires.can.target below in
    let size : size_at (cells c.next-value.new.store c.base.result) ≡ size_at (cells c.args.store.now target.base) =
    ap (λ b. size_at (cells c.next-value.new.store b)) c.base.ensures.value ∙ ap (λ m. size_at (finite.get m target.base)) (c.next-value.ensures.bases ∙ c.next.ensures.bases)
    ∙ ap size_at c.loop-position.invariant.target ∙ c.loop-position.invariant.size in
    let is = c.element_at.ensures.value in
    omega arith

pub loop-position-preserved : goal.loop-position-preserved
loop-position-preserved c =
    let op = c.args.op.now in
    let now = c.loop-position.store in
    let mid = c.next.new.store in
    let far = c.next-value.new.store in
    let position = c.loop-position.position in
    let left = c.positions-position-end.result - (position + 1) in
    let more : c.positions-position-end.result - position ≡ suc left = omega (arith, c.loop-position-test.true) in
    let k : Scattering op c.args.store.now now c.args.index c.args.values c.loop-position.index c.loop-position.values position (suc left) =
    subst (Scattering op c.args.store.now now c.args.index c.args.values c.loop-position.index c.loop-position.values position) more c.loop-position.invariant in
    let i = c.next.result in
    let x = c.next-value.result in
    let a : Taken (cells now) now mid position c.loop-position.index c.next.new.self i =
    record { number = c.next.ensures.number; inside = c.next.ensures.inside; apart = c.next.ensures.apart; loads = c.next.ensures.loads; bases = c.next.ensures.bases; stores = c.next.ensures.stores; made = c.next.ensures.made } in
    let b : Taken (cells now) mid far position c.loop-position.values c.next-value.new.self x =
    taken_there now mid far position c.loop-position.values c.next-value.new.self x c.next.ensures.bases
    (record { number = c.next-value.ensures.number; inside = c.next-value.ensures.inside; apart = c.next-value.ensures.apart; loads = c.next-value.ensures.loads; bases = c.next-value.ensures.bases; stores = c.next-value.ensures.stores; made = c.next-value.ensures.made }) in
    let read_i : to_z w128 (of_z w128 i) ≡ i = read i (fits_of_type op.of i (taken_typed op op.of (cells now) position c.loop-position.index c.next.new.self i k.index_typed a.number)) in
    let read_x : to_z w128 (of_z w128 x) ≡ x = read x (fits_of_type op.to x (taken_typed op op.to (cells now) position c.loop-position.values c.next-value.new.self x k.values_typed b.number)) in
    let long : c.positions-count.result ≡ length (elements op.target) = c.positions-count.ensures.value ∙ sym (length-elements op.target c.positions-count.ensures.lawful) in
    let place : c.element_at.result ≡ spot (elements op.target) i =
    c.element_at.ensures.value ∙ ap (λ n. get_or (elements op.target) n 0) (c.position_named-named.ensures.value ∙ ap (position_named c.positions-count.result) read_i ∙ ap (λ n. position_named n i) long) in
    let bases : cells c.store.new.self ≡ assigned (cells far) op.target.base (with_number (cells far op.target.base) c.element_at.result x) =
    c.store.ensures.bases ∙ ap (λ b. assigned (cells far) b (with_number (cells far b) c.element_at.result (to_z w128 (of_z w128 x)))) c.base.ensures.value
    ∙ ap (λ y. assigned (cells far) op.target.base (with_number (cells far op.target.base) c.element_at.result y)) read_x in
    scattering_more op c.args.store.now now mid far c.store.new.self c.args.index c.args.values c.loop-position.index c.loop-position.values c.next.new.self c.next-value.new.self position left c.element_at.result i x
    k a b place bases c.store.ensures.loads (c.store.ensures.stores ∙ ap (λ b. far.stores + width_at (cells far b)) c.base.ensures.value) c.store.ensures.made

pub returns : goal.returns
returns c =
    let none : c.positions-position-end.result - c.loop-position.position ≡ 0 = omega (arith, c.loop-position-test.false) in
    record {
      places =
          all_scattered c.args.op.now c.args.store.now c.loop-position.store c.args.index c.args.values c.loop-position.index c.loop-position.values c.loop-position.position
          (c.positions-position-end.result - c.loop-position.position) c.loop-position.invariant none;
    }
