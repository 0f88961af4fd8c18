use Rattle.std.proofs.Common.{◌≡◌, ◌+◌, ◌<◌, ◌≤◌, ◌∙◌, Some, length, get_or, set, refl, ap, sym, subst, arith}
use Rattle.std.specs.Prelude.{slice_get}
use Rattle.std.proofs.lemmas.List.{get_or_default, length-set}
use Rattle.arr_store.specs.Buffers.{cell_of}
use Rattle.arr_store.specs.Runs.{IsOf}
use Rattle.arr_store.specs.Stored.{cells}
use Rattle.arr_strips.specs.Blocks.{block_positions}
use Rattle.arr_strips.specs.Registers.{number_in, register_views}
use Rattle.arr_lanes.specs.Lanes.{PlaceFits, PlacesFit, held, held_at, lane_number}
use Rattle.arr_lanes.proofs.Places.{set_elsewhere, set_here}
use Rattle.arr_machine.specs.Lent.{AreOwn}
use Rattle.arr_machine.specs.Ports.{Brings, StandsAt}
use Rattle.arr_machine.specs.Tasks.{Steady}
use Rattle.arr_machine.proofs.Brings.{brings, fit_changed, own_kept, own_lent, stands_fit, stands_held}
use Rattle.arr_machine.proofs.Few.{few_block}
use Rattle.arr_machine.proofs.Gates.{lane_inside, lane_is_typed, lane_there}
use Rattle.arr_machine.proofs.Loads.{put_steady}
use Rattle.arr_machine.proofs.port.load_port.Goals as goal

pub count_loads-requires-clause-few : goal.count_loads-requires-clause-few
count_loads-requires-clause-few c =
    let few : block_positions c.args._ops.now ≤ 1048576 = few_block c.args._ops.now c.requires.strip.block in
    let inside : c.args.strip.position + c.args.strip.count ≤ block_positions c.args._ops.now = c.requires.strip.inside in
    omega arith

pub overflow_cast-strip : goal.overflow_cast-strip
overflow_cast-strip c =
    let few : block_positions c.args._ops.now ≤ 1048576 = few_block c.args._ops.now c.requires.strip.block in
    let inside : c.args.strip.position + c.args.strip.count ≤ block_positions c.args._ops.now = c.requires.strip.inside in
    omega arith

pub bounds-lanes-port : goal.bounds-lanes-port
bounds-lanes-port c = lane_inside c.args._ops.now c.args.strip.room c.args.lanes.now c.requires.typed c.args.port.now.rows c.args.port.now.lane c.requires.port.lane c.requires.port.register

pub load-requires-clause-base : goal.load-requires-clause-base
load-requires-clause-base c =
    let lane = get_or c.args.lanes.now c.args.port.now.lane c.index-lanes-port.result in
    let inside = lane_inside c.args._ops.now c.args.strip.room c.args.lanes.now c.requires.typed c.args.port.now.rows c.args.port.now.lane c.requires.port.lane c.requires.port.register in
    let is = get_or_default c.args.lanes.now c.args.port.now.lane c.index-lanes-port.result lane inside in
    let kept = lane_is_typed c.args._ops.now c.args.strip.room c.args.lanes.now c.requires.typed c.args.port.now.rows c.args.port.now.lane c.requires.port.lane c.requires.port.register lane is in
    subst (λ y. IsOf y (cells c.args.store.now c.args.port.now.rows.base)) (sym kept.0) c.requires.there.typed

pub load-requires-clause-lane : goal.load-requires-clause-lane
load-requires-clause-lane c =
    let lane = get_or c.args.lanes.now c.args.port.now.lane c.index-lanes-port.result in
    let inside = lane_inside c.args._ops.now c.args.strip.room c.args.lanes.now c.requires.typed c.args.port.now.rows c.args.port.now.lane c.requires.port.lane c.requires.port.register in
    let is = get_or_default c.args.lanes.now c.args.port.now.lane c.index-lanes-port.result lane inside in
    let kept = lane_is_typed c.args._ops.now c.args.strip.room c.args.lanes.now c.requires.typed c.args.port.now.rows c.args.port.now.lane c.requires.port.lane c.requires.port.register lane is in
    let within : c.args.strip.count ≤ c.args.strip.room = c.requires.strip.within in
    let room : c.args.strip.room ≤ length (cell_of lane).numbers = kept.1 in
    omega arith

pub returns-in-Some-clause-loaded : goal.returns-in-Some-clause-loaded
returns-in-Some-clause-loaded c =
    let inside : c.args.port.now.lane < length c.args.lanes.now = lane_inside c.args._ops.now c.args.strip.room c.args.lanes.now c.requires.typed c.args.port.now.rows c.args.port.now.lane c.requires.port.lane c.requires.port.register in
    let there : number_in (register_views c.args._ops.now) c.args.port.now.rows < length c.args.places.now = subst (λ r. r < length c.args.places.now) c.requires.port.lane (omega (arith, c.requires.places.long)) in
    let at : StandsAt c.args._ops.now c.args.strip (cells c.args.store.now) c.args.port.now.rows c.in-Some.place = c.in-Some.ensures in
    subst (λ r. Brings c.args._ops.now c.args.strip c.args.port.now.rows (cells c.args.store.now) (held c.args.lanes.now c.args.places.now (cells c.args.store.now)) (held c.args.lanes.now (set c.args.places.now r c.place_of-place.result) (cells c.args.store.now))) (sym c.requires.port.lane)
    (brings c.args._ops.now c.args.port.now.rows c.requires.port.register c.args.places.now c.requires.own c.place_of-place.result c.args.strip c.args.lanes.now c.args.lanes.now (cells c.args.store.now) (λ r ne. refl) there
    (λ i u. ap (λ q. held_at (cells c.args.store.now) q (slice_get c.args.lanes.now (number_in (register_views c.args._ops.now) c.args.port.now.rows)) i) c.in-Some.is ∙ stands_held c.args._ops.now c.args.strip (cells c.args.store.now) c.args.port.now.rows c.in-Some.place i at u))

pub returns-in-Some-clause-places : goal.returns-in-Some-clause-places
returns-in-Some-clause-places c =
    let inside : c.args.port.now.lane < length c.args.lanes.now = lane_inside c.args._ops.now c.args.strip.room c.args.lanes.now c.requires.typed c.args.port.now.rows c.args.port.now.lane c.requires.port.lane c.requires.port.register in
    let there : number_in (register_views c.args._ops.now) c.args.port.now.rows < length c.args.places.now = subst (λ r. r < length c.args.places.now) c.requires.port.lane (omega (arith, c.requires.places.long)) in
    let at : StandsAt c.args._ops.now c.args.strip (cells c.args.store.now) c.args.port.now.rows c.in-Some.place = c.in-Some.ensures in
    subst (λ r. PlacesFit c.args.strip.width c.args.lanes.now (set c.args.places.now r c.place_of-place.result) (cells c.args.store.now)) (sym c.requires.port.lane)
    (fit_changed c.args._ops.now c.args.port.now.rows c.requires.port.register c.args.places.now c.requires.own c.place_of-place.result c.args.strip.width c.args.lanes.now c.args.lanes.now (cells c.args.store.now) refl (λ r ne. refl) there
    (subst (PlaceFits c.args.strip.width (cells c.args.store.now) (slice_get c.args.lanes.now (number_in (register_views c.args._ops.now) c.args.port.now.rows))) (sym c.in-Some.is)
    (stands_fit c.args._ops.now c.args.strip (cells c.args.store.now) c.args.port.now.rows c.in-Some.place c.args.strip.room (slice_get c.args.lanes.now (number_in (register_views c.args._ops.now) c.args.port.now.rows)) at c.requires.there (c.requires.typed c.args.port.now.rows c.requires.port.register))) c.requires.places)

pub returns-in-Some-clause-own : goal.returns-in-Some-clause-own
returns-in-Some-clause-own c =
    let at : StandsAt c.args._ops.now c.args.strip (cells c.args.store.now) c.args.port.now.rows c.in-Some.place = c.in-Some.ensures in
    subst (λ r. AreOwn c.args._ops.now (set c.args.places.now r c.place_of-place.result)) (sym c.requires.port.lane) (own_lent c.args._ops.now c.args.port.now.rows c.requires.port.register c.args.places.now c.requires.own c.place_of-place.result at.lent)

pub returns-in-None-clause-loaded : goal.returns-in-None-clause-loaded
returns-in-None-clause-loaded c =
    let inside : c.args.port.now.lane < length c.args.lanes.now = lane_inside c.args._ops.now c.args.strip.room c.args.lanes.now c.requires.typed c.args.port.now.rows c.args.port.now.lane c.requires.port.lane c.requires.port.register in
    let there : number_in (register_views c.args._ops.now) c.args.port.now.rows < length c.args.places.now = subst (λ r. r < length c.args.places.now) c.requires.port.lane (omega (arith, c.requires.places.long)) in
    subst (λ r. Brings c.args._ops.now c.args.strip c.args.port.now.rows (cells c.args.store.now) (held c.args.lanes.now c.args.places.now (cells c.args.store.now)) (held (set c.args.lanes.now r c.load.new.lane) (set c.args.places.now r c.place_of-place.result) (cells c.args.store.now))) (sym c.requires.port.lane)
    (brings c.args._ops.now c.args.port.now.rows c.requires.port.register c.args.places.now c.requires.own c.place_of-place.result c.args.strip c.args.lanes.now (set c.args.lanes.now (number_in (register_views c.args._ops.now) c.args.port.now.rows) c.load.new.lane) (cells c.args.store.now) (λ r ne. set_elsewhere c.args.lanes.now (number_in (register_views c.args._ops.now) c.args.port.now.rows) c.load.new.lane r ne) there
    (λ i u. ap (λ q. held_at (cells c.args.store.now) q (slice_get (set c.args.lanes.now (number_in (register_views c.args._ops.now) c.args.port.now.rows) c.load.new.lane) (number_in (register_views c.args._ops.now) c.args.port.now.rows)) i) c.in-None.is
    ∙ ap (λ l. lane_number l i) (set_here c.args.lanes.now (number_in (register_views c.args._ops.now) c.args.port.now.rows) c.load.new.lane (subst (λ r. r < length c.args.lanes.now) c.requires.port.lane inside)) ∙ c.load.ensures.each i u))

pub returns-in-None-clause-places : goal.returns-in-None-clause-places
returns-in-None-clause-places c =
    let inside : c.args.port.now.lane < length c.args.lanes.now = lane_inside c.args._ops.now c.args.strip.room c.args.lanes.now c.requires.typed c.args.port.now.rows c.args.port.now.lane c.requires.port.lane c.requires.port.register in
    let there : number_in (register_views c.args._ops.now) c.args.port.now.rows < length c.args.places.now = subst (λ r. r < length c.args.places.now) c.requires.port.lane (omega (arith, c.requires.places.long)) in
    subst (λ r. PlacesFit c.args.strip.width (set c.args.lanes.now r c.load.new.lane) (set c.args.places.now r c.place_of-place.result) (cells c.args.store.now)) (sym c.requires.port.lane)
    (fit_changed c.args._ops.now c.args.port.now.rows c.requires.port.register c.args.places.now c.requires.own c.place_of-place.result c.args.strip.width c.args.lanes.now (set c.args.lanes.now (number_in (register_views c.args._ops.now) c.args.port.now.rows) c.load.new.lane) (cells c.args.store.now) (length-set c.args.lanes.now (number_in (register_views c.args._ops.now) c.args.port.now.rows) c.load.new.lane)
    (λ r ne. set_elsewhere c.args.lanes.now (number_in (register_views c.args._ops.now) c.args.port.now.rows) c.load.new.lane r ne) there
    (subst (PlaceFits c.args.strip.width (cells c.args.store.now) (slice_get (set c.args.lanes.now (number_in (register_views c.args._ops.now) c.args.port.now.rows) c.load.new.lane) (number_in (register_views c.args._ops.now) c.args.port.now.rows))) (sym c.in-None.is) tt) c.requires.places)

pub returns-in-None-clause-own : goal.returns-in-None-clause-own
returns-in-None-clause-own c =
    let inside : c.args.port.now.lane < length c.args.lanes.now = lane_inside c.args._ops.now c.args.strip.room c.args.lanes.now c.requires.typed c.args.port.now.rows c.args.port.now.lane c.requires.port.lane c.requires.port.register in
    let there : number_in (register_views c.args._ops.now) c.args.port.now.rows < length c.args.places.now = subst (λ r. r < length c.args.places.now) c.requires.port.lane (omega (arith, c.requires.places.long)) in
    subst (λ r. AreOwn c.args._ops.now (set c.args.places.now r c.place_of-place.result)) (sym c.requires.port.lane) (own_kept c.args._ops.now c.args.port.now.rows c.requires.port.register c.args.places.now c.requires.own c.place_of-place.result c.in-None.is there)

pub returns-in-None-clause-steady : goal.returns-in-None-clause-steady
returns-in-None-clause-steady c =
    let inside = lane_inside c.args._ops.now c.args.strip.room c.args.lanes.now c.requires.typed c.args.port.now.rows c.args.port.now.lane c.requires.port.lane c.requires.port.register in
    let lane = get_or c.args.lanes.now c.args.port.now.lane c.index-lanes-port.result in
    let is = get_or_default c.args.lanes.now c.args.port.now.lane c.index-lanes-port.result lane inside in
    let register = subst (λ r. slice_get c.args.lanes.now r ≡ Some lane) c.requires.port.lane (lane_there c.args._ops.now c.args.strip.room c.args.lanes.now c.requires.typed c.args.port.now.rows c.args.port.now.lane c.requires.port.lane c.requires.port.register lane is) in
    subst (λ r. Steady c.args._ops.now c.args.strip.room c.args.lanes.now (set c.args.lanes.now r c.load.new.lane)) (sym c.requires.port.lane)
    (put_steady c.args._ops.now c.args.strip.room c.args.lanes.now c.args.port.now.rows c.requires.port.register lane c.load.new.lane register c.load.ensures.elem c.load.ensures.length)
