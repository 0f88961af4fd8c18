use Rattle.std.proofs.Common.{◌*◌, ◌≤◌, sym, subst, arith}
use Rattle.std.specs.Prelude.{slice_get}
use Rattle.arr_num.specs.Numbers.{value}
use Rattle.arr_store.specs.Stored.{cells}
use Rattle.arr_lanes.specs.Lanes.{IsLane, held}
use Rattle.arr_sums.specs.Gathering.{FoldsOn}
use Rattle.arr_sums.specs.Kept.{AreOf, ChangesWithin, kept_at}
use Rattle.arr_machine.proofs.Blocks.{item_at}
use Rattle.arr_machine.proofs.Reductions.{fold_asks, fold_ready, fold_stands}
use Rattle.arr_machine.proofs.folds.fold_typed.Goals as goal

pub numbers_of-source-requires : goal.numbers_of-source-requires
numbers_of-source-requires g c =
    let op = item_at c.args._ops.now c.args._index c.requires.there in
    let asks = fold_asks c.args._ops.now c.args.strip.position c.args.strip.count c.args.strip.room c.requires.strip c.args._index op.0 c.requires.there op.1 c.args.along c.args.lanes.now
    (c.requires.task op.0 op.1) c.args.strip.width c.args.places.now (cells c.args.store.now) c.args.numbers.now c.requires.ready in
    record {
      lane = subst (λ y. IsLane y c.args.strip.room (slice_get c.args.lanes.now c.args.along.source)) c.requires.elem asks.source;
      places = c.requires.ready.placed;
      wide = c.requires.ready.wide;
    }

pub fold_strip-requires : goal.fold_strip-requires
fold_strip-requires g c =
    let op = item_at c.args._ops.now c.args._index c.requires.there in
    let asks = fold_asks c.args._ops.now c.args.strip.position c.args.strip.count c.args.strip.room c.requires.strip c.args._index op.0 c.requires.there op.1 c.args.along c.args.lanes.now
    (c.requires.task op.0 op.1) c.args.strip.width c.args.places.now (cells c.args.store.now) c.args.numbers.now c.requires.ready in
    let within : c.args.strip.count ≤ c.args.strip.room = c.requires.strip.within in
    record {
      code = asks.code;
      source = omega (arith, c.numbers_of-source.ensures.long, c.requires.ready.within);
      sums = asks.there;
      typed = subst (λ y. AreOf y c.args.numbers.now c.args.along.kept (c.args.along.axis.outer * c.args.along.axis.inner)) c.requires.elem asks.typed;
      few = asks.fits.few;
      some = asks.fits.some;
      inner = asks.fits.inner;
      inside = asks.fits.inside;
      short = asks.fits.short;
    }

pub returns-clause-ready : goal.returns-clause-ready
returns-clause-ready g c =
    let op = item_at c.args._ops.now c.args._index c.requires.there in
    fold_ready c.args._ops.now c.args.strip.position c.args.strip.count c.args.strip.room c.requires.strip c.args._index op.0 c.requires.there op.1 c.args.along c.args.lanes.now (c.requires.task op.0 op.1)
    c.args.strip.width c.args.places.now (cells c.args.store.now) c.args.numbers.now c.requires.ready c.fold_strip.new.sums
    (subst (λ y. ChangesWithin y c.args.along.kept (c.args.along.axis.outer * c.args.along.axis.inner) c.args.numbers.now c.fold_strip.new.sums) (sym c.requires.elem) c.fold_strip.ensures.changes)

pub returns-clause-stands : goal.returns-clause-stands
returns-clause-stands g c =
    let op = item_at c.args._ops.now c.args._index c.requires.there in
    fold_stands c.args._ops.now c.args.strip.position c.args.strip.count c.args.strip.room c.requires.strip c.args._index op.0 c.requires.there op.1 c.args.along c.args.lanes.now (c.requires.task op.0 op.1)
    c.args.strip.width c.args.places.now (cells c.args.store.now) c.args.numbers.now c.requires.ready c.fold_strip.new.sums
    (subst (λ y. ChangesWithin y c.args.along.kept (c.args.along.axis.outer * c.args.along.axis.inner) c.args.numbers.now c.fold_strip.new.sums) (sym c.requires.elem) c.fold_strip.ensures.changes)
    (held c.args.lanes.now c.args.places.now (cells c.args.store.now))
    (subst (λ y. FoldsOn (value c.args.along.code y) c.args.along.axis.length c.args.along.axis.inner (c.args.along.axis.outer * c.args.along.axis.inner) (kept_at c.args.numbers.now c.args.along.kept)
    (kept_at c.fold_strip.new.sums c.args.along.kept) (held c.args.lanes.now c.args.places.now (cells c.args.store.now) c.args.along.source) c.args.strip.position 0 c.args.strip.count) (sym c.requires.elem)
    (subst (λ s. FoldsOn (value c.args.along.code g.T.Native.elem) c.args.along.axis.length c.args.along.axis.inner (c.args.along.axis.outer * c.args.along.axis.inner) (kept_at c.args.numbers.now c.args.along.kept)
    (kept_at c.fold_strip.new.sums c.args.along.kept) s c.args.strip.position 0 c.args.strip.count) (λ i k. c.numbers_of-source.ensures.each k i) c.fold_strip.ensures.gathered))
