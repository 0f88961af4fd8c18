use Rattle.std.proofs.Common.{◌≡◌, ◌≤◌, ◌++◌, take, drop, length, ap, sym, subst, ◌∙◌, arith}
use Rattle.std.specs.Prelude.{slice_get}
use Rattle.arr_num.specs.Numbers.{fold_start, in_type, value}
use Rattle.arr_native.specs.Entries.{entry}
use Rattle.arr_store.specs.Stored.{cells}
use Rattle.arr_lanes.specs.Lanes.{Becomes, IsLane, held, number}
use Rattle.arr_sums.specs.Scanning.{ScansOn}
use Rattle.arr_sums.specs.Kept.{AreOf, ChangesWithin, kept_at}
use Rattle.arr_machine.proofs.Blocks.{item_at}
use Rattle.arr_machine.proofs.Lines.{becomes_own, steady_one, written_back}
use Rattle.arr_machine.proofs.Scans.{scan_asks, scan_below, scan_dest, scan_ready, scan_stands}
use Rattle.arr_machine.proofs.Starts.{scans_elsewhere, start_in, start_passed}
use Rattle.arr_machine.proofs.folds.scan_typed.Goals as goal

pub fold_start-requires : goal.fold_start-requires
fold_start-requires g c =
    let op = item_at c.args._ops.now c.args._index c.requires.there in
    let asks = scan_asks c.args._ops.now c.args.strip.position c.args.strip.count c.args.strip.room c.requires.strip c.args._index op.0 c.requires.there op.1 c.args.along c.args.dest c.args.lanes.now (c.requires.task op.0 op.1) c.args.strip.width c.args.places.now (cells c.args.store.now) c.args.numbers.now c.requires.ready in
    asks.code

pub narrow-start-requires : goal.narrow-start-requires
narrow-start-requires g c =
    ap (in_type g.T.Native.elem) (start_passed c.args.along.code c.args.along.elem c.fold_start.result c.fold_start.ensures ∙ ap (fold_start c.args.along.code) c.requires.elem) ∙ start_in c.args.along.code g.T.Native.elem

pub numbers_of-source-requires : goal.numbers_of-source-requires
numbers_of-source-requires g c =
    let op = item_at c.args._ops.now c.args._index c.requires.there in
    let asks = scan_asks c.args._ops.now c.args.strip.position c.args.strip.count c.args.strip.room c.requires.strip c.args._index op.0 c.requires.there op.1 c.args.along c.args.dest c.args.lanes.now (c.requires.task op.0 op.1) c.args.strip.width c.args.places.now (cells c.args.store.now) c.args.numbers.now c.requires.ready in
    record {
      lane = subst (λ y. IsLane y c.args.strip.room (slice_get c.args.lanes.now c.args.along.source)) c.requires.elem asks.source;
      places = c.requires.ready.placed;
      wide = c.requires.ready.wide;
    }

pub scan_strip-requires : goal.scan_strip-requires
scan_strip-requires g c =
    let op = item_at c.args._ops.now c.args._index c.requires.there in
    let asks = scan_asks c.args._ops.now c.args.strip.position c.args.strip.count c.args.strip.room c.requires.strip c.args._index op.0 c.requires.there op.1 c.args.along c.args.dest c.args.lanes.now (c.requires.task op.0 op.1) c.args.strip.width c.args.places.now (cells c.args.store.now) c.args.numbers.now c.requires.ready in
    let within : c.args.strip.count ≤ c.args.strip.room = c.requires.strip.within in
    let items : length c.as_mut_slice.result.now ≡ length c.args.spare.now.items = ap length c.as_mut_slice.ensures.value in
    record {
      code = asks.code;
      out = omega (arith, c.requires.spare);
      source = omega (arith, c.numbers_of-source.ensures.long, c.requires.ready.within);
      carries = asks.there;
      typed = subst (λ y. AreOf y c.args.numbers.now c.args.along.kept c.args.along.axis.inner) c.requires.elem asks.typed;
      some = asks.fits.some;
      inner = asks.fits.inner;
      inside = asks.fits.inside;
      short = asks.fits.short;
    }

pub put-requires : goal.put-requires
put-requires g c =
    let op = item_at c.args._ops.now c.args._index c.requires.there in
    let back : take c.args.spare.now.len (c.scan_strip.new.out ++ drop (length c.scan_strip.new.out) c.args.spare.now.items) ≡ c.scan_strip.new.out =
    written_back c.args.spare.now.len c.scan_strip.new.out c.args.spare.now.items c.as_mut_slice.result.now c.as_mut_slice.ensures.value c.as_mut_slice.ensures.len c.scan_strip.ensures.out in
    let items : length c.as_mut_slice.result.now ≡ length c.args.spare.now.items = ap length c.as_mut_slice.ensures.value in
    record {
      dest = subst (λ y. IsLane y c.args.strip.room (slice_get c.args.lanes.now c.args.dest)) c.requires.elem (scan_dest c.args._ops.now c.args.strip.position c.args.strip.count c.args.strip.room c.requires.strip c.args._index op.0 c.requires.there op.1 c.args.along c.args.dest c.args.lanes.now (c.requires.task op.0 op.1) c.args.strip.width c.args.places.now (cells c.args.store.now) c.args.numbers.now c.requires.ready);
      list = omega (arith, c.requires.spare, c.scan_strip.ensures.out, ap length back);
    }

pub returns-clause-stands : goal.returns-clause-stands
returns-clause-stands g c =
    let op = item_at c.args._ops.now c.args._index c.requires.there in
    let back : take c.args.spare.now.len (c.scan_strip.new.out ++ drop (length c.scan_strip.new.out) c.args.spare.now.items) ≡ c.scan_strip.new.out =
    written_back c.args.spare.now.len c.scan_strip.new.out c.args.spare.now.items c.as_mut_slice.result.now c.as_mut_slice.ensures.value c.as_mut_slice.ensures.len c.scan_strip.ensures.out in
    let put : Becomes c.args.along.elem c.args.strip.room c.args.strip.count c.args.dest (number c.put.new.lanes c.args.dest) c.args.lanes.now c.put.new.lanes =
    becomes_own g.T.Native.elem c.args.along.elem c.args.strip.room c.args.strip.count c.args.dest (entry g.T.Native.number (take c.args.spare.now.len (c.scan_strip.new.out ++ drop (length c.scan_strip.new.out) c.args.spare.now.items)))
    c.args.lanes.now c.put.new.lanes (sym c.requires.elem) c.put.ensures.lanes in
    let start : g.T.Native.number c.narrow-start.result ≡ fold_start c.args.along.code c.args.along.elem = c.narrow-start.ensures ∙ start_passed c.args.along.code c.args.along.elem c.fold_start.result c.fold_start.ensures in
    let v = value c.args.along.code g.T.Native.elem in
    let own : ScansOn v (g.T.Native.number c.narrow-start.result) c.args.along.axis.length c.args.along.axis.inner (kept_at c.args.numbers.now c.args.along.kept) (kept_at c.scan_strip.new.carries c.args.along.kept)
    (number c.put.new.lanes c.args.dest) (entry g.T.Native.number c.numbers_of-source.result.now) c.args.strip.position 0 c.args.strip.count =
    scans_elsewhere v (g.T.Native.number c.narrow-start.result) c.args.along.axis.length c.args.along.axis.inner (kept_at c.args.numbers.now c.args.along.kept) (kept_at c.scan_strip.new.carries c.args.along.kept)
    (entry g.T.Native.number c.scan_strip.new.out) (number c.put.new.lanes c.args.dest) (entry g.T.Native.number c.numbers_of-source.result.now) c.args.strip.position c.args.strip.count
    (λ i u. c.put.ensures.lanes.numbers i u ∙ ap (λ ns. entry g.T.Native.number ns i) back) c.scan_strip.ensures.scanned in
    scan_stands c.args._ops.now c.args.strip.position c.args.strip.count c.args.strip.room c.requires.strip c.args._index op.0 c.requires.there op.1 c.args.along c.args.dest c.args.lanes.now (c.requires.task op.0 op.1) c.args.strip.width c.args.places.now (cells c.args.store.now) c.args.numbers.now c.requires.ready c.scan_strip.new.carries c.put.new.lanes
    (subst (λ y. ChangesWithin y c.args.along.kept c.args.along.axis.inner c.args.numbers.now c.scan_strip.new.carries) (sym c.requires.elem) c.scan_strip.ensures.carries)
    put
    (subst (λ y. ScansOn (value c.args.along.code y) (fold_start c.args.along.code c.args.along.elem) c.args.along.axis.length c.args.along.axis.inner (kept_at c.args.numbers.now c.args.along.kept)
    (kept_at c.scan_strip.new.carries c.args.along.kept) (number c.put.new.lanes c.args.dest) (held c.args.lanes.now c.args.places.now (cells c.args.store.now) c.args.along.source) c.args.strip.position 0 c.args.strip.count) (sym c.requires.elem)
    (subst (λ z. ScansOn v z c.args.along.axis.length c.args.along.axis.inner (kept_at c.args.numbers.now c.args.along.kept)
    (kept_at c.scan_strip.new.carries c.args.along.kept) (number c.put.new.lanes c.args.dest) (held c.args.lanes.now c.args.places.now (cells c.args.store.now) c.args.along.source) c.args.strip.position 0 c.args.strip.count) start
    (subst (λ s. ScansOn v (g.T.Native.number c.narrow-start.result) c.args.along.axis.length c.args.along.axis.inner (kept_at c.args.numbers.now c.args.along.kept)
    (kept_at c.scan_strip.new.carries c.args.along.kept) (number c.put.new.lanes c.args.dest) s c.args.strip.position 0 c.args.strip.count) (λ i k. c.numbers_of-source.ensures.each k i) own)))

pub returns-clause-ready : goal.returns-clause-ready
returns-clause-ready g c =
    let op = item_at c.args._ops.now c.args._index c.requires.there in
    let put : Becomes c.args.along.elem c.args.strip.room c.args.strip.count c.args.dest (number c.put.new.lanes c.args.dest) c.args.lanes.now c.put.new.lanes =
    becomes_own g.T.Native.elem c.args.along.elem c.args.strip.room c.args.strip.count c.args.dest (entry g.T.Native.number (take c.args.spare.now.len (c.scan_strip.new.out ++ drop (length c.scan_strip.new.out) c.args.spare.now.items)))
    c.args.lanes.now c.put.new.lanes (sym c.requires.elem) c.put.ensures.lanes in
    scan_ready c.args._ops.now c.args.strip.position c.args.strip.count c.args.strip.room c.requires.strip c.args._index op.0 c.requires.there op.1 c.args.along c.args.dest c.args.lanes.now (c.requires.task op.0 op.1) c.args.strip.width c.args.places.now (cells c.args.store.now) c.args.numbers.now c.requires.ready c.scan_strip.new.carries c.put.new.lanes
    (subst (λ y. ChangesWithin y c.args.along.kept c.args.along.axis.inner c.args.numbers.now c.scan_strip.new.carries) (sym c.requires.elem) c.scan_strip.ensures.carries)
    put

pub returns-clause-steady : goal.returns-clause-steady
returns-clause-steady g c =
    let op = item_at c.args._ops.now c.args._index c.requires.there in
    let put : Becomes c.args.along.elem c.args.strip.room c.args.strip.count c.args.dest (number c.put.new.lanes c.args.dest) c.args.lanes.now c.put.new.lanes =
    becomes_own g.T.Native.elem c.args.along.elem c.args.strip.room c.args.strip.count c.args.dest (entry g.T.Native.number (take c.args.spare.now.len (c.scan_strip.new.out ++ drop (length c.scan_strip.new.out) c.args.spare.now.items)))
    c.args.lanes.now c.put.new.lanes (sym c.requires.elem) c.put.ensures.lanes in
    steady_one c.args._ops.now c.args.along.elem c.args.strip.room c.args.strip.count c.args.dest (number c.put.new.lanes c.args.dest) c.args.lanes.now c.put.new.lanes put
    (scan_dest c.args._ops.now c.args.strip.position c.args.strip.count c.args.strip.room c.requires.strip c.args._index op.0 c.requires.there op.1 c.args.along c.args.dest c.args.lanes.now (c.requires.task op.0 op.1) c.args.strip.width c.args.places.now (cells c.args.store.now) c.args.numbers.now c.requires.ready)
    (scan_below c.args._ops.now c.args.strip.position c.args.strip.count c.args.strip.room c.requires.strip c.args._index op.0 c.requires.there op.1 c.args.along c.args.dest c.args.lanes.now (c.requires.task op.0 op.1) c.args.strip.width c.args.places.now (cells c.args.store.now) c.args.numbers.now c.requires.ready)
