use Rattle.std.proofs.Common.{◌∙◌, ap, arith, ◌+◌}
use Rattle.std.proofs.lemmas.Result.{on_ok_weaker}
use Rattle.arr_store.specs.Cells.{assigned}
use Rattle.arr_store.specs.Stored.{cells, picked_cell}
use Rattle.arr_gather.proofs.Numbers.{places_inside}
use Rattle.arr_gather.proofs.Picked.{fitting, leaves_gathered, weights}
use Rattle.arr_gather.proofs.gathering.gather.Goals as goal

pub pick-requires-clause-source : goal.pick-requires-clause-source
pick-requires-clause-source c =
    let s = c.args.store.now in
    let op = c.args.op.now in
    places_inside (cells s op.source.base) op.to op.source (fitting op s c.requires.fitting).source

pub pick-requires-clause-index : goal.pick-requires-clause-index
pick-requires-clause-index c =
    let s = c.args.store.now in
    let op = c.args.op.now in
    places_inside (cells s op.index.base) op.of op.index (fitting op s c.requires.fitting).index

pub pick-requires-clause-absent : goal.pick-requires-clause-absent
pick-requires-clause-absent c =
    let s = c.args.store.now in
    let op = c.args.op.now in
    ap (cells s) c.base.ensures.value ∙ (fitting op s c.requires.fitting).out

pub pick-requires-clause-room_loads : goal.pick-requires-clause-room_loads
pick-requires-clause-room_loads c =
    let some = (weights c.args.op.now c.args.store.now c.requires.lawful c.requires.fitting).some_loaded in
    let room = c.requires.room_loads in
    omega arith

pub pick-requires-clause-room_stores : goal.pick-requires-clause-room_stores
pick-requires-clause-room_stores c =
    let some = (weights c.args.op.now c.args.store.now c.requires.lawful c.requires.fitting).some_stored in
    let room = c.requires.room_stores in
    omega arith

pub returns-clause-bases : goal.returns-clause-bases
returns-clause-bases c =
    let s = c.args.store.now in
    let op = c.args.op.now in
    on_ok_weaker c.pick.result
    (λ is. leaves_gathered op s c.pick.new.self (fitting op s c.requires.fitting).source (is ∙ ap (λ b. assigned (cells s) b (picked_cell s op.source op.index)) c.base.ensures.value))
    c.pick.ensures.bases

pub returns-clause-loads : goal.returns-clause-loads
returns-clause-loads c =
    let w = weights c.args.op.now c.args.store.now c.requires.lawful c.requires.fitting in
    on_ok_weaker c.pick.result (λ rise. let loaded = w.loaded in omega arith) c.pick.ensures.loads

pub returns-clause-stores : goal.returns-clause-stores
returns-clause-stores c =
    let s = c.args.store.now in
    let w = weights c.args.op.now s c.requires.lawful c.requires.fitting in
    on_ok_weaker c.pick.result (λ rise. rise ∙ ap (λ n. s.stores + n) w.stored) c.pick.ensures.stores
