use Rattle.arr_loop.proofs.Planned.{Ended, Next, all_ran, block_ran, going_at, going_begins, next_block, numbers_of}
use Rattle.arr_loop.proofs.plans.run_blocks.Goals as goal

pub loop-block-init : goal.loop-block-init
loop-block-init c = going_begins c.args.ops.now c.args.store.now c.args.slots.now (numbers_of c.args.blocks.now) c.requires.formed c.requires.fitting c.requires.legal c.requires.blank

pub run_block-requires-clause-fit : goal.run_block-requires-clause-fit
run_block-requires-clause-fit c =
    let next : Next c.args.ops.now c.loop-block.store c.loop-block.slots c.deref.result.now =
    next_block c.requires.formed (going_at c.args.blocks.now c.loop-block.block-index c.block-item.result c.deref.result.now c.loop-block-test.true c.block-item.is c.deref.ensures.value c.loop-block.invariant) c.requires.legal c.requires.few c.requires.room c.requires.room_stores c.requires.room_made in
    next.fit

pub run_block-requires-clause-shown : goal.run_block-requires-clause-shown
run_block-requires-clause-shown c =
    let next : Next c.args.ops.now c.loop-block.store c.loop-block.slots c.deref.result.now =
    next_block c.requires.formed (going_at c.args.blocks.now c.loop-block.block-index c.block-item.result c.deref.result.now c.loop-block-test.true c.block-item.is c.deref.ensures.value c.loop-block.invariant) c.requires.legal c.requires.few c.requires.room c.requires.room_stores c.requires.room_made in
    next.shown

pub run_block-requires-clause-room : goal.run_block-requires-clause-room
run_block-requires-clause-room c =
    let next : Next c.args.ops.now c.loop-block.store c.loop-block.slots c.deref.result.now =
    next_block c.requires.formed (going_at c.args.blocks.now c.loop-block.block-index c.block-item.result c.deref.result.now c.loop-block-test.true c.block-item.is c.deref.ensures.value c.loop-block.invariant) c.requires.legal c.requires.few c.requires.room c.requires.room_stores c.requires.room_made in
    next.loads

pub run_block-requires-clause-room_stores : goal.run_block-requires-clause-room_stores
run_block-requires-clause-room_stores c =
    let next : Next c.args.ops.now c.loop-block.store c.loop-block.slots c.deref.result.now =
    next_block c.requires.formed (going_at c.args.blocks.now c.loop-block.block-index c.block-item.result c.deref.result.now c.loop-block-test.true c.block-item.is c.deref.ensures.value c.loop-block.invariant) c.requires.legal c.requires.few c.requires.room c.requires.room_stores c.requires.room_made in
    next.stores

pub run_block-requires-clause-room_made : goal.run_block-requires-clause-room_made
run_block-requires-clause-room_made c =
    let next : Next c.args.ops.now c.loop-block.store c.loop-block.slots c.deref.result.now =
    next_block c.requires.formed (going_at c.args.blocks.now c.loop-block.block-index c.block-item.result c.deref.result.now c.loop-block-test.true c.block-item.is c.deref.ensures.value c.loop-block.invariant) c.requires.legal c.requires.few c.requires.room c.requires.room_stores c.requires.room_made in
    next.made

pub loop-block-preserved : goal.loop-block-preserved
loop-block-preserved c =
    block_ran c.requires.formed (going_at c.args.blocks.now c.loop-block.block-index c.block-item.result c.deref.result.now c.loop-block-test.true c.block-item.is c.deref.ensures.value c.loop-block.invariant) c.in_ok-run_block.ensures.memory c.in_ok-run_block.ensures.loads c.in_ok-run_block.ensures.stores c.in_ok-run_block.ensures.made

pub returns-clause-bases : goal.returns-clause-bases
returns-clause-bases c =
    let ended : Ended c.args.ops.now c.args.store.now c.loop-block.store c.loop-block.slots (numbers_of c.args.blocks.now) = all_ran c.args.blocks.now c.loop-block.block-index c.requires.formed c.requires.fitting c.requires.legal c.requires.blank c.loop-block-test.false c.loop-block.invariant in
    ended.bases

pub returns-clause-shown : goal.returns-clause-shown
returns-clause-shown c =
    let ended : Ended c.args.ops.now c.args.store.now c.loop-block.store c.loop-block.slots (numbers_of c.args.blocks.now) = all_ran c.args.blocks.now c.loop-block.block-index c.requires.formed c.requires.fitting c.requires.legal c.requires.blank c.loop-block-test.false c.loop-block.invariant in
    ended.slots

pub returns-clause-loads : goal.returns-clause-loads
returns-clause-loads c =
    let ended : Ended c.args.ops.now c.args.store.now c.loop-block.store c.loop-block.slots (numbers_of c.args.blocks.now) = all_ran c.args.blocks.now c.loop-block.block-index c.requires.formed c.requires.fitting c.requires.legal c.requires.blank c.loop-block-test.false c.loop-block.invariant in
    ended.loads

pub returns-clause-stores : goal.returns-clause-stores
returns-clause-stores c =
    let ended : Ended c.args.ops.now c.args.store.now c.loop-block.store c.loop-block.slots (numbers_of c.args.blocks.now) = all_ran c.args.blocks.now c.loop-block.block-index c.requires.formed c.requires.fitting c.requires.legal c.requires.blank c.loop-block-test.false c.loop-block.invariant in
    ended.stores

pub returns-clause-made : goal.returns-clause-made
returns-clause-made c =
    let ended : Ended c.args.ops.now c.args.store.now c.loop-block.store c.loop-block.slots (numbers_of c.args.blocks.now) = all_ran c.args.blocks.now c.loop-block.block-index c.requires.formed c.requires.fitting c.requires.legal c.requires.blank c.loop-block-test.false c.loop-block.invariant in
    ended.made
