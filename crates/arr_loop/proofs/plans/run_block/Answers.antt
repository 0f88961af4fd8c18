use Rattle.arr_ops.specs.Plans.{numbered, ops_of}
use Rattle.arr_loop.proofs.Planned.{block_left, block_loads, block_stores}
use Rattle.arr_loop.proofs.plans.run_block.Goals as goal

pub returns-clause-memory : goal.returns-clause-memory
returns-clause-memory c =
    block_left c.in_ok-prepared.prepared.ops (ops_of (numbered c.args.ops.now) c.args.block.now) c.args.store.now c.open.new.store c.run_opened.new.store c.args.slots.now c.run_opened.new.slots c.in_ok-prepared.ensures
    c.in_ok-open.ensures.back c.run_opened.ensures.bases c.run_opened.ensures.slots

pub returns-clause-loads : goal.returns-clause-loads
returns-clause-loads c =
    block_loads c.args.ops.now c.args.block.now c.in_ok-prepared.prepared.ops c.args.store.now.loads c.open.new.store.loads c.run_opened.new.store.loads c.requires.formed c.in_ok-prepared.ensures c.in_ok-open.ensures.opened.loads
    c.run_opened.ensures.loads

pub returns-clause-stores : goal.returns-clause-stores
returns-clause-stores c =
    block_stores c.args.ops.now c.args.block.now c.in_ok-prepared.prepared.ops c.args.store.now.stores c.open.new.store.stores c.run_opened.new.store.stores c.requires.formed c.in_ok-prepared.ensures c.in_ok-open.ensures.opened.stores
    c.run_opened.ensures.stores
