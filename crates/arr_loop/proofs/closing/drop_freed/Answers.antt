use Rattle.std.proofs.Common.{◌∙◌, ap, sym, subst, cond, None}
use Rattle.std.specs.Prelude.{IsSome}
use Rattle.arr_store.specs.Stored.{cells}
use Rattle.arr_loop.proofs.Dropping.{dropped_more, freed_here}
use Rattle.arr_loop.proofs.closing.drop_freed.Goals as goal

pub drop_base-requires-clause-there : goal.drop_base-requires-clause-there
drop_base-requires-clause-there c b gone kept =
    let here = freed_here c.args.prepared.now.ops c.ops-ops.result.now c.loop-op.op-index c.op-item.result b c.contracted-contracted.result.now c.ops-ops.ensures.value c.loop-op-test.true c.op-item.is c.ops-ops.ensures.block c.contracted-contracted.ensures gone in
    subst (λ x. IsSome x) (sym (c.loop-op.invariant.bases b ∙ ap (λ z. cond z None (cells c.args.store.now b)) here.before)) (c.requires.there b here.freed (here.made ∙ kept))

pub drop_base-requires-clause-absent : goal.drop_base-requires-clause-absent
drop_base-requires-clause-absent c b gone made =
    let here = freed_here c.args.prepared.now.ops c.ops-ops.result.now c.loop-op.op-index c.op-item.result b c.contracted-contracted.result.now c.ops-ops.ensures.value c.loop-op-test.true c.op-item.is c.ops-ops.ensures.block c.contracted-contracted.ensures gone in
    c.loop-op.invariant.bases b ∙ ap (λ z. cond z None (cells c.args.store.now b)) here.before ∙ c.requires.absent b here.freed (here.made ∙ made)

pub loop-op-preserved : goal.loop-op-preserved
loop-op-preserved c =
    record {
      bases = λ b. dropped_more c.ops-ops.result.now c.loop-op.op-index c.op-item.result (cells c.args.store.now) (cells c.loop-op.store) (cells c.drop_base.new.store) c.loop-op-test.true c.op-item.is c.loop-op.invariant.bases c.drop_base.ensures.bases b;
      loads = c.drop_base.ensures.loads ∙ c.loop-op.invariant.loads;
      stores = c.drop_base.ensures.stores ∙ c.loop-op.invariant.stores;
      made = c.drop_base.ensures.made ∙ c.loop-op.invariant.made;
    }
