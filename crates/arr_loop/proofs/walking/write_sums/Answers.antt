use Rattle.std.proofs.Common.{◌≡◌, ◌∙◌, ◌+◌, ◌<◌, List, length, map, get_or, ap, sym, subst}
use Rattle.std.specs.List.{range_with_len}
use Rattle.arr_ops.specs.declared.op.Op.{Op}
use Rattle.arr_ops.specs.Costs.{total, weight}
use Rattle.arr_store.specs.Stored.{cells}
use Rattle.arr_strips.specs.Columns.{count, folds_to}
use Rattle.arr_strips.specs.Strips.{kept, put_out}
use Rattle.arr_loop.specs.Sums.{sum_kept, sum_views}
use Rattle.arr_loop.proofs.Summed.{Summed, next_there, summed_more}
use Rattle.arr_loop.proofs.walking.write_sums.Goals as goal

pub write_sum-requires-clause-there : goal.write_sum-requires-clause-there
write_sum-requires-clause-there c =
    next_there c.args.prepared.now.ops c.args.prepared.now.numbers c.loop-place.place c.index-ops-place.result c.args.store.now c.loop-place.store
    (subst (λ (os : List Op). c.loop-place.place < length os) c.ops-ops.ensures.value c.loop-place-test.true)
    (subst (λ (os : List Op). c.index-ops-place.result ≡ get_or os c.loop-place.place c.index-ops-place.result) c.ops-ops.ensures.value c.index-ops-place.is)
    (subst (λ (os : List Op). Summed os c.args.prepared.now.numbers c.loop-place.place c.args.store.now c.loop-place.store) c.ops-ops.ensures.value c.loop-place.invariant) c.requires.there

pub loop-place-preserved : goal.loop-place-preserved
loop-place-preserved c =
    summed_more c.ops-ops.result.now c.args.prepared.now.numbers c.loop-place.place c.index-ops-place.result c.args.store.now c.loop-place.store c.write_sum.new.store c.loop-place-test.true c.index-ops-place.is
    (c.write_sum.ensures.bases
    ∙ ap (λ (os : List Op). put_out (kept os (folds_to c.index-ops-place.result)) (map (sum_kept os c.args.prepared.now.numbers c.loop-place.place) (range_with_len 0 (count c.index-ops-place.result))) (cells c.loop-place.store)) (sym c.ops-ops.ensures.value))
    (c.write_sum.ensures.stores ∙ ap (λ (os : List Op). c.loop-place.store.stores + total (weight os) (sum_views os c.index-ops-place.result)) (sym c.ops-ops.ensures.value))
    c.write_sum.ensures.loads c.write_sum.ensures.made c.loop-place.invariant
