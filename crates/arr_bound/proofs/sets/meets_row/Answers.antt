use Rattle.std.proofs.Common.{refl, arith, length, ◌+◌, ◌*◌}
use Rattle.std.specs.Prelude.{slice_index_or}
use Rattle.arr_bound.proofs.Words.{met_here, missed_more}
use Rattle.arr_bound.proofs.sets.meets_row.Goals as goal

pub returns-then-set-index-ne0-clause-some : goal.returns-then-set-index-ne0-clause-some
returns-then-set-index-ne0-clause-some c = λ _.
    met_here c.args.set.now c.args.rows.now (length c.args.set.now) c.args.f c.loop-index.index (slice_index_or c.args.set.now c.loop-index.index 0) (slice_index_or c.args.rows.now (c.args.f * length c.args.set.now + c.loop-index.index) 0) refl refl (let fits = c.type_inv.set c.loop-index.index in omega (arith, fits.fits)) c.if-set-index-ne0.true

pub loop-index-preserved : goal.loop-index-preserved
loop-index-preserved c =
    missed_more c.args.set.now c.args.rows.now (length c.args.set.now) c.args.f c.loop-index.index (slice_index_or c.args.set.now c.loop-index.index 0) (slice_index_or c.args.rows.now (c.args.f * length c.args.set.now + c.loop-index.index) 0) refl refl c.if-set-index-ne0.false c.loop-index.invariant
