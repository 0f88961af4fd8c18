use Rattle.std.proofs.Common.{refl, arith}
use Rattle.std.specs.Prelude.{slice_index_or}
use Rattle.arr_bound.proofs.Words.{first_here}
use Rattle.arr_bound.proofs.sets.first_in.Goals as goal

pub returns-then-word-ne0 : goal.returns-then-word-ne0
returns-then-word-ne0 c =
    first_here c.args.set.now c.args.from c.loop-index.index (slice_index_or c.args.set.now c.loop-index.index 0) c.loop-index-test.true refl c.loop-index.auto.index (let fits = c.type_inv.set c.loop-index.index in omega (arith, fits.fits)) c.if-word-ne0.true c.loop-index.invariant
