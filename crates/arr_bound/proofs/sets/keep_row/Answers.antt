use Rattle.std.proofs.Common.{refl, arith, length, ◌+◌, ◌*◌, ◌<◌, ◌≡◌, ap, ◌∙◌}
use Rattle.std.specs.Prelude.{slice_index_or}
use Rattle.std.proofs.lemmas.List.{length-set}
use Rattle.arr_sets.specs.Bits.{is_set}
use Rattle.arr_bound.proofs.Words.{kept_none, kept_all, kept_turn}
use Rattle.arr_bound.proofs.sets.keep_row.Goals as goal

pub loop-index-init : goal.loop-index-init
loop-index-init c = record { long = refl; kept = kept_none c.args.rows.now (length c.args.set.now.items) c.args.f c.args.set.now.items }

pub loop-index-preserved : goal.loop-index-preserved
loop-index-preserved c =
    let width : c.len.result ≡ length c.args.set.now.items = c.len.ensures ∙ c.args.set.now.ok.0 in
    let long : length c.loop-index.set.items ≡ length c.args.set.now.items = c.loop-index.invariant.long in
    let inside : c.loop-index.index < length c.loop-index.set.items = omega (arith, c.loop-index-test.true, c.len-index-end.ensures, c.args.set.now.ok.0, long) in
    record {
      long = length-set c.loop-index.set.items c.loop-index.index _ ∙ long;
      kept = kept_turn c.args.rows.now (length c.args.set.now.items) c.args.f (is_set c.args.set.now.items) c.loop-index.index c.index_mut.result.now (slice_index_or c.args.rows.now (c.args.f * c.len.result + c.loop-index.index) 0) c.loop-index.set.items inside c.index_mut.ensures.value (ap (λ w. slice_index_or c.args.rows.now (c.args.f * w + c.loop-index.index) 0) width) c.loop-index.invariant.kept;
    }

pub returns-clause-members : goal.returns-clause-members
returns-clause-members c =
    kept_all c.args.rows.now (length c.args.set.now.items) c.args.f c.args.set.now.items c.loop-index.index c.loop-index.set.items (omega (arith, c.loop-index-test.false, c.len-index-end.ensures, c.args.set.now.ok.0)) c.loop-index.invariant.kept
