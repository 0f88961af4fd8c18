use Rattle.std.proofs.Common.{◌≡◌, ◌≢◌, ◌∙◌, ◌+◌, ap, refl, arith, length}
use Rattle.arr_ops.proofs.Parts.{length-elements}
use Rattle.arr_store.specs.Stored.{cells}
use Rattle.arr_view.specs.Views.{elements, positions}
use Rattle.arr_gather.proofs.Feeding.{kept_feeds, kept_weight}
use Rattle.arr_gather.proofs.Numbers.{length-read}
use Rattle.arr_gather.proofs.feed.feed_of.Goals as goal

pub returns-then-base-written-clause-feeds : goal.returns-then-base-written-clause-feeds
returns-then-base-written-clause-feeds c =
    let v = c.args.view.now in
    let apart : v.base ≢ c.args.written = λ e. c.if-base-written.true (c.base.ensures.value ∙ e) in
    kept_feeds (cells c.args.store.now) c.args.ty v c.args.written c.base-then-base-written.result c.new.result c.requires.holds (length-elements v c.base.ensures.lawful) c.base-then-base-written.ensures.value c.new.ensures apart

pub returns-then-base-written-clause-loads : goal.returns-then-base-written-clause-loads
returns-then-base-written-clause-loads c =
    let v = c.args.view.now in
    ap (λ n. c.args.store.now.loads + n) (kept_weight (cells c.args.store.now) c.args.ty v c.base-then-base-written.result c.new.result c.requires.holds (length-elements v c.base.ensures.lawful) c.base-then-base-written.ensures.value c.new.ensures)

pub copied-requires-clause-loads : goal.copied-requires-clause-loads
copied-requires-clause-loads c =
    let v = c.args.view.now in
    let weight = kept_weight (cells c.args.store.now) c.args.ty v v.base (elements v) c.requires.holds (length-elements v c.base.ensures.lawful) refl refl in
    omega (arith, c.requires.loads)

pub returns-clause-feeds : goal.returns-clause-feeds
returns-clause-feeds c =
    let v = c.args.view.now in
    let long : length c.in_ok-numbers.numbers.items ≡ positions v.lengths = ap length c.in_ok-numbers.ensures.numbers ∙ length-read (cells c.args.store.now v.base) (elements v) ∙ length-elements v c.base.ensures.lawful in
    record { count_is = omega arith; inside = tt; apart = tt }

pub returns-clause-loads : goal.returns-clause-loads
returns-clause-loads c =
    let v = c.args.view.now in
    let weight = kept_weight (cells c.args.store.now) c.args.ty v v.base (elements v) c.requires.holds (length-elements v c.base.ensures.lawful) refl refl in
    omega (arith, c.in_ok-numbers.ensures.loads)
