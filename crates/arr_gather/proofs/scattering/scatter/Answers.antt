use Rattle.std.proofs.Common.{◌≡◌, ◌∙◌, ◌*◌, ap, sym, subst, arith, refl}
use Rattle.std.specs.FinMap as finite
use Rattle.std.specs.List.{list_all}
use Rattle.arr_num.specs.Numbers.{in_type, width}
use Rattle.arr_ops.specs.Costs.{weight_of}
use Rattle.arr_store.specs.Stored.{cells}
use Rattle.arr_view.specs.Views.{positions}
use Rattle.arr_gather.specs.Feeds.{owed, to_come}
use Rattle.arr_gather.specs.Steps.{Holds, numbers_at}
use Rattle.arr_gather.proofs.Placed.{Held, held, leaves_scattered, numbers_typed, same_count, same_feeds}
use Rattle.arr_gather.proofs.scattering.scatter.Goals as goal

pub feed_of-requires-clause-holds : goal.feed_of-requires-clause-holds
feed_of-requires-clause-holds c = (held c.args.op.now c.args.store.now c.requires.fitting).index

pub feed_of-requires-2-clause-holds : goal.feed_of-requires-2-clause-holds
feed_of-requires-2-clause-holds c =
    subst (λ m. Holds (finite.get m) c.args.op.now.to c.args.op.now.values) (sym c.in_ok-index.ensures.bases) (held c.args.op.now c.args.store.now c.requires.fitting).values

pub place_all-requires : goal.place_all-requires
place_all-requires c =
    let s = c.args.store.now in
    let op = c.args.op.now in
    let far = c.feed_of-2.new.store in
    let index = c.in_ok-index.index in
    let values = c.in_ok-values.values in
    let h : Held op s = held op s c.requires.fitting in
    let near = c.in_ok-index.ensures.bases in
    let same : far.bases ≡ s.bases = c.in_ok-values.ensures.bases ∙ near in
    let count = same_count op c.requires.lawful in
    let index_numbers : to_come (cells far) 0 index ≡ numbers_at (cells s) op.index = ap (λ m. to_come (finite.get m) 0 index) same ∙ c.in_ok-index.ensures.numbers in
    let value_numbers : to_come (cells far) 0 values ≡ numbers_at (cells s) op.values =
    ap (λ m. to_come (finite.get m) 0 values) c.in_ok-values.ensures.bases ∙ c.in_ok-values.ensures.numbers ∙ ap (λ m. numbers_at (finite.get m) op.values) near in
    let index_owed : owed (cells far) index ≡ owed (cells s) index = ap (λ m. owed (finite.get m) index) same in
    let values_owed : owed (cells far) values ≡ owed (cells c.feed_of.new.store) values = ap (λ m. owed (finite.get m) values) c.in_ok-values.ensures.bases in
    let loads = c.in_ok-index.ensures.loads in
    let loads_too = c.in_ok-values.ensures.loads in
    let stores = c.in_ok-index.ensures.stores in
    let stores_too = c.in_ok-values.ensures.stores in
    let weight : weight_of op.to op.values ≡ positions op.index.lengths * width op.to = ap (λ n. n * width op.to) count in
    record {
      can = record {
        target = subst (λ m. Holds (finite.get m) op.to op.target) (sym same) h.target;
        index_feeds = same_feeds s far c.base.result op.target.base (positions op.index.lengths) (positions op.index.lengths) index same c.base.ensures.value refl c.in_ok-index.ensures.feeds;
        value_feeds = same_feeds c.feed_of.new.store far c.base-2.result op.target.base (positions op.values.lengths) (positions op.index.lengths) values c.in_ok-values.ensures.bases c.base-2.ensures.value count c.in_ok-values.ensures.feeds;
        typed_index = ap (list_all (in_type op.of)) index_numbers ∙ numbers_typed (cells s) op.of op.index h.index;
        typed_values = ap (list_all (in_type op.to)) value_numbers ∙ numbers_typed (cells s) op.to op.values h.values;
        loads = omega (arith, c.requires.room_loads);
        stores = omega (arith, c.requires.room_stores);
      };
    }

pub returns-clause-bases : goal.returns-clause-bases
returns-clause-bases c =
    let s = c.args.store.now in
    let op = c.args.op.now in
    let near = c.in_ok-index.ensures.bases in
    let values = c.in_ok-values.values in
    let value_numbers : to_come (cells s) 0 values ≡ numbers_at (cells s) op.values =
    ap (λ m. to_come (finite.get m) 0 values) (sym near) ∙ c.in_ok-values.ensures.numbers ∙ ap (λ m. numbers_at (finite.get m) op.values) near in
    leaves_scattered op s c.feed_of-2.new.store c.place_all.new.store c.in_ok-index.index values c.requires.lawful (held op s c.requires.fitting).target (c.in_ok-values.ensures.bases ∙ near)
    c.in_ok-index.ensures.numbers value_numbers c.place_all.ensures.places.bases

pub returns-clause-loads : goal.returns-clause-loads
returns-clause-loads c =
    let s = c.args.store.now in
    let far = c.feed_of-2.new.store in
    let index = c.in_ok-index.index in
    let values = c.in_ok-values.values in
    let index_owed : owed (cells far) index ≡ owed (cells s) index = ap (λ m. owed (finite.get m) index) (c.in_ok-values.ensures.bases ∙ c.in_ok-index.ensures.bases) in
    let values_owed : owed (cells far) values ≡ owed (cells c.feed_of.new.store) values = ap (λ m. owed (finite.get m) values) c.in_ok-values.ensures.bases in
    let loads = c.in_ok-index.ensures.loads in
    let loads_too = c.in_ok-values.ensures.loads in
    let rise = c.place_all.ensures.places.loads in
    omega arith

pub returns-clause-stores : goal.returns-clause-stores
returns-clause-stores c =
    let op = c.args.op.now in
    let count = same_count op c.requires.lawful in
    let weight : weight_of op.to op.values ≡ positions op.index.lengths * width op.to = ap (λ n. n * width op.to) count in
    let stores = c.in_ok-index.ensures.stores in
    let stores_too = c.in_ok-values.ensures.stores in
    let rise = c.place_all.ensures.places.stores in
    omega arith
