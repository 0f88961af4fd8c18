use Rattle.std.proofs.Common.{◌≡◌, ◌<◌, ◌+◌, ◌⊎◌, ℕ, List, drop, get_or, inl, inr, max, min, subst, arith}
use Rattle.std.specs.Prelude.{nat_lt}
use Rattle.arr_ops.specs.Order.{In}
use Rattle.arr_ops.proofs.Tests.{pairs_of}
use Rattle.arr_heur.specs.Planners.{pairs}
use Rattle.arr_greedy.specs.Standing.{IsPriced}
use Rattle.arr_greedy.proofs.Bounds.{at_in, both_in, in_below, pair_rises, pairs_next, row_place}
use Rattle.arr_greedy.proofs.pricing.price_all.Goals as goal

pub price_row-requires-clause-left_in : goal.price_row-requires-clause-left_in
price_row-requires-clause-left_in c = at_in c.args.keys.now c.loop-place.place c.loop-place-test.true

pub loop-place-preserved : goal.loop-place-preserved
loop-place-preserved c =
    let keys : List ℕ = c.args.keys.now in
    let P = IsPriced c.args.costs.now c.args.blocks.now c.args.fuses.now c.args.reaches.now keys c.price_row.new.saved c.price_row.new.bounds c.args.width in
    let place : ℕ = c.loop-place.place in
    let left : ℕ = get_or keys place 0 in
    let rest : List ℕ = drop (place + 1) keys in
    record {
      saved_size = c.price_row.ensures.saved_size;
      bounds_size = c.price_row.ensures.bounds_size;
      priced = λ p i. elim (c.loop-place.invariant.priced p i) as (λ _. In p (pairs rest) ⊎ P p.0 p.1) [
        | inl j ↦ elim (pairs_next keys place c.loop-place-test.true p j) as (λ _. In p (pairs rest) ⊎ P p.0 p.1) [
          | inl k ↦
              let r = row_place keys place p k in
              let first : p.0 ≡ left = r.first in
              let second : p.1 ≡ get_or keys r.at 0 = r.second in
              let rises : p.0 < p.1 = pair_rises keys (pairs_of nat_lt keys c.requires.rising) p i in
              inr (subst (λ x. P x p.1) (let e : min left (get_or keys r.at 0) ≡ p.0 = omega arith in e)
              (subst (λ y. P (min left (get_or keys r.at 0)) y) (let e : max left (get_or keys r.at 0) ≡ p.1 = omega arith in e) (c.price_row.ensures.priced r.at r.behind r.inside)))
          | inr k ↦ inl k
        ]
        | inr h ↦
            let b = both_in keys p i in
            inr (c.price_row.ensures.stays keys p.0 p.1 (in_below keys c.args.width c.requires.keys_in p.0 b.0) (in_below keys c.args.width c.requires.keys_in p.1 b.1) h)
      ];
    }
