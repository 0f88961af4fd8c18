use Rattle.std.proofs.Common.{◌≡◌, ◌≤◌, ◌<◌, ℕ, List, get_or, inl, inr, length, max, min, subst, sym, arith}
use Rattle.std.proofs.lemmas.Bool.{cases_lt}
use Rattle.arr_ops.specs.Order.{In}
use Rattle.arr_greedy.specs.Standing.{IsPriced}
use Rattle.arr_greedy.proofs.Bounds.{at_in, in_below}
use Rattle.arr_greedy.proofs.pricing.price_row.Goals as goal

pub price_pair-requires-clause-right_in : goal.price_pair-requires-clause-right_in
price_pair-requires-clause-right_in c =
    let left : c.args.left < c.args.width = in_below c.args.keys.now c.args.width c.requires.keys_in c.args.left c.requires.left_in in
    let other : get_or c.args.keys.now c.loop-place.place 0 < c.args.width = c.requires.keys_in c.loop-place.place 0 c.loop-place-test.true in
    let most : c.max.result ≡ max c.args.left (get_or c.args.keys.now c.loop-place.place 0) = c.max.ensures in
    omega arith

pub returns-clause-priced : goal.returns-clause-priced
returns-clause-priced c i f l =
    let end : length c.args.keys.now ≤ c.loop-place.place = c.loop-place-test.false in
    c.loop-place.invariant.priced i f (omega arith)

pub loop-place-preserved : goal.loop-place-preserved
loop-place-preserved c =
    let keys : List ℕ = c.args.keys.now in
    let P = IsPriced c.args.costs.now c.args.blocks.now c.args.fuses.now c.args.reaches.now keys c.price_pair.new.saved c.price_pair.new.bounds c.args.width in
    let left : c.args.left < c.args.width = in_below keys c.args.width c.requires.keys_in c.args.left c.requires.left_in in
    let here : c.loop-place.place < length keys = c.loop-place-test.true in
    let other : ℕ = get_or keys c.loop-place.place 0 in
    let ends = least_most keys c.args.left other c.requires.left_in (at_in keys c.loop-place.place here) in
    record {
      saved_size = c.price_pair.ensures.saved_size;
      bounds_size = c.price_pair.ensures.bounds_size;
      priced = λ i f l. elim (cases_lt i c.loop-place.place) as (λ _. P (min c.args.left (get_or keys i 0)) (max c.args.left (get_or keys i 0))) [
        | inl s ↦
            let o : get_or keys i 0 < c.args.width = c.requires.keys_in i 0 (omega arith) in
            c.price_pair.ensures.stays keys (min c.args.left (get_or keys i 0)) (max c.args.left (get_or keys i 0)) (omega arith) (omega arith) (c.loop-place.invariant.priced i f s)
        | inr s ↦
            let e : c.loop-place.place ≡ i = omega arith in
            subst (λ k. P (min c.args.left (get_or keys k 0)) (max c.args.left (get_or keys k 0))) e
            (subst (λ x. P x (max c.args.left other)) c.min.ensures (subst (λ y. P c.min.result y) c.max.ensures
            (c.price_pair.ensures.priced keys (c.requires.keys_in, c.requires.ways, subst (λ x. In x keys) (sym c.min.ensures) ends.0, subst (λ x. In x keys) (sym c.max.ensures) ends.1))))
      ];
      stays = λ keys x y lx ly h. c.price_pair.ensures.stays keys x y lx ly (c.loop-place.invariant.stays keys x y lx ly h);
    }
  where
    least_most : (keys : List ℕ) (a b : ℕ) → In a keys → In b keys → In (min a b) keys × In (max a b) keys
    least_most keys a b i j =
        elim (cases_lt a b) as (λ _. In (min a b) keys × In (max a b) keys) [
          | inl l ↦ (subst (λ k. In k keys) (let e : a ≡ min a b = omega arith in e) i, subst (λ k. In k keys) (let e : b ≡ max a b = omega arith in e) j)
          | inr l ↦ (subst (λ k. In k keys) (let e : b ≡ min a b = omega arith in e) j, subst (λ k. In k keys) (let e : a ≡ max a b = omega arith in e) i)
        ]
