-- What is known of two blocks stays known when two others are merged.
use Rattle.std.proofs.Common.{◌≡◌, ◌≢◌, ℕ, ◌<◌, min, max, List, [], ◌∷◌, Bool, true, false, cond, not, ◌||◌, ◌&&◌, map, get_or, inl, inr, Option, None, refl, ap, ap₂, sym, subst, ◌∙◌, arith}
use Rattle.std.specs.Prelude.{◌==◌, nat_lt}
use Rattle.std.specs.List.{All, filter, list_any}
use Rattle.std.proofs.lemmas.Bool.{and_from, and_parts, cases_eq, eq-eqb, false≢true, ne_eqb, or_cases, or_left, or_right}
use Rattle.arr_ops.specs.declared.op.Op.{Op}
use Rattle.arr_ops.specs.Formed.{all_pairs}
use Rattle.arr_ops.specs.Order.{In, least_of}
use Rattle.arr_ops.proofs.Members.{any_false, false_any, filter_in, in_append, in_filter}
use Rattle.arr_ops.proofs.Tests.{pairs_of}
use Rattle.arr_heur.specs.Planners.{pairs, saving}
use Rattle.arr_heur.proofs.Merge.{in_map}
use Rattle.arr_greedy.specs.declared.merging.Block.{Block}
use Rattle.arr_greedy.specs.Ways.{lies_between, reach_after}
use Rattle.arr_greedy.specs.Bits.{bit}
use Rattle.arr_greedy.specs.Fast.{amount, block_at, covers, flag, fuses_after, may_merge, row_pairs}
use Rattle.arr_greedy.specs.Tables.{ReachesAfter}
use Rattle.arr_greedy.specs.Standing.{AllPriced, ArePriced, PricesStay, blocks_of, saving_at}
use Rattle.arr_greedy.proofs.Bounds.{back_in, both_in, front_in, in_below, in_index, pair_rises}
use Rattle.arr_greedy.proofs.Fast.{Saves, map_in}

-- ---- pairs of fewer keys

pub pairs_less : (test : ℕ → Bool) (keys : List ℕ) (p : ℕ × ℕ) → In p (pairs (filter test keys)) → In p (pairs keys)
pairs_less test [] p i = absurd i
pairs_less test (k ∷ ks) p i =
    elim (test k) as (λ t. In p (pairs (cond t (k ∷ filter test ks) (filter test ks))) → In p (pairs (k ∷ ks))) [
      | true ↦ λ m. elim (in_append (row_pairs k (filter test ks)) (pairs (filter test ks)) p m) as (λ _. In p (pairs (k ∷ ks))) [
        | inl j ↦
            let r = in_map (pair k) (filter test ks) p j in
            front_in (row_pairs k ks) (pairs ks) p (subst (λ q. In q (row_pairs k ks)) (sym r.2) (map_in (pair k) ks r.0 (in_filter test ks r.0 r.1).0))
        | inr j ↦ back_in (row_pairs k ks) (pairs ks) p (pairs_less test ks p j)
      ]
      | false ↦ λ m. back_in (row_pairs k ks) (pairs ks) p (pairs_less test ks p m)
    ] i
  where
    pair : ℕ → ℕ → ℕ × ℕ
    pair x y = (x, y)

-- ---- two that may be merged could be merged before

not_true : (t : Bool) → not t ≡ true → t ≡ false
not_true true e = absurd (false≢true e)
not_true false e = refl

true_not : (t : Bool) → (t ≡ true → ⊥) → t ≡ false
true_not true h = absurd (h refl)
true_not false h = refl

module _ (R r : ℕ → ℕ → Bool) (keys : List ℕ) (x y : ℕ) (hr : (p q : ℕ) → In p keys → In q keys → p ≢ y → r p q ≡ reach_after (λ k. k) R x y p q) where
  -- what reaches a block does so still; what reached one of the two reaches the first
  elsewhere : (p q : ℕ) → In p keys → In q keys → p ≢ x → p ≢ y → q ≢ x → R p q ≡ true → r p q ≡ true
  elsewhere p q ip iq px py qx e =
      hr p q ip iq py
      ∙ ap₂ (λ s t. cond s (cond t false (R x q || R y q)) (cond t (R p x || R p y) (R p q || ((R p x || R p y) && (R x q || R y q))))) (ne_eqb p x px) (ne_eqb q x qx)
      ∙ or_left (R p q) ((R p x || R p y) && (R x q || R y q)) e

  to_first : (p : ℕ) → In p keys → In x keys → p ≢ x → p ≢ y → (R p x || R p y) ≡ true → r p x ≡ true
  to_first p ip ix px py e =
      hr p x ip ix py
      ∙ ap₂ (λ s t. cond s (cond t false (R x x || R y x)) (cond t (R p x || R p y) (R p x || ((R p x || R p y) && (R x x || R y x))))) (ne_eqb p x px) (eq-eqb x x refl) ∙ e

  from_first : (q : ℕ) → In x keys → In q keys → x ≢ y → q ≢ x → (R x q || R y q) ≡ true → r x q ≡ true
  from_first q ix iq ne qx e =
      hr x q ix iq ne
      ∙ ap₂ (λ s t. cond s (cond t false (R x q || R y q)) (cond t (R x x || R x y) (R x q || ((R x x || R x y) && (R x q || R y q))))) (eq-eqb x x refl) (ne_eqb q x qx) ∙ e

  -- where a block stood between two, one stands there now
  stands : (a b c : ℕ) → In a keys → In b keys → In c keys → In x keys → x ≢ y → a ≢ x → a ≢ y → b ≢ x → b ≢ y
      → lies_between (λ k. k) R a b c ≡ true → lies_between (λ k. k) r a b (cond (c == x || c == y) x c) ≡ true
  stands a b c ia ib ic ix ne ax ay bx by e =
      let h = and_parts (not (c == a || c == b)) ((R a c && R c b) || (R b c && R c a)) e in
      elim (cases_eq c x) as (λ _. lies_between (λ k. k) r a b (cond (c == x || c == y) x c) ≡ true) [
        | inl f ↦
            ap (λ t. lies_between (λ k. k) r a b (cond (t || c == y) x c)) (eq-eqb c x f)
            ∙ at_first (λ p q. or_left (R p x) (R p y) (ap (R p) (sym f) ∙ q)) (λ q p. or_left (R x q) (R y q) (ap (λ k. R k q) (sym f) ∙ p)) h.1
        | inr f ↦ elim (cases_eq c y) as (λ _. lies_between (λ k. k) r a b (cond (c == x || c == y) x c) ≡ true) [
          | inl g ↦
              ap₂ (λ s t. lies_between (λ k. k) r a b (cond (s || t) x c)) (ne_eqb c x f) (eq-eqb c y g)
              ∙ at_first (λ p q. or_right (R p x) (R p y) (ap (R p) (sym g) ∙ q)) (λ q p. or_right (R x q) (R y q) (ap (λ k. R k q) (sym g) ∙ p)) h.1
          | inr g ↦
              ap₂ (λ s t. lies_between (λ k. k) r a b (cond (s || t) x c)) (ne_eqb c x f) (ne_eqb c y g)
              ∙ and_from (not (c == a || c == b)) ((r a c && r c b) || (r b c && r c a)) h.0
              (or_up (R a c) (R c b) (R b c) (R c a) (r a c) (r c b) (r b c) (r c a)
              (elsewhere a c ia ic ax ay f) (elsewhere c b ic ib f g bx) (elsewhere b c ib ic bx by f) (elsewhere c a ic ia f g ax) h.1)
        ]
      ]
    where
      or_up : (s t u v p q m n : Bool) → (s ≡ true → p ≡ true) → (t ≡ true → q ≡ true) → (u ≡ true → m ≡ true) → (v ≡ true → n ≡ true) → ((s && t) || (u && v)) ≡ true → ((p && q) || (m && n)) ≡ true
      or_up s t u v p q m n f g h k e =
          elim (or_cases (s && t) (u && v) e) as (λ _. ((p && q) || (m && n)) ≡ true) [
            | inl i ↦ let z = and_parts s t i in or_left (p && q) (m && n) (and_from p q (f z.0) (g z.1))
            | inr i ↦ let z = and_parts u v i in or_right (p && q) (m && n) (and_from m n (h z.0) (k z.1))
          ]

      at_first : ((p : ℕ) → R p c ≡ true → (R p x || R p y) ≡ true) → ((q : ℕ) → R c q ≡ true → (R x q || R y q) ≡ true) → ((R a c && R c b) || (R b c && R c a)) ≡ true → lies_between (λ k. k) r a b x ≡ true
      at_first to from d =
          ap₂ (λ s t. not (s || t) && ((r a x && r x b) || (r b x && r x a))) (ne_eqb x a (λ z. ax (sym z))) (ne_eqb x b (λ z. bx (sym z)))
          ∙ or_up (R a c) (R c b) (R b c) (R c a) (r a x) (r x b) (r b x) (r x a)
          (λ q. to_first a ia ix ax ay (to a q)) (λ q. from_first b ix ib ne bx (from b q)) (λ q. to_first b ib ix bx by (to b q)) (λ q. from_first a ix ia ne ax (from a q)) d

pub may_before : (F R f r : ℕ → ℕ → Bool) (keys : List ℕ) (w x y : ℕ) → All (λ k. k < w) keys → In x keys → x ≢ y
    → ((p q : ℕ) → p < w → q < w → f p q ≡ fuses_after F x y p q)
    → ((p q : ℕ) → In p keys → In q keys → p ≢ y → r p q ≡ reach_after (λ k. k) R x y p q)
    → (p : ℕ × ℕ) → In p (pairs (filter (λ k. not (k == y)) keys)) → p.0 ≢ x → p.1 ≢ x
    → may_merge f r (filter (λ k. not (k == y)) keys) p ≡ true → may_merge F R keys p ≡ true
may_before F R f r keys w x y inside ix ne hf hr p i px qx e =
    let left : List ℕ = filter (λ k. not (k == y)) keys in
    let b = both_in left p i in
    let s = in_filter (λ k. not (k == y)) keys p.0 b.0 in
    let t = in_filter (λ k. not (k == y)) keys p.1 b.1 in
    let pm : p.0 < w = in_below keys w inside p.0 s.0 in
    let qm : p.1 < w = in_below keys w inside p.1 t.0 in
    let h = and_parts (f p.0 p.1) (not (list_any (lies_between (λ k. k) r p.0 p.1) left)) e in
    let same : f p.0 p.1 ≡ F p.0 p.1 = hf p.0 p.1 pm qm ∙ ap₂ (λ s t. cond s (F x p.1 && F y p.1) (cond t (F p.0 x && F p.0 y) (F p.0 p.1))) (ne_eqb p.0 x px) (ne_eqb p.1 x qx) in
    let none : list_any (lies_between (λ k. k) R p.0 p.1) keys ≡ false = any_false (lies_between (λ k. k) R p.0 p.1) keys (λ c m.
    true_not (lies_between (λ k. k) R p.0 p.1 c) (λ q.
    let there : In (cond (c == x || c == y) x c) left = still (c == x) (c == y) c m refl refl in
    false≢true (sym (false_any (lies_between (λ k. k) r p.0 p.1) left (not_true (list_any (lies_between (λ k. k) r p.0 p.1) left) h.1) (cond (c == x || c == y) x c) there)
    ∙ stands R r keys x y hr p.0 p.1 c s.0 t.0 m ix ne px (not_last p.0 s.1) qx (not_last p.1 t.1) q))) in
    and_from (F p.0 p.1) (not (list_any (lies_between (λ k. k) R p.0 p.1) keys)) (sym same ∙ h.0) (ap not none)
  where
    not_last : (k : ℕ) → not (k == y) ≡ true → k ≢ y
    not_last k g z = false≢true (sym (ap not (eq-eqb k y z)) ∙ g)

    still : (s t : Bool) (c : ℕ) → In c keys → (c == x) ≡ s → (c == y) ≡ t → In (cond (s || t) x c) (filter (λ k. not (k == y)) keys)
    still true t c m g h = filter_in (λ k. not (k == y)) keys x ix (ap not (ne_eqb x y ne))
    still false true c m g h = filter_in (λ k. not (k == y)) keys x ix (ap not (ne_eqb x y ne))
    still false false c m g h = filter_in (λ k. not (k == y)) keys c m (ap not h)

-- ---- the savings after a merge

pub saves_of : (list : List Op) (blocks : List Block) (F : List Bool) (R keys : List ℕ) (V : List ℕ) (bounds : List (Option ℕ)) (w : ℕ) → AllPriced list blocks F R keys V bounds w → keys ≡ map least_of (blocks_of blocks)
    → Saves list (blocks_of blocks) (flag F w) (bit R w) (amount V w)
saves_of list blocks F R keys V bounds w h e =
    subst (λ ks. (p : ℕ × ℕ) → In p (pairs ks) → may_merge (flag F w) (bit R w) ks p ≡ true → amount V w p.0 p.1 ≡ saving list (block_at p.0 (blocks_of blocks), block_at p.1 (blocks_of blocks))) e (λ p i t. (h p i t).0)

pub priced_after : (list : List Op) (before after : List Block) (F f : List Bool) (R r : List ℕ) (keys next : List ℕ) (V v : List ℕ) (bounds bounds_after : List (Option ℕ)) (w x y : ℕ)
    → all_pairs nat_lt next ≡ true → All (λ k. k < w) keys → In x keys → x ≢ y → next ≡ filter (λ k. not (k == y)) keys
    → ((p q : ℕ) → p < w → q < w → flag f w p q ≡ fuses_after (flag F w) x y p q)
    → ReachesAfter keys R r w x y
    → ((k : ℕ) → In k next → k ≢ x → block_at k (blocks_of after) ≡ block_at k (blocks_of before))
    → AllPriced list before F R keys V bounds w
    → ArePriced list after f r next v bounds_after w x 0
    → PricesStay list after f r V bounds v bounds_after w
    → AllPriced list after f r next v bounds_after w
priced_after list before after F f R r keys next V v bounds bounds_after w x y rises inside ix ne en hf hr same old new stays p i =
    let b = both_in next p i in
    let l : p.0 < p.1 = pair_rises next (pairs_of nat_lt next rises) p i in
    elim (cases_eq p.0 x) as (λ _. Now p.0 p.1) [
      | inl e ↦
          let n = in_index next p.1 b.1 in
          let z : get_or next n.0 0 ≡ p.1 = n.2 in
          subst (λ s. Now s p.1) (let q : min x (get_or next n.0 0) ≡ p.0 = omega arith in q) (subst (λ s. Now (min x (get_or next n.0 0)) s) (let q : max x (get_or next n.0 0) ≡ p.1 = omega arith in q) (new n.0 (omega arith) n.1))
      | inr e ↦ elim (cases_eq p.1 x) as (λ _. Now p.0 p.1) [
        | inl g ↦
            let n = in_index next p.0 b.0 in
            let z : get_or next n.0 0 ≡ p.0 = n.2 in
            subst (λ s. Now s p.1) (let q : min x (get_or next n.0 0) ≡ p.0 = omega arith in q) (subst (λ s. Now (min x (get_or next n.0 0)) s) (let q : max x (get_or next n.0 0) ≡ p.1 = omega arith in q) (new n.0 (omega arith) n.1))
        | inr g ↦
            let i' : In p (pairs (filter (λ k. not (k == y)) keys)) = subst (λ ks. In p (pairs ks)) en i in
            let m = pairs_less (λ k. not (k == y)) keys p i' in
            let k = both_in keys p m in
            stays next p.0 p.1 (in_below keys w inside p.0 k.0) (in_below keys w inside p.1 k.1) (λ t.
            let was = old p m (may_before (flag F w) (bit R w) (flag f w) (bit r w) keys w x y inside ix ne hf hr p i' e g (ap (λ ks. may_merge (flag f w) (bit r w) ks p) (sym en) ∙ t)) in
            (was.0 ∙ ap₂ (λ s u. saving list (s, u)) (sym (same p.0 b.0 e)) (sym (same p.1 b.1 g)), was.1))
      ]
    ]
  where
    Now : ℕ → ℕ → Type 0
    Now s u = may_merge (flag f w) (bit r w) next (s, u) ≡ true → (amount v w s u ≡ saving_at list after s u) × (covers (get_or bounds_after s None) (amount v w s u) ≡ true)
