-- One turn of greedy over a partition with its rows.
use Rattle.std.proofs.Common.{◌≡◌, ◌≢◌, ℕ, ◌<◌, suc, List, [], ◌∷◌, Bool, true, false, cond, not, ◌&&◌, refl, ap, ap₂, sym, subst, ◌∙◌, arith, length, inl, inr, map, Some}
use Rattle.std.proofs.lemmas.Bool.{eqb-true, lt-ltb, ltb-true}
use Rattle.std.specs.Prelude.{◌==◌, nat_lt}
use Rattle.std.specs.List.{filter, All}
use Rattle.arr_ops.specs.declared.op.Op.{Op}
use Rattle.arr_ops.specs.Plans.{not_empty, numbered}
use Rattle.arr_ops.specs.Order.{leads, least_of, same_block, is_orderable}
use Rattle.arr_ops.specs.Formed.{all_pairs}
use Rattle.arr_ops.proofs.Pairs.{Pairs, Pairs_weaker}
use Rattle.arr_ops.proofs.Tests.{pairs_of, test_all}
use Rattle.arr_heur.specs.Planners.{union, merge, greedy_within}
use Rattle.arr_ops.specs.Order.{In}
use Rattle.arr_greedy.specs.Ways.{reach_after}
use Rattle.arr_greedy.specs.Fast.{block_at, fuses_after, next_pair, Told}
use Rattle.arr_ops.proofs.Members.{all_in, has_least, in_all, Apart, Distinct}
use Rattle.arr_ops.proofs.Legality.{IsPartition, distinct_of}
use Rattle.std.proofs.lemmas.List.Elements.{All-from_recursion}
use Rattle.arr_greedy.proofs.Ways.{way_rank}
use Rattle.arr_greedy.proofs.BlockMerges.{Among, joined, after_in, orderable_ranked, parts_of}
use Rattle.arr_heur.proofs.Merge.{in_map, merge_partition}
use Rattle.arr_greedy.proofs.Bounds.{in_below}
use Rattle.arr_greedy.proofs.Fast.{Kept, Saves, block_found, kept_after, map_in, turn}

-- ---- blocks by their least numbers

keys_out : (b : List ℕ) (k : ℕ) → least_of b ≡ k → (blocks : List (List ℕ)) → map least_of (filter (λ c. not (same_block c b)) blocks) ≡ filter (λ x. not (x == k)) (map least_of blocks)
keys_out b k e [] = refl
keys_out b k e (c ∷ cs) =
    side (same_block c b) ∙ ap₂ (λ t l. cond (not t) (least_of c ∷ l) l) (ap (λ x. least_of c == x) e) (keys_out b k e cs)
  where
    side : (t : Bool) → map least_of (cond (not t) (c ∷ filter (λ c. not (same_block c b)) cs) (filter (λ c. not (same_block c b)) cs)) ≡ cond (not t) (least_of c ∷ map least_of (filter (λ c. not (same_block c b)) cs)) (map least_of (filter (λ c. not (same_block c b)) cs))
    side true = refl
    side false = refl

keys_named : (f : List ℕ → List ℕ) (blocks : List (List ℕ)) → ((c : List ℕ) → least_of (f c) ≡ least_of c) → map least_of (map f blocks) ≡ map least_of blocks
keys_named f [] h = refl
keys_named f (c ∷ cs) h = ap₂ (λ x l. x ∷ l) (h c) (keys_named f cs h)

pub keys_after : (xs : List (ℕ × Op)) (a b : List ℕ) (blocks : List (List ℕ)) (k : ℕ) → least_of b ≡ k → least_of (union xs a b) ≡ least_of a
    → map least_of (merge xs a b blocks) ≡ filter (λ x. not (x == k)) (map least_of blocks)
keys_after xs a b blocks k e same =
    keys_named (λ c. cond (same_block c a) (union xs a b) c) (filter (λ c. not (same_block c b)) blocks) (λ c. named c (same_block c a) (λ t. same ∙ sym (eqb-true (least_of c) (least_of a) t)))
    ∙ keys_out b k e blocks
  where
    named : (c : List ℕ) (t : Bool) → (t ≡ true → least_of (union xs a b) ≡ least_of c) → least_of (cond t (union xs a b) c) ≡ least_of c
    named c true h = h refl
    named c false h = refl

-- ---- rows that agree

pub kept_same : (list : List Op) (blocks : List (List ℕ)) (f g r s : ℕ → ℕ → Bool) → Kept list blocks f r
    → ((a b : List ℕ) → In a blocks → In b blocks → g (least_of a) (least_of b) ≡ f (least_of a) (least_of b))
    → ((a b : List ℕ) → In a blocks → In b blocks → s (least_of a) (least_of b) ≡ r (least_of a) (least_of b)) → Kept list blocks g s
kept_same list blocks f g r s k e h =
    record {
      partition = k.partition;
      orderable = k.orderable;
      rising = k.rising;
      fused = λ a b i j n. e a b i j ∙ k.fused a b i j n;
      reached = λ a b i j. let t = k.reached a b i j in (λ q. t.0 (sym (h a b i j) ∙ q), λ p. h a b i j ∙ t.1 p);
    }

positive : (list : List Op) (blocks : List (List ℕ)) → IsPartition (length list) blocks → (b : List ℕ) → In b blocks → 0 < least_of b
positive list blocks p b i = (p.within b i (least_of b) (has_least b (all_in (λ b. not_empty b ≡ true) blocks p.some b i))).0

pub keys_positive : (list : List Op) (blocks : List (List ℕ)) → IsPartition (length list) blocks → All (λ k. 0 < k) (map least_of blocks)
keys_positive list blocks p =
    All-from_recursion (λ k. 0 < k) (map least_of blocks) (in_all (λ k. 0 < k) (map least_of blocks) (λ k i. let r = in_map least_of blocks k i in subst (λ n. 0 < n) (sym r.2) (positive list blocks p r.0 r.1)))

-- none reaches itself
pub no_loop : (list : List Op) (blocks : List (List ℕ)) (f r : ℕ → ℕ → Bool) → Kept list blocks f r → (b : List ℕ) → In b blocks → r (least_of b) (least_of b) ≡ false
no_loop list blocks f r k b i =
    true_not (r (least_of b) (least_of b)) (λ e.
    let ranks = orderable_ranked list blocks k.partition k.orderable in
    let way = (k.reached b b i i).0 e in
    let l : ranks.0 b < ranks.0 b = way_rank least_of (leads (numbered list)) (Among blocks) ranks.0 ranks.1 b way.0 b way.1 in
    absurd (omega arith))
  where
    true_not : (t : Bool) → (t ≡ true → ⊥) → t ≡ false
    true_not true h = absurd (h refl)
    true_not false h = refl

pub turn_kept : (list : List Op) (blocks : List (List ℕ)) (fuses reaches : ℕ → ℕ → Bool) → Kept list blocks fuses reaches → (w : ℕ) → ((b : List ℕ) → In b blocks → least_of b < w)
    → (a b : List ℕ) → In a blocks → In b blocks → least_of a < least_of b → is_orderable list (merge (numbered list) a b blocks) ≡ true
    → (f r : ℕ → ℕ → Bool)
    → ((p q : ℕ) → p < w → q < w → f p q ≡ fuses_after fuses (least_of a) (least_of b) p q)
    → ((p q : ℕ) → In p (map least_of blocks) → In q (map least_of blocks) → p ≢ least_of b → r p q ≡ reach_after (λ k. k) reaches (least_of a) (least_of b) p q)
    → Kept list (merge (numbered list) a b blocks) f r
turn_kept list blocks fuses reaches k w low a b m n l e f r hf hr =
    let xs : List (ℕ × Op) = numbered list in
    let apart : Apart a b = λ q. absurd (omega arith) in
    let same : least_of (union xs a b) ≡ least_of a = (joined list blocks a b k.partition m n l).same_key in
    let d : Distinct blocks = distinct_of (length list) blocks k.partition in
    let after : List (List ℕ) = merge xs a b blocks in
    let bound : (c : List ℕ) → In c after → (least_of c < w) × In (least_of c) (map least_of blocks) × (least_of c ≡ least_of b → ⊥) = λ c i.
    elim (after_in xs blocks a b d m n apart c i) as (λ _. (least_of c < w) × In (least_of c) (map least_of blocks) × (least_of c ≡ least_of b → ⊥)) [
      | inl g ↦
          let h : least_of c ≡ least_of a = ap least_of g ∙ same in
          let s : least_of a < w = low a m in
          (omega arith, subst (λ z. In z (map least_of blocks)) (sym h) (map_in least_of blocks a m), λ q. absurd (omega arith))
      | inr s ↦ (low c s.0, map_in least_of blocks c s.0, s.2)
    ] in
    kept_same list after (fuses_after fuses (least_of a) (least_of b)) f (reach_after (λ k. k) reaches (least_of a) (least_of b)) r
    (kept_after list blocks fuses reaches k a b m n l e)
    (λ c g i h. hf (least_of c) (least_of g) (bound c i).0 (bound g h).0)
    (λ c g i h. hr (least_of c) (least_of g) (bound c i).1 (bound g h).1 (bound c i).2)

pub to_kept : (list : List Op) (blocks : List (List ℕ)) (f r : ℕ → ℕ → Bool) → Told list blocks f r → Kept list blocks f r
to_kept list blocks f r t =
    record {
      partition = parts_of list blocks t.partition;
      orderable = t.orderable;
      rising = Pairs_weaker (λ a b. nat_lt (least_of a) (least_of b) ≡ true) (λ a b. least_of a < least_of b) (λ a b e. ltb-true (least_of a) (least_of b) e) blocks (pairs_of (λ a b. nat_lt (least_of a) (least_of b)) blocks t.rising);
      fused = t.fused;
      reached = t.reached;
    }

-- the keys of a partition rise
pub keys_rise : (blocks : List (List ℕ)) → Pairs (λ a b. least_of a < least_of b) blocks → all_pairs nat_lt (map least_of blocks) ≡ true
keys_rise [] h = refl
keys_rise (b ∷ bs) h =
    ap₂ (λ s t. s && t) (test_all (nat_lt (least_of b)) (map least_of bs) (in_all (λ k. nat_lt (least_of b) k ≡ true) (map least_of bs) (λ k i.
    let r = in_map least_of bs k i in
    ap (nat_lt (least_of b)) r.2 ∙ lt-ltb (least_of b) (least_of r.0) (all_in (λ c. least_of b < least_of c) bs h.0 r.0 r.1))))
    (keys_rise bs h.1)

-- a block that stays stands where it stood
stood : (list : List Op) (blocks : List (List ℕ)) (fuses reaches : ℕ → ℕ → Bool) → Kept list blocks fuses reaches → (a b : List ℕ) → In a blocks → In b blocks → least_of a < least_of b
    → (k : ℕ) → In k (map least_of (merge (numbered list) a b blocks)) → k ≢ least_of a → block_at k (merge (numbered list) a b blocks) ≡ block_at k blocks
stood list blocks fuses reaches kept a b m n l k i ne =
    let xs : List (ℕ × Op) = numbered list in
    let apart : Apart a b = λ q. absurd (omega arith) in
    let same : least_of (union xs a b) ≡ least_of a = (joined list blocks a b kept.partition m n l).same_key in
    let d : Distinct blocks = distinct_of (length list) blocks kept.partition in
    let after : List (List ℕ) = merge xs a b blocks in
    let dd : Distinct after = distinct_of (length list) after (merge_partition list a b blocks kept.partition m n apart) in
    let r = in_map least_of after k i in
    elim (after_in xs blocks a b d m n apart r.0 r.1) as (λ _. block_at k after ≡ block_at k blocks) [
      | inl g ↦ absurd (ne (r.2 ∙ ap least_of g ∙ same))
      | inr s ↦ block_found after dd r.0 r.1 k (sym r.2) ∙ sym (block_found blocks d r.0 s.0 k (sym r.2))
    ]

pub record Turned (list : List Op) (blocks after : List (List ℕ)) (f r : ℕ → ℕ → Bool) (keys after_keys : List ℕ) (x y : ℕ) : Type 0 where
  pub kept : Kept list after f r
  pub keys_are : after_keys ≡ map least_of after
  pub goes_on : (n : ℕ) → greedy_within (suc n) list blocks ≡ greedy_within n list after
  pub first_in : In x keys
  pub apart : x ≢ y
  pub stays : (k : ℕ) → In k after_keys → k ≢ x → block_at k after ≡ block_at k blocks

pub turned : (list : List Op) (blocks after : List (List ℕ)) (F R : ℕ → ℕ → Bool) (V : ℕ → ℕ → ℕ) (keys after_keys : List ℕ) (w x y : ℕ) (f r : ℕ → ℕ → Bool)
    → Kept list blocks F R → Saves list blocks F R V → keys ≡ map least_of blocks → All (λ k. k < w) keys → next_pair F R V keys ≡ Some (x, y)
    → after ≡ merge (numbered list) (block_at x blocks) (block_at y blocks) blocks
    → after_keys ≡ filter (λ k. not (k == y)) keys
    → ((p q : ℕ) → p < w → q < w → f p q ≡ fuses_after F x y p q)
    → ((p q : ℕ) → In p keys → In q keys → p ≢ y → r p q ≡ reach_after (λ k. k) R x y p q)
    → Turned list blocks after f r keys after_keys x y
turned list blocks after F R V keys after_keys w x y f r k saves ek inside e eb eks hf hr =
    let xs : List (ℕ × Op) = numbered list in
    let t = turn list blocks F R V k saves x y (ap (next_pair F R V) (sym ek) ∙ e) in
    let a : List ℕ = t.left in
    let b : List ℕ = t.right in
    let d : Distinct blocks = distinct_of (length list) blocks k.partition in
    let merged : after ≡ merge xs a b blocks = eb ∙ ap₂ (λ s u. merge xs s u blocks) (block_found blocks d a t.in_left x t.key_left) (block_found blocks d b t.in_right y t.key_right) in
    let j = joined list blocks a b k.partition t.in_left t.in_right t.before in
    let named : after_keys ≡ map least_of (merge xs a b blocks) = eks ∙ ap (filter (λ k. not (k == y))) ek ∙ sym (keys_after xs a b blocks y t.key_right j.same_key) in
    let low : (c : List ℕ) → In c blocks → least_of c < w = λ c i. in_below keys w inside (least_of c) (subst (In (least_of c)) (sym ek) (map_in least_of blocks c i)) in
    let kept : Kept list (merge xs a b blocks) f r =
    turn_kept list blocks F R k w low a b t.in_left t.in_right t.before t.orderable f r
    (λ p q pm qm. hf p q pm qm ∙ ap₂ (λ s u. fuses_after F s u p q) (sym t.key_left) (sym t.key_right))
    (λ p q ip iq ne. hr p q (subst (In p) (sym ek) ip) (subst (In q) (sym ek) iq) (λ z. ne (z ∙ sym t.key_right)) ∙ ap₂ (λ s u. reach_after (λ k. k) R s u p q) (sym t.key_left) (sym t.key_right)) in
    record {
      kept = subst (λ bs. Kept list bs f r) (sym merged) kept;
      keys_are = named ∙ ap (map least_of) (sym merged);
      goes_on = λ n. t.goes_on n ∙ ap (greedy_within n list) (sym merged);
      first_in = subst (In x) (sym ek) (subst (λ z. In z (map least_of blocks)) t.key_left (map_in least_of blocks a t.in_left));
      apart = λ q. let z : x ≡ y = q in let k : least_of a ≡ x = t.key_left in let m : least_of b ≡ y = t.key_right in let l : least_of a < least_of b = t.before in absurd (omega arith);
      stays = λ z m ne.
          ap (block_at z) merged ∙ stood list blocks F R k a b t.in_left t.in_right t.before z (subst (In z) named m) (λ q. ne (q ∙ t.key_left));
    }
