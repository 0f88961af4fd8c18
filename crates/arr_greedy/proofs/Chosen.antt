-- The pair that is merged next, where blocks stand at their least numbers.
use Rattle.std.proofs.Common.{◌≡◌, ◌≢◌, ℕ, ◌<◌, List, Bool, true, false, not, length, map, Some, ap, ap₂, sym, subst, ◌∙◌, arith}
use Rattle.std.specs.Prelude.{nat_lt, ◌&&◌, ◌==◌}
use Rattle.std.proofs.lemmas.Bool.{and_parts, ltb-true, ne_eqb}
use Rattle.arr_ops.specs.declared.op.Op.{Op}
use Rattle.arr_ops.specs.Plans.{not_empty, numbered}
use Rattle.std.specs.List.{filter}
use Rattle.arr_ops.specs.Order.{In, least_of}
use Rattle.arr_ops.proofs.Members.{all_in, filter_in, has_least}
use Rattle.arr_ops.proofs.Legality.{distinct_of}
use Rattle.arr_heur.specs.Planners.{merge, union}
use Rattle.arr_heur.proofs.Merge.{in_map}
use Rattle.arr_greedy.specs.Ways.{reach_after}
use Rattle.arr_greedy.specs.Blocks.{live, row_at, Keyed}
use Rattle.arr_greedy.specs.Fast.{fuses_after, next_pair}
use Rattle.arr_greedy.proofs.Fast.{Kept, Saves, block_found, kept_after, map_in, turn}
use Rattle.arr_greedy.proofs.Turns.{keys_after, no_loop}
use Rattle.arr_greedy.proofs.BlockMerges.{joined}
use Rattle.arr_greedy.proofs.KeyedBlocks.{block_live}

pub record Chosen (list : List Op) (rows : List (List ℕ)) (R : ℕ → ℕ → Bool) (keys : List ℕ) (x y : ℕ) : Type 0 where
  pub apart : x ≢ y
  pub some : 0 < x
  pub left_block : not_empty (row_at rows x) ≡ true
  pub right_block : not_empty (row_at rows y) ≡ true
  pub key : least_of (union (numbered list) (row_at rows x) (row_at rows y)) ≡ x
  pub left_key : In x keys
  pub right_key : In y keys
  pub loopless : (z : ℕ) → In z keys → z ≢ y → reach_after (λ k. k) R x y z z ≡ false

pub chosen_rows : (list : List Op) (rows : List (List ℕ)) (F R : ℕ → ℕ → Bool) (V : ℕ → ℕ → ℕ) (keys : List ℕ) (x y : ℕ) → Kept list (live rows) F R → Saves list (live rows) F R V → keys ≡ map least_of (live rows) → next_pair F R V keys ≡ Some (x, y)
    → Keyed rows → x < length rows → y < length rows → Chosen list rows R keys x y
chosen_rows list rows F R V keys x y k saves ek e h lx ly =
    let t = turn list (live rows) F R V k saves x y (ap (next_pair F R V) (sym ek) ∙ e) in
    let d = distinct_of (length list) (live rows) k.partition in
    let left : row_at rows x ≡ t.left = sym (block_live rows x h lx) ∙ block_found (live rows) d t.left t.in_left x t.key_left in
    let right : row_at rows y ≡ t.right = sym (block_live rows y h ly) ∙ block_found (live rows) d t.right t.in_right y t.key_right in
    let some_left : not_empty t.left ≡ true = all_in (λ b. not_empty b ≡ true) (live rows) k.partition.some t.left t.in_left in
    let some_right : not_empty t.right ≡ true = all_in (λ b. not_empty b ≡ true) (live rows) k.partition.some t.right t.in_right in
    let range = k.partition.within t.left t.in_left (least_of t.left) (has_least t.left some_left) in
    let low : 0 < least_of t.left = range.0 in
    let kl : least_of t.left ≡ x = t.key_left in
    let kr : least_of t.right ≡ y = t.key_right in
    let before : least_of t.left < least_of t.right = t.before in
    let j = joined list (live rows) t.left t.right k.partition t.in_left t.in_right t.before in
    record {
      apart = λ q. let q' : x ≡ y = q in absurd (omega arith);
      some = omega arith;
      left_block = ap not_empty left ∙ some_left;
      right_block = ap not_empty right ∙ some_right;
      key = ap₂ (λ a b. least_of (union (numbered list) a b)) left right ∙ j.same_key ∙ kl;
      left_key = subst (In x) (sym ek) (subst (λ z. In z (map least_of (live rows))) kl (map_in least_of (live rows) t.left t.in_left));
      right_key = subst (In y) (sym ek) (subst (λ z. In z (map least_of (live rows))) kr (map_in least_of (live rows) t.right t.in_right));
      loopless = λ z i ne.
          let after : List (List ℕ) = merge (numbered list) t.left t.right (live rows) in
          let named : filter (λ k. not (k == y)) keys ≡ map least_of after = ap (filter (λ k. not (k == y))) ek ∙ sym (keys_after (numbered list) t.left t.right (live rows) y kr j.same_key) in
          let m = in_map least_of after z (subst (In z) named (filter_in (λ k. not (k == y)) keys z i (ap not (ne_eqb z y ne)))) in
          ap₂ (λ s u. reach_after (λ k. k) R s u z z) (sym kl) (sym kr) ∙ ap (λ k. reach_after (λ k. k) R (least_of t.left) (least_of t.right) k k) m.2
          ∙ no_loop list after (fuses_after F (least_of t.left) (least_of t.right)) (reach_after (λ k. k) R (least_of t.left) (least_of t.right))
          (kept_after list (live rows) F R k t.left t.right t.in_left t.in_right t.before t.orderable) m.0 m.1;
    }

pub chosen_now : (list : List Op) (rows : List (List ℕ)) (F R : ℕ → ℕ → Bool) (V : ℕ → ℕ → ℕ) (keys : List ℕ) (n w x y : ℕ) → Kept list (live rows) F R → Saves list (live rows) F R V → keys ≡ map least_of (live rows) → next_pair F R V keys ≡ Some (x, y)
    → Keyed rows → length rows ≡ n → n ≡ w → (nat_lt x w && nat_lt y w) ≡ true → Chosen list rows R keys x y
chosen_now list rows F R V keys n w x y k saves ek e h long wide below =
    let both = and_parts (nat_lt x w) (nat_lt y w) below in
    let left : x < w = ltb-true x w both.0 in
    let right : y < w = ltb-true y w both.1 in
    chosen_rows list rows F R V keys x y k saves ek e h (omega arith) (omega arith)
