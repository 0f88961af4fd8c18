-- The fast body of greedy: which pair comes next, by what is kept of each two blocks, named by their least numbers.
use Rattle.std.specs.Prelude.{ℕ, zero, suc, ◌≡◌, ◌<◌, List, [], ◌∷◌, Bool, true, false, ◌||◌, ◌&&◌, not, cond, ◌==◌, map, length, ◌≤◌, IsTrue, Option, Some, None, nat_lt, get_or, ◌+◌, ◌*◌}
use Rattle.std.specs.List.{list_any, filter}
use Rattle.arr_ops.specs.declared.op.Op.{Op}
use Rattle.arr_ops.specs.Ops.{fusible}
use Rattle.arr_ops.specs.Formed.{all_pairs}
use Rattle.arr_ops.specs.Plans.{numbered, ops_of}
use Rattle.arr_ops.specs.Order.{least_of, leads, is_orderable}
use Rattle.arr_ops.specs.Order.{is_partition}
use Rattle.arr_greedy.specs.Reach.{TellsReach}
use Rattle.arr_heur.specs.Planners.{heaviest, pairs, numbers, union}
use Rattle.arr_ops.specs.Order.{In}
use Rattle.arr_greedy.specs.Ways.{lies_between}

-- the two may be one block: so says the row of the one, and no third lies on a way between them
abbrev pub may_merge : (ℕ → ℕ → Bool) → (ℕ → ℕ → Bool) → List ℕ → ℕ × ℕ → Bool
may_merge fuses reaches keys p = fuses p.0 p.1 && not (list_any (lies_between (λ k. k) reaches p.0 p.1) keys)

abbrev pub next_pair : (ℕ → ℕ → Bool) → (ℕ → ℕ → Bool) → (ℕ → ℕ → ℕ) → List ℕ → Option (ℕ × ℕ)
next_pair fuses reaches saved keys = heaviest (λ p. saved p.0 p.1) (filter (may_merge fuses reaches keys) (pairs keys))

-- a row once b is part of a
abbrev pub fuses_after : (ℕ → ℕ → Bool) → ℕ → ℕ → ℕ → ℕ → Bool
fuses_after fuses a b x y = cond (x == a) (fuses a y && fuses b y) (cond (y == a) (fuses x a && fuses x b) (fuses x y))

-- rows of width w, one after another
abbrev pub flag : List Bool → ℕ → ℕ → ℕ → Bool
flag rows w x y = get_or rows (x * w + y) false

abbrev pub amount : List ℕ → ℕ → ℕ → ℕ → ℕ
amount rows w x y = get_or rows (x * w + y) 0

-- of two that were found, one after the other
abbrev pub better : {X : Type 0} → (X → ℕ) → Option X → Option X → Option X
better w None o = o
better w (Some x) None = Some x
better w (Some x) (Some y) = cond (nat_lt (w x) (w y)) (Some y) (Some x)

-- the best of those that pass, after one that was found before
abbrev pub best_after : {X : Type 0} → (X → ℕ) → (X → Bool) → Option X → List X → Option X
best_after w test found xs = better w found (heaviest w (filter test xs))

-- both below the width
abbrev pub is_below : ℕ → ℕ × ℕ → Bool
is_below w p = nat_lt p.0 w && nat_lt p.1 w

abbrev pub found_below : ℕ → Option (ℕ × ℕ) → Bool
found_below w None = true
found_below w (Some p) = is_below w p

abbrev pub saves_more : (ℕ → ℕ → ℕ) → Option (ℕ × ℕ) → ℕ → ℕ → Bool
saves_more saved None x y = true
saves_more saved (Some p) x y = nat_lt (saved p.0 p.1) (saved x y)

-- a row's bound is no less than a saving; where there is none, no pair of the row may be merged
abbrev pub covers : Option ℕ → ℕ → Bool
covers None s = false
covers (Some most) s = not (nat_lt most s)

-- what the bounds of rows are no less than stays so
abbrev pub CoverStill : List (Option ℕ) → List (Option ℕ) → Type 0
CoverStill old new = (x s : ℕ) → covers (get_or old x None) s ≡ true → covers (get_or new x None) s ≡ true

-- a pair of a row with a bound may save more than one that was found
abbrev pub may_beat : (ℕ → ℕ → ℕ) → Option (ℕ × ℕ) → Option ℕ → Bool
may_beat saved found None = false
may_beat saved None (Some most) = true
may_beat saved (Some p) (Some most) = nat_lt (saved p.0 p.1) most

-- one with each
abbrev pub row_pairs : ℕ → List ℕ → List (ℕ × ℕ)
row_pairs x ys = map (λ y. (x, y)) ys

-- the block of a least number
abbrev pub block_at : ℕ → List (List ℕ) → List ℕ
block_at k [] = []
block_at k (b ∷ bs) = cond (least_of b == k) b (block_at k bs)

-- what rows tell of a partition whose blocks stand by their least numbers: which two may be one block, and what reaches what
pub record Told (list : List Op) (blocks : List (List ℕ)) (fuses reaches : ℕ → ℕ → Bool) : Type 0 where
  pub partition : IsTrue (is_partition list blocks)
  pub orderable : IsTrue (is_orderable list blocks)
  pub rising : IsTrue (all_pairs (λ a b. nat_lt (least_of a) (least_of b)) blocks)
  pub fused : (a b : List ℕ) → In a blocks → In b blocks → (least_of a ≡ least_of b → ⊥) → fuses (least_of a) (least_of b) ≡ all_pairs fusible (ops_of (numbered list) (union (numbered list) a b))
  pub reached : TellsReach list blocks (λ a b. reaches (least_of a) (least_of b))

-- the same rows at the start, one block an operation: a row has those that it leads, and what they reach
pub record Started (list : List Op) (fuses reaches : ℕ → ℕ → Bool) : Type 0 where
  pub fused : (i j : ℕ) → 0 < i → i ≤ length list → 0 < j → j ≤ length list → (i ≡ j → ⊥) → fuses i j ≡ all_pairs fusible (ops_of (numbered list) (union (numbered list) (i ∷ []) (j ∷ [])))
  pub filled :
      (i j : ℕ) → 0 < i → i ≤ length list → 0 < j → j ≤ length list
      → reaches i j ≡ list_any (λ k. leads (numbered list) (i ∷ []) (k ∷ []) && (k == j || reaches k j)) (numbers (numbered list))

-- some number below n passes
abbrev pub any_below : (ℕ → Bool) → ℕ → Bool
any_below test zero = false
any_below test (suc n) = any_below test n || test n

-- what a row reaches by one step, and on from there
abbrev pub by_step : (ℕ → ℕ → Bool) → (ℕ → ℕ → Bool) → ℕ → ℕ → ℕ → Bool
by_step deps reaches w x y = any_below (λ k. deps x k && (k == y || reaches k y)) w
