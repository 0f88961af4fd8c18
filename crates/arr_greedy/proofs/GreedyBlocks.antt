-- Greedy's blocks at the beginning and at the end.
use Rattle.std.proofs.Common.{◌≡◌, ℕ, zero, suc, ◌+◌, ◌<◌, ◌≤◌, List, [], ◌∷◌, ◌++◌, Bool, true, false, cond, not, ◌&&◌, ◌||◌, Some, None, length, map, get_or, replicate, inl, inr, refl, ap, ap₂, sym, subst, ◌∙◌, arith}
use Rattle.std.specs.Prelude.{nat_eq, nat_lt}
use Rattle.std.specs.List.{All, filter, list_all, range_with_len}
use Rattle.std.proofs.lemmas.Bool.{lt-ltb, eq-eqb, false≢true}
use Rattle.std.proofs.lemmas.List.Elements.{All-from_recursion}
use Rattle.arr_view.specs.Views.{has}
use Rattle.arr_ops.specs.declared.op.Op.{Op}
use Rattle.arr_ops.specs.Formed.{all_pairs}
use Rattle.arr_ops.specs.Plans.{ascends, not_empty, numbered}
use Rattle.arr_ops.specs.Order.{In, least_of, same_block}
use Rattle.arr_ops.proofs.Members.{in_all, in_filter}
use Rattle.arr_ops.proofs.Legality.{any_there}
use Rattle.arr_heur.specs.Planners.{greedy_blocks, greedy_within, heaviest, merge, mergeable, numbers, saving, singles, union}
use Rattle.arr_heur.proofs.Merge.{in_map}
use Rattle.arr_heur.proofs.Merged.{greedy_blocks_good, in_singles}
use Rattle.arr_heur.proofs.Stretches.{range_more}
use Rattle.arr_greedy.specs.declared.merging.Block.{Block}
use Rattle.arr_greedy.specs.Bits.{AreBits, bit, columns}
use Rattle.arr_greedy.specs.Fast.{Told, by_step, flag}
use Rattle.arr_greedy.specs.Standing.{blocks_of, rows_of}
use Rattle.arr_greedy.specs.Start.{deps_at, fuses_at}
use Rattle.arr_greedy.specs.Tables.{AreFlags, TellsWays}
use Rattle.arr_greedy.proofs.Begun.{started}
use Rattle.arr_greedy.proofs.Between.{ways_start}
use Rattle.arr_greedy.proofs.Opening.{keys_start, told_start}
use Rattle.arr_greedy.specs.Blocks.{live, row_at, Keyed}
use Rattle.arr_greedy.proofs.KeyedBlocks.{numbers_are}

abbrev pub single : ℕ → List ℕ
single i = i ∷ []

-- ---- one block an operation, at its number

all_live : (ns : List ℕ) → live (map single ns) ≡ map single ns
all_live [] = refl
all_live (n ∷ ns) = ap (λ r. single n ∷ r) (all_live ns)

singles_are : (xs : List (ℕ × Op)) → map single (numbers xs) ≡ singles xs
singles_are [] = refl
singles_are (x ∷ xs) = ap (λ r. single x.0 ∷ r) (singles_are xs)

pub begun_live : (list : List Op) → live ([] ∷ map single (range_with_len 1 (length list))) ≡ singles (numbered list)
begun_live list = all_live (range_with_len 1 (length list)) ∙ ap (map single) (sym (numbers_are list)) ∙ singles_are (numbered list)

keyed_from : (a n k : ℕ) → k < length (map single (range_with_len a n)) → least_of (row_at (map single (range_with_len a n)) k) ≡ a + k
keyed_from a zero k l = absurd (omega arith)
keyed_from a (suc n) zero l = omega arith
keyed_from a (suc n) (suc k) l = keyed_from (a + 1) n k (omega arith) ∙ (let e : a + 1 + k ≡ a + suc k = omega arith in e)

pub begun_keyed : (n : ℕ) → Keyed ([] ∷ map single (range_with_len 1 n))
begun_keyed n zero l e = absurd (false≢true e)
begun_keyed n (suc k) l e = keyed_from 1 n k (omega arith) ∙ (let z : 1 + k ≡ suc k = omega arith in z)

pub one_more_single : (n : ℕ) → map single (range_with_len 1 (n + 1)) ≡ map single (range_with_len 1 n) ++ single (n + 1) ∷ []
one_more_single n = ap (map single) (range_more 1 n) ∙ ends (range_with_len 1 n) (1 + n) ∙ ap (λ k. map single (range_with_len 1 n) ++ single k ∷ []) (let e : 1 + n ≡ n + 1 = omega arith in e)
  where
    ends : (xs : List ℕ) (x : ℕ) → map single (xs ++ x ∷ []) ≡ map single xs ++ single x ∷ []
    ends [] x = refl
    ends (y ∷ xs) x = ap (λ r. single y ∷ r) (ends xs x)

pub live_more : (rows : List (List ℕ)) (r : List ℕ) → live (rows ++ r ∷ []) ≡ live rows ++ cond (not_empty r) (r ∷ []) []
live_more [] r = elim (not_empty r) as (λ b. cond b (r ∷ []) [] ≡ cond b (r ∷ []) []) [ true ↦ refl | false ↦ refl ]
live_more (s ∷ rows) r = elim (not_empty s) as (λ b. cond b (s ∷ live (rows ++ r ∷ [])) (live (rows ++ r ∷ [])) ≡ cond b (s ∷ live rows) (live rows) ++ cond (not_empty r) (r ∷ []) []) [
  | true ↦ ap (λ l. s ∷ l) (live_more rows r)
  | false ↦ live_more rows r
]

-- the numbers from 1 on rise
pub range_rises : (a n : ℕ) → all_pairs nat_lt (range_with_len a n) ≡ true
range_rises a zero = refl
range_rises a (suc n) = ap₂ (λ s t. s && t) (behind a (a + 1) n (omega arith)) (range_rises (a + 1) n)
  where
    behind : (a b n : ℕ) → a < b → list_all (nat_lt a) (range_with_len b n) ≡ true
    behind a b zero l = refl
    behind a b (suc n) l = ap₂ (λ s t. s && t) (lt-ltb a b l) (behind a (b + 1) n (omega arith))

pub clear_flag : (n i : ℕ) → get_or (replicate n false) i false ≡ false
clear_flag zero i = refl
clear_flag (suc n) zero = refl
clear_flag (suc n) (suc i) = clear_flag n i

-- ---- each block of greedy ascends

Rising : ℕ → List ℕ → Type 0
Rising a [] = Unit {0}
Rising a (i ∷ is) = (a ≤ i) × Rising (i + 1) is

weaker : (a b : ℕ) (is : List ℕ) → a ≤ b → Rising b is → Rising a is
unfolding Rising
weaker a b [] l h = tt
weaker a b (i ∷ is) l h = let k : b ≤ i = h.0 in (omega arith, h.1)

rising_ascends : (a : ℕ) (is : List ℕ) → Rising a is → ascends is ≡ true
unfolding Rising
rising_ascends a [] h = refl
rising_ascends a (i ∷ []) h = refl
rising_ascends a (i ∷ j ∷ is) h = let l : i + 1 ≤ j = h.1.0 in ap₂ (λ s t. s && t) (lt-ltb i j (omega arith)) (rising_ascends (i + 1) (j ∷ is) h.1)

filter_rises : (p : ℕ → Bool) (a n : ℕ) → Rising a (filter p (range_with_len a n))
unfolding Rising
filter_rises p a zero = tt
filter_rises p a (suc n) =
    elim (p a) as (λ b. Rising a (cond b (a ∷ filter p (range_with_len (a + 1) n)) (filter p (range_with_len (a + 1) n)))) [
      | true ↦ (omega arith, filter_rises p (a + 1) n)
      | false ↦ weaker a (a + 1) (filter p (range_with_len (a + 1) n)) (omega arith) (filter_rises p (a + 1) n)
    ]

pub filtered_ascends : (p : ℕ → Bool) (a n : ℕ) → ascends (filter p (range_with_len a n)) ≡ true
filtered_ascends p a n = rising_ascends a (filter p (range_with_len a n)) (filter_rises p a n)

union_ascends : (list : List Op) (a b : List ℕ) → ascends (union (numbered list) a b) ≡ true
union_ascends list a b =
    ap (λ ns. ascends (filter (λ i. has a i || has b i) ns)) (numbers_are list)
    ∙ filtered_ascends (λ i. has a i || has b i) 1 (length list)

abbrev pub Ascending : List (List ℕ) → Type 0
Ascending blocks = (b : List ℕ) → In b blocks → ascends b ≡ true

merge_ascends : (list : List Op) (a b : List ℕ) (blocks : List (List ℕ)) → Ascending blocks → Ascending (merge (numbered list) a b blocks)
merge_ascends list a b blocks h c m =
    let r = in_map (λ c. cond (same_block c a) (union (numbered list) a b) c) (filter (λ c. not (same_block c b)) blocks) c m in
    let d : ascends r.0 ≡ true = h r.0 (in_filter (λ c. not (same_block c b)) blocks r.0 r.1).0 in
    ap ascends r.2 ∙ elim (same_block r.0 a) as (λ t. ascends (cond t (union (numbered list) a b) r.0) ≡ true) [ true ↦ union_ascends list a b | false ↦ d ]

within_ascends : (n : ℕ) (list : List Op) (blocks : List (List ℕ)) → Ascending blocks → Ascending (greedy_within n list blocks)
within_ascends zero list blocks h = h
within_ascends (suc n) list blocks h =
    elim (heaviest (saving list) (mergeable list blocks)) as (λ o. Ascending (elim o as (λ _. List (List ℕ)) [ None ↦ blocks | Some p ↦ greedy_within n list (merge (numbered list) p.0 p.1 blocks) ])) [
      | None ↦ h
      | Some p ↦ within_ascends n list (merge (numbered list) p.0 p.1 blocks) (merge_ascends list p.0 p.1 blocks h)
    ]

at_in : (blocks : List (List ℕ)) (k : ℕ) → k < length blocks → In (row_at blocks k) blocks
at_in [] k l = absurd (omega arith)
at_in (b ∷ blocks) zero l = inl refl
at_in (b ∷ blocks) (suc k) l = inr (at_in blocks k (omega arith))

pub greedy_ascends : (list : List Op) (k : ℕ) → k < length (greedy_blocks list) → ascends (row_at (greedy_blocks list) k) ≡ true
greedy_ascends list k l =
    within_ascends (length list) list (singles (numbered list)) (λ b m. let r = in_singles (numbered list) b m in ap ascends r.2) (row_at (greedy_blocks list) k) (at_in (greedy_blocks list) k l)

pub greedy_inside : (list : List Op) (k : ℕ) → k < length (greedy_blocks list) → All (λ i. (0 < i) × (i ≤ length list)) (row_at (greedy_blocks list) k)
greedy_inside list k l =
    let b : List ℕ = row_at (greedy_blocks list) k in
    All-from_recursion (λ i. (0 < i) × (i ≤ length list)) b
    (in_all (λ i. (0 < i) × (i ≤ length list)) b (λ i m. (greedy_blocks_good list).partition.within b (at_in (greedy_blocks list) k l) i (any_there (nat_eq i) b i m (eq-eqb i i refl))))

pub begun_long : (n : ℕ) → length ([] ∷ map single (range_with_len 1 n)) ≡ n + 1
begun_long n = from 1 n
  where
    long : (a n : ℕ) → length (map single (range_with_len a n)) ≡ n
    long a zero = refl
    long a (suc n) = ap suc (long (a + 1) n)

    from : (a n : ℕ) → suc (length (map single (range_with_len a n))) ≡ n + 1
    from a n = ap suc (long a n) ∙ (let e : suc n ≡ n + 1 = omega arith in e)

pub begun_blocks : (list : List Op) (n : ℕ) (blocks : List Block) → n ≡ length list → rows_of blocks ≡ [] ∷ map single (range_with_len 1 n) → blocks_of blocks ≡ singles (numbered list)
begun_blocks list n blocks count e = ap live e ∙ ap (λ n. live ([] ∷ map single (range_with_len 1 n))) count ∙ begun_live list

pub begun_keys : (list : List Op) (n : ℕ) (blocks : List Block) (keys : List ℕ) → n ≡ length list → rows_of blocks ≡ [] ∷ map single (range_with_len 1 n) → keys ≡ range_with_len 1 n → keys ≡ map least_of (blocks_of blocks)
begun_keys list n blocks keys count e k = k ∙ ap (range_with_len 1) count ∙ sym (numbers_are list) ∙ keys_start (numbered list) ∙ ap (map least_of) (sym (begun_blocks list n blocks count e))

-- what the tables tell at the beginning
pub begun_told : (list : List Op) (w n : ℕ) (blocks : List Block) (fuses : List Bool) (reaches : List ℕ) → n ≡ length list → w ≡ n + 1 → rows_of blocks ≡ [] ∷ map single (range_with_len 1 n)
    → AreFlags fuses w (fuses_at list) → AreBits reaches w (by_step (deps_at list) (bit reaches w) w) → Told list (blocks_of blocks) (flag fuses w) (bit reaches w)
begun_told list w n blocks fuses reaches count wide e f r =
    subst (λ bs. Told list bs (flag fuses w) (bit reaches w)) (sym (begun_blocks list n blocks count e))
    (told_start list (flag fuses w) (bit reaches w) (started list w (flag fuses w) (deps_at list) (bit reaches w) (omega arith) f (λ x y xm ym. refl) (λ x y xm ym. r x y xm (omega arith))))

pub begun_ways : (list : List Op) (w n : ℕ) (blocks : List Block) (fuses : List Bool) (keys reaches reached : List ℕ) → n ≡ length list → w ≡ n + 1 → rows_of blocks ≡ [] ∷ map single (range_with_len 1 n)
    → AreFlags fuses w (fuses_at list) → AreBits reaches w (by_step (deps_at list) (bit reaches w) w)
    → keys ≡ range_with_len 1 n → All (λ k. k < w) keys
    → ((z : ℕ) → z < columns w → bit reached w 0 z ≡ has keys z) → ((x y : ℕ) → x < w → 0 < y → y < w → bit reached w y x ≡ bit reaches w x y) → TellsWays keys reaches reached w
begun_ways list w n blocks fuses keys reaches reached count wide e f r k inside live turned =
    ways_start list (blocks_of blocks) (flag fuses w) keys reaches reached w (begun_told list w n blocks fuses reaches count wide e f r) (begun_keys list n blocks keys count e k) inside live turned
