-- What is promised of walks by strips.
use Rattle.std.specs.Prelude.{ℕ, ℤ, suc, pos, true, ◌≡◌, ◌+◌, ◌*◌, ◌/◌, ◌%◌, ◌<◌, ◌≤◌, List, [], ◌∷◌, ◌++◌, IsTrue, not, length, get_or, take, drop}
use Rattle.std.specs.List.{AllByRecursion, list_all}
use Rattle.arr_view.specs.Strided.{Strided}
use Rattle.arr_ops.specs.declared.op.Op.{Op}
use Rattle.arr_ops.specs.Ops.{serial}
use Rattle.arr_ops.specs.Memory.{Memory, eager, lengths_of, or_zero}
use Rattle.arr_ops.specs.Formed.{is_formed}
use Rattle.arr_ops.specs.Fits.{fits}
use Rattle.arr_ops.specs.Plans.{is_legal, numbered, ops_of}
use Rattle.arr_ops.specs.Costs.{reads, writes, total, weight, elem_of}
use Rattle.arr_num.specs.Numbers.{width}
use Rattle.arr_num.specs.Kinds.{is_element_wise}
use Rattle.arr_view.specs.Views.{places, positions}
use Rattle.arr_store.specs.Runs.{moved, run_places}
use Rattle.arr_store.specs.Cells.{number_at}
use Rattle.arr_strips.specs.Columns.{Columns, filled, place_at, ends, opened, dropped, slots_end, results_at}
use Rattle.arr_strips.specs.Registers.{Registers, number_in, ran, lines_of, register_views, columns_from}
use Rattle.arr_strips.specs.Strips.{Bases, Walked, loaded, joined, part, stored, closed}
use Rattle.arr_strips.specs.Blocks.{is_block, block_positions, stores, fold_stores}
use Rattle.arr_strips.specs.Sums.{gathered_by, AllGathered, StartSums, closed_by}

-- the walk of a block, from the memory that `open` leaves
abbrev pub WalkedBlock : List Op → Memory → ℕ → Bases → Type 0
WalkedBlock ops m p now = Walked (block_positions ops) ops (reads ops) (stores ops) (opened ops m) p now

-- a block of a legal plan, none of whose operations is serial
abbrev pub BlocksOfPlans : Type 0
BlocksOfPlans =
    (list : List Op) (before after : List (List ℕ)) (block : List ℕ) → IsTrue (is_formed list) → IsTrue (is_legal list (before ++ block ∷ after))
    → IsTrue (list_all (λ f. not (serial f)) (ops_of (numbered list) block)) → IsTrue (is_block (ops_of (numbered list) block))

-- a walk to the end leaves what the operations leave, once the results of reductions are written and the freed bases are dropped
abbrev pub StripsKeepBases : Type 0
StripsKeepBases =
    (ops : List Op) (m : Memory) (now : Bases) → IsTrue (is_block ops) → IsTrue (fits m ops) → (w : WalkedBlock ops m (block_positions ops) now)
    → (b : ℕ) → dropped ops (closed (block_positions ops) ops ops w.begun now) b ≡ (eager m ops).bases b

abbrev pub StripsKeepSlots : Type 0
StripsKeepSlots =
    (ops : List Op) (m : Memory) (now : Bases) → IsTrue (is_block ops) → IsTrue (fits m ops) → (w : WalkedBlock ops m (block_positions ops) now)
    → (s : ℕ) → slots_end (block_positions ops) ops w.begun s (m.slots s) ≡ (eager m ops).slots s

-- a walk begins from what `open` leaves
abbrev pub StripsBegin : Type 0
StripsBegin = (ops : List Op) (m : Memory) → WalkedBlock ops m 0 (opened ops m)

-- what a strip at p of c positions loads: the numbers that stand there now
abbrev pub Loads : List Op → ℕ → ℕ → Bases → Columns → Type 0
Loads ops p c now here = (v : Strided) → loaded (reads ops) v ≡ true → (i : ℕ) → p ≤ i → i < p + c → here i v ≡ number_at (now v.base) (place_at v i)

-- one strip more: it loads, computes the columns, and stores them view after view; what was loaded is added to what was loaded before
abbrev pub StripsGoOn : Type 0
StripsGoOn =
    (ops : List Op) (m : Memory) (p c : ℕ) (now : Bases) → IsTrue (is_block ops) → IsTrue (fits m ops) → p + c ≤ block_positions ops → (w : WalkedBlock ops m p now)
    → (here done : Columns) → Loads ops p c now here
    → AllByRecursion (λ v. (i : ℕ) → p ≤ i → i < p + c → done i v ≡ ends ops (joined p w.begun here) i v) (stores ops)
    → (v : WalkedBlock ops m (p + c) (stored p c done (stores ops) now)) × (v.begun ≡ joined p w.begun here)

-- the same by registers, place by place in the strip: what the loads leave, what the lines leave, and what is stored; no
-- operation that fills a column is a scan
abbrev pub LinesGoOn : Type 0
LinesGoOn =
    (ops : List Op) (m : Memory) (p c : ℕ) (now : Bases) → IsTrue (is_block ops) → IsTrue (fits m ops)
    → AllByRecursion (λ (op : Op). AllByRecursion (λ (o : Strided). is_element_wise op.code ≡ true) (filled op)) ops → p + c ≤ block_positions ops → (w : WalkedBlock ops m p now)
    → (before after : ℕ → Registers)
    → ((v : Strided) → loaded (reads ops) v ≡ true → (i : ℕ) → i < c → before i (number_in (register_views ops) v) ≡ number_at (now v.base) (place_at v (p + i)))
    → ((i : ℕ) → i < c → after i ≡ ran (p + i) (lines_of (register_views ops) ops) (before i))
    → (v : WalkedBlock ops m (p + c) (stored p c (columns_from (register_views ops) p after) (stores ops) now)) × (v.begun ≡ joined p w.begun (columns_from (register_views ops) p before))

-- where positions of one row stand: in a run of the row's stride, from the place of the first of them
abbrev pub PartsOfRows : Type 0
PartsOfRows =
    (v : Strided) (ns : List ℕ) (ss : List ℤ) (m : ℕ) (s : ℤ) → v.lengths ≡ ns ++ m ∷ [] → v.strides ≡ ss ++ s ∷ [] → length ns ≡ length ss
    → (p c a : ℕ) → p / m < length (places ns ss (pos v.start)) → moved (get_or (places ns ss (pos v.start)) (p / m) (pos 0)) s (p % m) ≡ pos a → p % m + c ≤ m
    → part v p c ≡ run_places a s c

-- ---- reductions

-- what a reduction has gathered after the last position is its results
abbrev pub Gathers : Type 0
Gathers =
    (count : ℕ) (op : Op) (h : Columns) → or_zero op.axis < length (lengths_of op.first) → positions (lengths_of op.first) ≡ count
    → (l : ℕ) → l < positions (take (or_zero op.axis) (lengths_of op.first)) * positions (drop (suc (or_zero op.axis)) (lengths_of op.first))
    → 0 < get_or (lengths_of op.first) (or_zero op.axis) 1 → get_or (results_at count op h) l (pos 0) ≡ gathered_by op h count l

-- accumulators begin with the start of their fold
abbrev pub SumsBegin : Type 0
SumsBegin = (ops : List Op) (h : Columns) (sums : ℕ → ℕ → ℤ) → StartSums 0 ops sums → AllGathered 0 0 ops h sums

-- what was gathered before a strip is what its columns ask: the next strip goes on from it
abbrev pub SumsGoOn : Type 0
SumsGoOn =
    (ops : List Op) (m : Memory) (p : ℕ) (now : Bases) → IsTrue (is_block ops) → IsTrue (fits m ops) → p ≤ block_positions ops → (w : WalkedBlock ops m p now)
    → (here : Columns) (sums : ℕ → ℕ → ℤ) → AllGathered p 0 ops w.begun sums → AllGathered p 0 ops (joined p w.begun here) sums

-- a walk to the end, then the accumulators written, leaves what the operations leave, once the freed bases are dropped
abbrev pub SumsEnd : Type 0
SumsEnd =
    (ops : List Op) (m : Memory) (now : Bases) → IsTrue (is_block ops) → IsTrue (fits m ops) → (w : WalkedBlock ops m (block_positions ops) now)
    → (sums : ℕ → ℕ → ℤ) → AllGathered (block_positions ops) 0 ops w.begun sums → (b : ℕ) → dropped ops (closed_by ops 0 ops sums now) b ≡ (eager m ops).bases b

-- ---- bytes

-- one number for each view
abbrev pub widths : List Op → List Strided → ℕ
widths list vs = total (λ (v : Strided). width (elem_of list v.base)) vs

-- what a block loads: at each position one number for each view that is read
abbrev pub ReadsWeigh : Type 0
ReadsWeigh =
    (ops : List Op) (m : Memory) (list : List Op) → IsTrue (is_block ops) → IsTrue (fits m ops) → total (weight list) (reads ops) ≡ block_positions ops * widths list (reads ops)

-- what it stores: at each position one number for each view that is stored, and after the walk the results of its reductions
abbrev pub WritesWeigh : Type 0
WritesWeigh =
    (ops : List Op) (m : Memory) (list : List Op) → IsTrue (is_block ops) → IsTrue (fits m ops)
    → total (weight list) (writes ops) ≡ block_positions ops * widths list (stores ops) + total (weight list) (fold_stores ops)
