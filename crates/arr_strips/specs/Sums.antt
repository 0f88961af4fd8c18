-- What a reduction has gathered after some positions of the walk.
use Rattle.std.specs.Prelude.{ℕ, zero, suc, ℤ, true, ◌≡◌, ◌<◌, List, [], ◌∷◌, ◌+◌, ◌*◌, ◌/◌, ◌%◌, ◌==◌, cond, map, drop, get_or}
use Rattle.arr_view.specs.Views.{positions}
use Rattle.arr_num.specs.Numbers.{value, fold_start}
use Rattle.arr_ops.specs.declared.op.Op.{Op}
use Rattle.arr_ops.specs.Memory.{lengths_of, or_zero}
use Rattle.arr_num.specs.Kinds.{is_reduction}
use Rattle.std.specs.List.{range_with_len}
use Rattle.arr_strips.specs.Columns.{Columns, taken, next, count, folds_to}
use Rattle.arr_strips.specs.Strips.{Bases, kept, put_out}

-- the number of the result that position p goes into, along an axis of length n with `inner` positions after it
abbrev pub lane_number : ℕ → ℕ → ℕ → ℕ
lane_number n inner p = p / inner / n * inner + p % inner

-- accumulator l after the first p positions
abbrev pub gathered : (ℤ → ℤ → ℤ) → ℤ → ℕ → ℕ → (ℕ → ℤ) → ℕ → ℕ → ℤ
gathered f z n inner xs zero l = z
gathered f z n inner xs (suc p) l = cond (lane_number n inner p == l) (f (gathered f z n inner xs p l) (xs p)) (gathered f z n inner xs p l)

-- of a reduction, from the columns at its point
abbrev pub gathered_by : Op → Columns → ℕ → ℕ → ℤ
gathered_by op h p l =
    gathered (value op.code op.to) (fold_start op.code op.to) (get_or (lengths_of op.first) (or_zero op.axis) 1) (positions (drop (suc (or_zero op.axis)) (lengths_of op.first))) (λ q. taken (h q) op.first) p l

-- the accumulators of each reduction of a block, numbered by its place in the block from k on, after p positions
abbrev pub AllGathered : ℕ → ℕ → List Op → Columns → (ℕ → ℕ → ℤ) → Type 0
AllGathered p k [] h sums = Unit {0}
AllGathered p k (op ∷ ops) h sums = (is_reduction op.code ≡ true → (l : ℕ) → l < count op → sums k l ≡ gathered_by op h p l) × AllGathered p (suc k) ops (next op h) sums

-- each at the start of its fold
abbrev pub StartSums : ℕ → List Op → (ℕ → ℕ → ℤ) → Type 0
StartSums k [] sums = Unit {0}
StartSums k (op ∷ ops) sums = (is_reduction op.code ≡ true → (l : ℕ) → l < count op → sums k l ≡ fold_start op.code op.to) × StartSums (suc k) ops sums

-- after the walk the accumulators are written, one reduction after another
abbrev pub closed_by : List Op → ℕ → List Op → (ℕ → ℕ → ℤ) → Bases → Bases
closed_by all k [] sums f = f
closed_by all k (op ∷ ops) sums f = closed_by all (suc k) ops sums (put_out (kept all (folds_to op)) (map (sums k) (range_with_len 0 (count op))) f)
