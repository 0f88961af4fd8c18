-- What a block keeps for its operations, from position to position.
use Rattle.std.specs.Prelude.{ℕ, ℤ, suc, ◌≡◌, ◌+◌, ◌%◌, ◌<◌, ◌≤◌, nat_lt, true, List, cond, get_or, drop, take, length}
use Rattle.arr_num.specs.Kinds.{is_reduction, is_scan}
use Rattle.arr_num.specs.Numbers.{fold_start}
use Rattle.arr_view.specs.Views.{positions}
use Rattle.arr_ops.specs.declared.op.Op.{Op}
use Rattle.arr_ops.specs.Costs.{total}
use Rattle.arr_ops.specs.Memory.{lengths_of, or_zero}
use Rattle.arr_ops.specs.Traffic.{kept_for}
use Rattle.arr_strips.specs.Columns.{Columns, column, count, ends}
use Rattle.arr_strips.specs.Registers.{register_views}
use Rattle.arr_strips.specs.Sums.{gathered_by}
use Rattle.arr_sums.specs.Kept.{AreOf, kept_at}

-- where the numbers begin that are kept for operation j, behind one for each view
abbrev pub kept_from : List Op → ℕ → ℕ
kept_from ops j = length (register_views ops) + total kept_for (take j ops)

-- how many positions of its input stand before the axis that an operation folds along, and how many behind it
abbrev pub outer_of : Op → ℕ
outer_of op = positions (take (or_zero op.axis) (lengths_of op.first))

abbrev pub inner_of : Op → ℕ
inner_of op = positions (drop (suc (or_zero op.axis)) (lengths_of op.first))

-- what is kept for an operation after n positions: the accumulators of a reduction, and of a scan its last results, one for each place in a row
pub record OpKept (n at : ℕ) (op : Op) (h : Columns) (xs : List ℤ) : Type 0 where
  pub sums : is_reduction op.code ≡ true → (l : ℕ) → l < count op → kept_at xs at l ≡ gathered_by op h n l
  pub carries : is_scan op.code ≡ true → (q : ℕ) → q < n → n ≤ q + inner_of op → kept_at xs at (q % inner_of op) ≡ column op h q

-- of each operation, where the first k have done so many positions and the others so many
abbrev pub AllKept : List Op → ℕ → ℕ → ℕ → Columns → List ℤ → Type 0
AllKept ops k done left h xs = (j : ℕ) (op : Op) → j < length ops → op ≡ get_or ops j op → OpKept (cond (nat_lt j k) done left) (kept_from ops j) op (ends (take j ops) h) xs

-- what is kept for each operation is of its type
abbrev pub TypedKept : List Op → List ℤ → Type 0
TypedKept ops xs = (j : ℕ) (op : Op) → j < length ops → op ≡ get_or ops j op → AreOf op.to xs (kept_from ops j) (kept_for op)

-- the accumulators of the reductions among the first k operations are at the starts of their folds
abbrev pub StartsBelow : List Op → ℕ → List ℤ → Type 0
StartsBelow ops k xs = (j : ℕ) (op : Op) → j < k → j < length ops → op ≡ get_or ops j op → is_reduction op.code ≡ true → (l : ℕ) → l < count op → kept_at xs (kept_from ops j) l ≡ fold_start op.code op.to

-- the accumulators of each reduction are at the start of its fold
abbrev pub StartsFolds : List Op → List ℤ → Type 0
StartsFolds ops xs = (j : ℕ) (op : Op) → j < length ops → op ≡ get_or ops j op → is_reduction op.code ≡ true → (l : ℕ) → l < count op → kept_at xs (kept_from ops j) l ≡ fold_start op.code op.to
