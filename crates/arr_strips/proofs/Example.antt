-- The premises of the laws can be met.
use Rattle.std.proofs.Common.{◌≡◌, ℕ, ◌+◌, ◌≤◌, ◌<◌, pos, List, [], ◌∷◌, true, false, refl, arith, Some, None}
use Rattle.arr_view.specs.Views.{elements}
use Rattle.arr_num.specs.Numbers.{value, wrap}
use Rattle.arr_num.specs.declared.elem.Elem.TheVariants.{I64}
use Rattle.arr_num.specs.declared.code.Code.TheVariants.{Add, AddAccumulate, AddReduce}
use Rattle.arr_ops.specs.declared.op.Op.{Op}
use Rattle.arr_ops.specs.declared.op.Operand.TheVariants.{Array, Number}
use Rattle.arr_ops.specs.Examples.{line, operation, free, sync, counted, chained}
use Rattle.arr_ops.specs.Memory.{Memory, eager, empty, results}
use Rattle.arr_ops.specs.Fits.{fits}
use Rattle.std.specs.List.{AllByRecursion}
use Rattle.arr_view.specs.Strided.{Strided}
use Rattle.arr_store.specs.Cells.{number_at}
use Rattle.arr_strips.specs.Columns.{Columns, place_at, ends, opened}
use Rattle.arr_strips.specs.Strips.{Bases, joined, stored}
use Rattle.arr_strips.specs.Blocks.{is_block, block_positions, stores}
use Rattle.arr_strips.specs.Laws.{WalkedBlock}
use Rattle.arr_strips.proofs.StripLaws.{begin, go_on}

-- two contracted bases, a SYNC and the FREE of an older base
chained_is : (is_block chained ≡ true) × (fits (eager empty counted) chained ≡ true)
unfolding elements results value wrap
chained_is = (refl, refl)

-- a running sum of a, one more than it, and a dropped
abbrev scanned_block : List Op
scanned_block =
    record { code = AddAccumulate; to = I64; from = I64; out = Some (line 1 4); first = Some (Array (line 0 4)); second = None; axis = Some 0; slot = None; frees = None; makes = true }
    ∷ operation Add (line 1 4) (Some (Array (line 1 4))) (Some (Number (pos 1))) false
    ∷ sync (line 1 4) 1 ∷ free 0 ∷ []

scanned_is : (is_block scanned_block ≡ true) × (fits (eager empty counted) scanned_block ≡ true)
unfolding elements results value wrap
scanned_is = (refl, refl)

-- the sum of a + a: its terms are contracted, and the sum is shown outside the block
abbrev summed_block : List Op
summed_block =
    operation Add (line 1 4) (Some (Array (line 0 4))) (Some (Array (line 0 4))) true
    ∷ record { code = AddReduce; to = I64; from = I64; out = Some (line 2 1); first = Some (Array (line 1 4)); second = None; axis = Some 0; slot = None; frees = None; makes = true }
    ∷ free 1 ∷ []

summed_is : (is_block summed_block ≡ true) × (fits (eager empty counted) summed_block ≡ true) × (stores summed_block ≡ [])
unfolding elements results value wrap
summed_is = (refl, refl, refl)

-- one strip of all positions is a walk, and leaves what eager execution leaves
module _ (ops : List Op) (m : Memory) (is : is_block ops ≡ true) (fit : fits m ops ≡ true) where
  abbrev start : Bases
  start = opened ops m

  abbrev here : Columns
  here q v = number_at (start v.base) (place_at v q)

  begun : WalkedBlock ops m 0 start
  begun = begin ops m

  abbrev done : Columns
  done = ends ops (joined 0 begun.begun here)

  one_strip : WalkedBlock ops m (0 + block_positions ops) (stored 0 (block_positions ops) done (stores ops) start)
  one_strip = (go_on ops m 0 (block_positions ops) start is fit (omega arith) begun here done (λ v on i l u. refl) (all (stores ops))).0
    where
      all : (vs : List Strided) → AllByRecursion (λ v. (i : ℕ) → 0 ≤ i → i < 0 + block_positions ops → done i v ≡ ends ops (joined 0 begun.begun here) i v) vs
      all [] = tt
      all (v ∷ vs) = ((λ i l u. refl), all vs)
