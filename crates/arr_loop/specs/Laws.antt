-- What is promised of the blocks of plans.
use Rattle.std.specs.Prelude.{ℕ, ◌≡◌, true, false, List, ◌∷◌, ◌++◌, IsTrue, not}
use Rattle.std.specs.List.{AllByRecursion, filter, list_any}
use Rattle.arr_view.specs.Strided.{Strided}
use Rattle.arr_view.specs.Views.{identical}
use Rattle.arr_ops.specs.declared.op.Op.{Op}
use Rattle.arr_ops.specs.Costs.{distinct, reads, total, writes}
use Rattle.arr_ops.specs.Memory.{Memory, eager, step}
use Rattle.arr_ops.specs.Ops.{creates, freed_by, inputs, is_free, outputs, serial}
use Rattle.arr_ops.specs.Formed.{is_formed}
use Rattle.arr_ops.specs.Plans.{is_legal}
use Rattle.arr_ops.specs.Traffic.{buffers}
use Rattle.arr_strips.specs.Columns.{dropped}
use Rattle.arr_contract.specs.Prepared.{may_share_block}
use Rattle.arr_loop.specs.Opened.{buffers_for}

-- One operation among FREEs, which is serial: the block creates no base, reads its inputs and writes its output, shows nothing, and leaves
-- what the operation leaves, without the bases that the block frees.
pub record SerialBlock (ops : List Op) (op : Op) : Type 0 where
  pub front : List Op
  pub back : List Op
  pub is : ops ≡ front ++ op ∷ back
  pub before : AllByRecursion (λ f. is_free f ≡ true) front
  pub behind : AllByRecursion (λ f. is_free f ≡ true) back
  pub serial_is : serial op ≡ true
  pub creates_none : (b : ℕ) → creates ops b ≡ false
  pub reads_are : reads ops ≡ distinct identical (inputs op)
  pub writes_are : writes ops ≡ filter (λ (v : Strided). not (freed_by ops v.base)) (outputs op)
  pub bases : (m : Memory) (b : ℕ) → (eager m ops).bases b ≡ dropped ops (step m op).bases b
  pub slots : (m : Memory) → (eager m ops).slots ≡ m.slots

abbrev pub SerialBlocks : Type 0
SerialBlocks = (ops : List Op) → IsTrue (may_share_block ops) → IsTrue (list_any serial ops) → (op : Op) × SerialBlock ops op

-- the buffers that opening makes, over the blocks of a legal plan, are those of the bases that no block contracts
abbrev pub BuffersMade : Type 0
BuffersMade =
    (list : List Op) (plan : List (List ℕ)) → IsTrue (is_formed list) → IsTrue (is_legal list plan)
    → total (buffers_for list) plan ≡ buffers list plan
