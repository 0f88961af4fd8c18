-- What is promised of every formed list.
use Rattle.std.specs.Prelude.{ℕ, ◌≡◌, ◌≤◌, ◌+◌, List, [], ◌∷◌, ◌++◌, IsTrue, Bool, true, false, ◌&&◌, Option, Some, None}
use Rattle.arr_num.specs.declared.elem.Elem.{Elem}
use Rattle.arr_ops.specs.declared.op.Op.{Op}
use Rattle.std.specs.List.{list_all}
use Rattle.std.specs.List.Sorted.{IsPermutation}
use Rattle.arr_num.specs.Numbers.{in_type}
use Rattle.arr_view.specs.Strided.{Strided}
use Rattle.arr_ops.specs.Ops.{dep, inputs}
use Rattle.arr_ops.specs.Memory.{Memory, Cell, step, eager}
use Rattle.arr_ops.specs.Formed.{is_formed, same_elem}
use Rattle.arr_ops.specs.Fits.{fits}
use Rattle.arr_ops.specs.Plans.{is_legal, eager_blocks, numbered, ops_of}
use Rattle.arr_ops.specs.Order.{each_fusible, is_orderable, is_partition, ordered}
use Rattle.arr_ops.specs.Costs.{block_cost}

-- the memory before each block fits the block's operations
abbrev pub blocks_fit : Memory → List (ℕ × Op) → List (List ℕ) → Bool
blocks_fit m xs [] = true
blocks_fit m xs (block ∷ blocks) = fits m (ops_of xs block) && blocks_fit (eager m (ops_of xs block)) xs blocks

-- block after block leaves what the list leaves
abbrev pub PlansKeepMemory : Type 0
PlansKeepMemory =
    (list : List Op) (plan : List (List ℕ)) (m : Memory) → IsTrue (is_formed list) → IsTrue (fits m list) → IsTrue (is_legal list plan)
    → eager_blocks m (numbered list) plan ≡ eager m list

-- each block finds what it needs, and numbers of their base's type
abbrev pub BlocksFit : Type 0
BlocksFit =
    (list : List Op) (plan : List (List ℕ)) (m : Memory) → IsTrue (is_formed list) → IsTrue (fits m list) → IsTrue (is_legal list plan)
    → IsTrue (blocks_fit m (numbered list) plan)

-- two operations that do not depend leave the same memory in either order
abbrev pub IndependentCommute : Type 0
IndependentCommute =
    (front between back : List Op) (f g : Op) (m : Memory) → IsTrue (is_formed (front ++ f ∷ (between ++ g ∷ back))) → dep f g ≡ false
    → step (step m f) g ≡ step (step m g) f

-- a base of a type holds numbers of that type
abbrev pub holds_type : Elem → Option Cell → Bool
holds_type t None = true
holds_type t (Some c) = same_elem c.elem t && list_all (in_type c.elem) c.numbers

-- whatever an operation of the list reads is of its type, after the operations before it
abbrev pub NumbersStayTyped : Type 0
NumbersStayTyped =
    (front back : List Op) (op : Op) (m : Memory) → IsTrue (is_formed (front ++ op ∷ back)) → IsTrue (fits m (front ++ op ∷ back))
    → IsTrue (list_all (λ (v : Strided). holds_type op.from ((eager m front).bases v.base)) (inputs op))

-- one block costs at most what its two parts cost
abbrev pub MergingSaves : Type 0
MergingSaves = (list : List Op) (left right : List ℕ) → block_cost list (left ++ right) ≤ block_cost list left + block_cost list right

-- the order of a partition is a legal plan of its blocks
abbrev pub OrdersAreLegal : Type 0
OrdersAreLegal =
    (list : List Op) (blocks plan : List (List ℕ)) → IsTrue (is_partition list blocks) → IsTrue (each_fusible list blocks) → ordered list blocks ≡ Some plan
    → IsPermutation blocks plan × IsTrue (is_legal list plan)

-- and there is one wherever the blocks, in some order, are a legal plan
abbrev pub OrdersAreFound : Type 0
OrdersAreFound =
    (list : List Op) (blocks plan : List (List ℕ)) → IsPermutation blocks plan → IsTrue (is_legal list plan) → IsTrue (is_partition list blocks && is_orderable list blocks)
