-- What a block reads and writes outside itself, and what a plan costs.
use Rattle.std.specs.Prelude.{ℕ, ◌+◌, ◌*◌, ◌==◌, List, [], ◌∷◌, ◌++◌, Bool, cond, not}
use Rattle.std.specs.List.{filter, flat_map}
use Rattle.arr_view.specs.Strided.{Strided}
use Rattle.arr_view.specs.Views.{identical, positions}
use Rattle.arr_ops.specs.Ops.{inputs, outputs, creates, freed_by}
use Rattle.arr_ops.specs.Formed.{typed}
use Rattle.arr_ops.specs.Plans.{ops_of, numbered}
use Rattle.arr_num.specs.declared.elem.Elem.{Elem}
use Rattle.arr_num.specs.declared.elem.Elem.TheVariants.{U8}
use Rattle.arr_ops.specs.declared.op.Op.{Op}
use Rattle.arr_num.specs.Numbers.{width}

abbrev pub elem_in : List (ℕ × Elem) → ℕ → Elem
elem_in [] b = U8
elem_in (p ∷ ps) b = cond (p.0 == b) p.1 (elem_in ps b)

-- the type of a base of the list
abbrev pub elem_of : List Op → ℕ → Elem
elem_of list b = elem_in (flat_map typed list) b

-- how many bytes a view of a type takes
abbrev pub weight_of : Elem → Strided → ℕ
weight_of t v = positions v.lengths * width t

abbrev pub weight : List Op → Strided → ℕ
weight list v = weight_of (elem_of list v.base) v

-- one of each class of equal values, the first
abbrev pub distinct : {V : Type 0} → (V → V → Bool) → List V → List V
distinct same [] = []
distinct same (v ∷ vs) = v ∷ filter (λ w. not (same v w)) (distinct same vs)

abbrev pub total : {X : Type 0} → (X → ℕ) → List X → ℕ
total w [] = 0
total w (x ∷ xs) = w x + total w xs

-- the views read whose base the block does not create, and those written whose base it does not free
abbrev pub all_reads : List Op → List Strided
all_reads ops = flat_map (λ (op : Op). filter (λ (v : Strided). not (creates ops v.base)) (inputs op)) ops

abbrev pub all_writes : List Op → List Strided
all_writes ops = flat_map (λ (op : Op). filter (λ (v : Strided). not (freed_by ops v.base)) (outputs op)) ops

-- up to identity, by first sight
abbrev pub reads : List Op → List Strided
reads ops = distinct identical (all_reads ops)

abbrev pub writes : List Op → List Strided
writes ops = distinct identical (all_writes ops)

abbrev pub ext : List Op → List Strided
ext ops = distinct identical (all_reads ops ++ all_writes ops)

-- in bytes
abbrev pub block_cost : List Op → List ℕ → ℕ
block_cost list block = total (weight list) (ext (ops_of (numbered list) block))

abbrev pub cost : List Op → List (List ℕ) → ℕ
cost list plan = total (block_cost list) plan
