-- What a block loads and stores, by positions.
use Rattle.std.proofs.Common.{◌≡◌, ℕ, ◌+◌, ◌*◌, List, [], ◌∷◌, Bool, true, not, ap₂, sym, ◌∙◌, arith, length}
use Rattle.std.specs.List.{AllByRecursion, filter}
use Rattle.arr_view.specs.Strided.{Strided}
use Rattle.arr_view.specs.Views.{elements, positions, identical, is_view}
use Rattle.arr_num.specs.Numbers.{width}
use Rattle.arr_ops.specs.declared.op.Op.{Op}
use Rattle.arr_ops.specs.Ops.{inputs, creates, freed_by}
use Rattle.arr_ops.specs.Memory.{Memory}
use Rattle.arr_ops.specs.Formed.{well_formed}
use Rattle.arr_ops.specs.Fits.{op_fits}
use Rattle.arr_ops.specs.Costs.{total, weight, elem_of, all_reads, reads}
use Rattle.arr_ops.proofs.Pairs.{All_weaker, All_filter}
use Rattle.arr_ops.proofs.Lengths.{length-elements}
use Rattle.arr_ops.proofs.Spots.{all_left, all_right, all_two, views_of, strides_of}
use Rattle.arr_strips.specs.Blocks.{block_positions, all_stores, stores}
use Rattle.arr_strips.specs.Laws.{widths}
use Rattle.arr_strips.specs.Columns.{filled}
use Rattle.arr_strips.proofs.Sorts.{walkings, walkings_of}
use Rattle.arr_strips.proofs.Sames.{all_flat_map, all_distinct}
use Rattle.arr_strips.proofs.Stages.{Alone}
use Rattle.arr_strips.proofs.Blocks.{Block, alones}

weighed : (list : List Op) (n : ℕ) (vs : List Strided) → AllByRecursion (λ (v : Strided). positions v.lengths ≡ n) vs → total (weight list) vs ≡ n * widths list vs
weighed list n [] h = omega arith
weighed list n (v ∷ vs) h =
    let r : total (weight list) vs ≡ n * widths list vs = weighed list n vs h.1 in
    ap₂ (λ a b. a * width (elem_of list v.base) + b) h.0 r ∙ (let e : n * width (elem_of list v.base) + n * widths list vs ≡ n * (width (elem_of list v.base) + widths list vs) = omega arith in e)

module _ (ops : List Op) (m : Memory) (b : Block ops) (fit : AllByRecursion (λ f. op_fits m ops f ≡ true) ops) where
  sized : AllByRecursion (λ (f : Op). AllByRecursion (λ (v : Strided). positions v.lengths ≡ block_positions ops) (walkings f)) ops
  sized =
      all_two (λ f. well_formed f ≡ true) (Alone (block_positions ops)) (λ (f : Op). AllByRecursion (λ (v : Strided). positions v.lengths ≡ block_positions ops) (walkings f))
      (λ f w a. all_two (λ v. is_view v ≡ true) (λ (v : Strided). length (elements v) ≡ block_positions ops) (λ (v : Strided). positions v.lengths ≡ block_positions ops)
      (λ v x y. sym (length-elements v (strides_of v x)) ∙ y) (walkings f) (walkings_of (λ v. is_view v ≡ true) f (views_of f w)) a.longs) ops b.well (alones ops m b fit)

  left_sized : (keep : Strided → Bool) (vs : List Strided) → AllByRecursion (λ (v : Strided). positions v.lengths ≡ block_positions ops) vs → AllByRecursion (λ (v : Strided). positions v.lengths ≡ block_positions ops) (filter keep vs)
  left_sized keep vs h =
      All_filter (λ (v : Strided). positions v.lengths ≡ block_positions ops) keep vs
      (All_weaker (λ (v : Strided). positions v.lengths ≡ block_positions ops) (λ (v : Strided). keep v ≡ true → positions v.lengths ≡ block_positions ops) (λ v e k. e) vs h)

  -- at each position as many bytes as the widths of the views
  pub read_weight : (list : List Op) → total (weight list) (reads ops) ≡ block_positions ops * widths list (reads ops)
  read_weight list =
      weighed list (block_positions ops) (reads ops)
      (all_distinct identical (λ (v : Strided). positions v.lengths ≡ block_positions ops) (all_reads ops)
      (all_flat_map (λ (v : Strided). positions v.lengths ≡ block_positions ops) (λ (op : Op). filter (λ (v : Strided). not (creates ops v.base)) (inputs op)) ops
      (All_weaker (λ (f : Op). AllByRecursion (λ (v : Strided). positions v.lengths ≡ block_positions ops) (walkings f))
      (λ (f : Op). AllByRecursion (λ (v : Strided). positions v.lengths ≡ block_positions ops) (filter (λ (v : Strided). not (creates ops v.base)) (inputs f)))
      (λ f h. left_sized (λ (v : Strided). not (creates ops v.base)) (inputs f) (all_right (λ (v : Strided). positions v.lengths ≡ block_positions ops) (filled f) (inputs f) h)) ops sized)))

  pub store_weight : (list : List Op) → total (weight list) (stores ops) ≡ block_positions ops * widths list (stores ops)
  store_weight list =
      weighed list (block_positions ops) (stores ops)
      (all_distinct identical (λ (v : Strided). positions v.lengths ≡ block_positions ops) (all_stores ops)
      (all_flat_map (λ (v : Strided). positions v.lengths ≡ block_positions ops) (λ (op : Op). filter (λ (v : Strided). not (freed_by ops v.base)) (filled op)) ops
      (All_weaker (λ (f : Op). AllByRecursion (λ (v : Strided). positions v.lengths ≡ block_positions ops) (walkings f))
      (λ (f : Op). AllByRecursion (λ (v : Strided). positions v.lengths ≡ block_positions ops) (filter (λ (v : Strided). not (freed_by ops v.base)) (filled f)))
      (λ f h. left_sized (λ (v : Strided). not (freed_by ops v.base)) (filled f) (all_left (λ (v : Strided). positions v.lengths ≡ block_positions ops) (filled f) (inputs f) h)) ops sized)))
