-- The views that a walk loads and stores are registers, and have as many positions as the block.
use Rattle.std.proofs.Common.{◌≡◌, List, true, not, length, sym, ◌∙◌}
use Rattle.std.specs.List.{AllByRecursion, filter}
use Rattle.arr_view.specs.Strided.{Strided}
use Rattle.arr_view.specs.Views.{elements, identical, is_view}
use Rattle.arr_ops.specs.declared.op.Op.{Op}
use Rattle.arr_ops.specs.Costs.{reads}
use Rattle.arr_ops.specs.Formed.{well_formed}
use Rattle.arr_ops.specs.Ops.{creates, freed_by, inputs, serial, views}
use Rattle.arr_ops.proofs.Pairs.{All_filter, All_weaker}
use Rattle.arr_ops.proofs.Parts.{length-elements}
use Rattle.arr_ops.proofs.Spots.{all_left, all_right, all_two, views_of}
use Rattle.arr_strips.specs.Blocks.{block_positions, block_shape, stores}
use Rattle.arr_strips.specs.Columns.{filled}
use Rattle.arr_strips.specs.Registers.{register_views}
use Rattle.arr_strips.specs.Strips.{loaded}
use Rattle.arr_strips.proofs.Blocks.{Block}
use Rattle.arr_strips.proofs.Machine.{has_register}
use Rattle.arr_strips.proofs.Sames.{all_distinct, all_flat_map}
use Rattle.arr_strips.proofs.Sorts.{AtShape, one_shape, walkings, walkings_of}
use Rattle.arr_strips.proofs.Stages.{Alone, alone_of}
use Rattle.arr_contract.specs.Making.{IsWalked}

module _ (ops : List Op) (b : Block ops) where
  one_walked : (f : Op) → well_formed f ≡ true → not (serial f) ≡ true → AtShape (block_shape ops) f → AllByRecursion (λ v. loaded (register_views ops) v ≡ true) (views f) → AllByRecursion (IsWalked ops) (walkings f)
  one_walked f well parallel at on =
      let seen : AllByRecursion (λ v. is_view v ≡ true) (views f) = views_of f well in
      let alone : Alone (block_positions ops) f = alone_of (block_shape ops) f well parallel at in
      all_two (λ v. (is_view v ≡ true) × (loaded (register_views ops) v ≡ true)) (λ (v : Strided). length (elements v) ≡ block_positions ops) (IsWalked ops)
      (λ v s l. record { register = s.1; long = sym (length-elements v s.0) ∙ l }) (walkings f)
      (both (walkings f) (walkings_of (λ v. is_view v ≡ true) f seen) (walkings_of (λ v. loaded (register_views ops) v ≡ true) f on)) alone.longs
    where
      both : (vs : List Strided) → AllByRecursion (λ v. is_view v ≡ true) vs → AllByRecursion (λ v. loaded (register_views ops) v ≡ true) vs → AllByRecursion (λ v. (is_view v ≡ true) × (loaded (register_views ops) v ≡ true)) vs
      both vs a c = all_two (λ v. is_view v ≡ true) (λ v. loaded (register_views ops) v ≡ true) (λ v. (is_view v ≡ true) × (loaded (register_views ops) v ≡ true)) (λ v x y. (x, y)) vs a c

  all_walked : AllByRecursion (λ f. AllByRecursion (IsWalked ops) (walkings f)) ops
  all_walked =
      all_two (λ f. (well_formed f ≡ true) × ((not (serial f) ≡ true) × AtShape (block_shape ops) f)) (λ (f : Op). AllByRecursion (λ v. loaded (register_views ops) v ≡ true) (views f)) (λ f. AllByRecursion (IsWalked ops) (walkings f))
      (λ f w on. one_walked f w.0 w.1.0 w.1.1 on) ops
      (all_two (λ f. well_formed f ≡ true) (λ f. (not (serial f) ≡ true) × AtShape (block_shape ops) f) (λ f. (well_formed f ≡ true) × ((not (serial f) ≡ true) × AtShape (block_shape ops) f)) (λ f x y. (x, y)) ops b.well
      (all_two (λ f. not (serial f) ≡ true) (AtShape (block_shape ops)) (λ f. (not (serial f) ≡ true) × AtShape (block_shape ops) f) (λ f x y. (x, y)) ops b.parallel (one_shape ops b.fuse b.well)))
      (has_register ops)

  pub reads_walked : AllByRecursion (IsWalked ops) (reads ops)
  reads_walked =
      all_distinct identical (IsWalked ops) _
      (all_flat_map (IsWalked ops) (λ (op : Op). filter (λ (v : Strided). not (creates ops v.base)) (inputs op)) ops
      (All_weaker (λ f. AllByRecursion (IsWalked ops) (walkings f)) (λ (op : Op). AllByRecursion (IsWalked ops) (filter (λ (v : Strided). not (creates ops v.base)) (inputs op)))
      (λ f h. All_filter (IsWalked ops) (λ (v : Strided). not (creates ops v.base)) (inputs f) (All_weaker (IsWalked ops) (λ v. not (creates ops v.base) ≡ true → IsWalked ops v) (λ v w e. w) (inputs f) (all_right (IsWalked ops) (filled f) (inputs f) h))) ops all_walked))

  pub stores_walked : AllByRecursion (IsWalked ops) (stores ops)
  stores_walked =
      all_distinct identical (IsWalked ops) _
      (all_flat_map (IsWalked ops) (λ (op : Op). filter (λ (v : Strided). not (freed_by ops v.base)) (filled op)) ops
      (All_weaker (λ f. AllByRecursion (IsWalked ops) (walkings f)) (λ (op : Op). AllByRecursion (IsWalked ops) (filter (λ (v : Strided). not (freed_by ops v.base)) (filled op)))
      (λ f h. All_filter (IsWalked ops) (λ (v : Strided). not (freed_by ops v.base)) (filled f) (All_weaker (IsWalked ops) (λ v. not (freed_by ops v.base) ≡ true → IsWalked ops v) (λ v w e. w) (filled f) (all_left (IsWalked ops) (filled f) (inputs f) h))) ops all_walked))
