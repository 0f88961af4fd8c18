-- Views that nothing needs behind an operation of a block.
use Rattle.std.proofs.Common.{◌≡◌, ℕ, List, [], ◌∷◌, true, false, not, ◌||◌, drop, refl, ap, ap₂, sym, ◌∙◌}
use Rattle.std.proofs.lemmas.Bool.{false≢true}
use Rattle.std.proofs.lemmas.List.Folds.{list_any-append}
use Rattle.std.specs.List.{AllByRecursion, filter, flat_map, list_any}
use Rattle.arr_view.specs.Strided.{Strided}
use Rattle.arr_view.specs.Views.{identical}
use Rattle.arr_ops.specs.declared.op.Op.{Op}
use Rattle.arr_ops.specs.Ops.{freed_by, inputs}
use Rattle.arr_ops.proofs.Pairs.{All_filter}
use Rattle.arr_strips.specs.Blocks.{all_stores, stores}
use Rattle.arr_strips.specs.Columns.{filled}
use Rattle.arr_strips.specs.Strips.{loaded}
use Rattle.arr_strips.proofs.Sames.{all_distinct, all_flat_map, none_if, same_base, untrue}
use Rattle.arr_machine.specs.Needed.{needed}

-- what is loaded of some lists one after another is loaded of one of them
pub loaded_flat : (ops : List Op) (v : Strided) → loaded (flat_map inputs ops) v ≡ list_any (λ op. loaded (inputs op) v) ops
loaded_flat [] v = refl
loaded_flat (op ∷ ops) v =
    list_any-append (λ w. identical w v) (inputs op) (flat_map inputs ops) ∙ ap (λ b. loaded (inputs op) v || b) (loaded_flat ops v)

-- a view whose base is kept is not one whose base the block frees
apart : (ops : List Op) (w v : Strided) → freed_by ops v.base ≡ true → not (freed_by ops w.base) ≡ true → identical w v ≡ false
apart ops w v freed kept =
    elim (identical w v) as (λ z. identical w v ≡ z → z ≡ false) [
      | true ↦ λ e. absurd (false≢true (sym (untrue (freed_by ops w.base) kept) ∙ (ap (freed_by ops) (same_base w v e) ∙ freed)))
      | false ↦ λ e. refl
    ] refl

-- the walk stores no view of a base that the block frees
pub not_stored : (ops : List Op) (v : Strided) → freed_by ops v.base ≡ true → loaded (stores ops) v ≡ false
not_stored ops v freed =
    none_if (λ w. identical w v) (stores ops)
    (all_distinct identical (λ w. identical w v ≡ false) (all_stores ops)
    (all_flat_map (λ w. identical w v ≡ false) (λ (op : Op). filter (λ (w : Strided). not (freed_by ops w.base)) (filled op)) ops (each ops)))
  where
    some : (ws : List Strided) → AllByRecursion (λ (w : Strided). not (freed_by ops w.base) ≡ true → identical w v ≡ false) ws
    some [] = tt
    some (w ∷ ws) = (apart ops w v freed, some ws)

    each : (fs : List Op) → AllByRecursion (λ (op : Op). AllByRecursion (λ w. identical w v ≡ false) (filter (λ (w : Strided). not (freed_by ops w.base)) (filled op))) fs
    each [] = tt
    each (op ∷ fs) = (All_filter (λ w. identical w v ≡ false) (λ (w : Strided). not (freed_by ops w.base)) (filled op) (some (filled op)), each fs)

-- nothing needs a view of a base that the block frees where no operation from there on reads it
pub not_needed : (ops : List Op) (k : ℕ) (v : Strided) → freed_by ops v.base ≡ true → loaded (flat_map inputs (drop k ops)) v ≡ false → needed ops k v ≡ false
not_needed ops k v freed unread =
    list_any-append (λ w. identical w v) (flat_map inputs (drop k ops)) (stores ops) ∙ ap₂ (λ a b. a || b) unread (not_stored ops v freed)
