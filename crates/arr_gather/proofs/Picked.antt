-- From a store that fits a gather to the store that it leaves.
use Rattle.std.proofs.Common.{◌≡◌, ℕ, ◌*◌, ◌+◌, ◌≤◌, [], ◌∷◌, ℤ, List, true, false, cond, refl, ap, sym, ◌∙◌, arith, Some, None}
use Rattle.std.specs.List.{list_all}
use Rattle.std.specs.Prelude.{◌==◌}
use Rattle.arr_num.specs.Numbers.{width}
use Rattle.arr_view.specs.Views.{is_view, positions}
use Rattle.arr_view.proofs.Checks.{lawful}
use Rattle.arr_view.proofs.Counting.{some_position}
use Rattle.arr_ops.specs.declared.gather.Gather.{Gather}
use Rattle.arr_ops.specs.Costs.{weight_of}
use Rattle.arr_ops.specs.Fits.{meets_need}
use Rattle.arr_ops.specs.Gathers.{gather_fits, gathered, holds_all, is_gather, need, picked}
use Rattle.arr_ops.specs.Memory.{Becomes, Cell, Keeps, changed}
use Rattle.arr_ops.proofs.Spots.{none_from}
use Rattle.arr_ops.proofs.Tests.{both_left, both_right, same_from_test}
use Rattle.arr_store.specs.Cells.{assigned, width_at, with_numbers}
use Rattle.arr_store.specs.Stored.{Stored, cells, memory_of, picked_cell}
use Rattle.arr_gather.specs.Steps.{Holds, gather_loads, numbers_at}
use Rattle.arr_gather.proofs.Numbers.{holds_width, some_weight, target_of}

-- what a fitting store holds
pub record Fitting (op : Gather) (s : Stored) : Type 0 where
  pub source : Holds (cells s) op.to op.source
  pub index : Holds (cells s) op.of op.index
  pub out : cells s op.out.base ≡ None

pub fitting : (op : Gather) (s : Stored) → gather_fits (memory_of s) op ≡ true → Fitting op s
fitting op s h =
    let all = both_left _ _ h in
    record {
      source = both_left _ _ all;
      index = both_left _ _ (both_right (meets_need (cells s op.source.base) (need op.to op.source)) _ all);
      out = none_from (cells s op.out.base) (both_right (holds_all (memory_of s) (need op.to op.source ∷ need op.of op.index ∷ [])) _ h);
    }

-- ---- the bases that a gather leaves

becomes : (op : Gather) (s : Stored) (xs : List ℤ) → xs ≡ picked (numbers_at (cells s) op.source) (numbers_at (cells s) op.index)
    → assigned (cells s) op.out.base (Some (record { elem = op.to; numbers = xs })) ≡ (gathered (memory_of s) op).bases
becomes op s xs is = ap (λ ns. assigned (cells s) op.out.base (Some (record { elem = op.to; numbers = ns }))) is ∙ (λ i b. at b i)
  where
    new : Cell
    new = record { elem = op.to; numbers = picked (numbers_at (cells s) op.source) (numbers_at (cells s) op.index) }

    at : (b : ℕ) → assigned (cells s) op.out.base (Some new) b ≡ (gathered (memory_of s) op).bases b
    at b = elim (op.out.base == b) as (λ t. cond t (Some new) (cells s b) ≡ changed (cond t (Becomes new) Keeps) (cells s b)) [ true ↦ refl | false ↦ refl ]

pub leaves_gathered : (op : Gather) (s new : Stored) → Holds (cells s) op.to op.source → cells new ≡ assigned (cells s) op.out.base (picked_cell s op.source op.index)
    → cells new ≡ (gathered (memory_of s) op).bases
leaves_gathered op s new holds is =
    let source = target_of (cells s) op.to op.source holds in
    let xs : List ℤ = picked (numbers_at (cells s) op.source) (numbers_at (cells s) op.index) in
    is ∙ ap (λ c. assigned (cells s) op.out.base (with_numbers c xs)) source.is ∙ becomes op s xs refl

-- ---- what a gather weighs

-- the new base weighs as much as the index has positions
same_weight : (op : Gather) → is_gather op ≡ true → weight_of op.to op.out ≡ positions op.index.lengths * width op.to
same_weight op h =
    let shape = same_from_test op.out.lengths op.index.lengths (both_left _ _ (both_right (list_all is_view (op.out ∷ op.source ∷ op.index ∷ [])) _ h)) in
    ap (λ ls. positions ls * width op.to) shape

pub record Weights (op : Gather) (s : Stored) : Type 0 where
  pub stored : positions op.index.lengths * width_at (cells s op.source.base) ≡ weight_of op.to op.out
  pub loaded : positions op.index.lengths * (width_at (cells s op.index.base) + width_at (cells s op.source.base)) ≡ gather_loads op
  pub some_stored : 1 ≤ weight_of op.to op.out
  pub some_loaded : 1 ≤ gather_loads op

pub weights : (op : Gather) (s : Stored) → is_gather op ≡ true → gather_fits (memory_of s) op ≡ true → Weights op s
weights op s h fits =
    let n : ℕ = positions op.index.lengths in
    let f = fitting op s fits in
    let law : is_view op.out ≡ true = both_left _ _ (both_left _ _ h) in
    let some = some_position op.out.lengths (lawful op.out law).lengths in
    let one : 1 ≤ weight_of op.to op.out = some_weight op.to (positions op.out.lengths) (omega arith) in
    let stored : n * width_at (cells s op.source.base) ≡ weight_of op.to op.out = ap (λ k. n * k) (holds_width (cells s) op.to op.source f.source) ∙ sym (same_weight op h) in
    let index : n * width_at (cells s op.index.base) ≡ weight_of op.of op.index = ap (λ k. n * k) (holds_width (cells s) op.of op.index f.index) in
    record {
      stored = stored;
      loaded = omega arith;
      some_stored = one;
      some_loaded = omega arith;
    }
