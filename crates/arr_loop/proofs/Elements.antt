-- The results of an element-wise operation, position by position.
use Rattle.std.proofs.Common.{◌≡◌, ℕ, ◌+◌, ◌*◌, ◌<◌, ◌≤◌, pos, [], ◌∷◌, ◌++◌, true, false, cond, not, ◌||◌, Option, Some, None, length, get_or, refl, ap, ap₂, sym, ◌∙◌, arith}
use Rattle.std.specs.Prelude.{is_none, nat_lt}
use Rattle.std.specs.List.{AllByRecursion, list_all}
use Rattle.std.specs.Option.{option_to_list}
use Rattle.std.proofs.lemmas.Bool.{false≢true, lt-ltb}
use Rattle.arr_num.specs.declared.code.Code.{Code}
use Rattle.arr_num.specs.declared.code.Code.TheVariants.{Range}
use Rattle.arr_num.specs.Kinds.{Kind, Binary, Unary, Counting, Reduction, Scan, Ending, Printing, binds_one, binds_two, counts, folds, is_element_wise, kind}
use Rattle.arr_num.specs.Numbers.{value, width}
use Rattle.arr_kernel.specs.Inputs.{takes_left, takes_right}
use Rattle.arr_view.specs.Strided.{Strided}
use Rattle.arr_view.specs.Views.{elements, identical, positions}
use Rattle.arr_ops.specs.declared.op.Op.{Op}
use Rattle.arr_ops.specs.declared.op.Operand.{Operand}
use Rattle.arr_ops.specs.declared.op.Operand.TheVariants.{Array, Number}
use Rattle.arr_ops.specs.Costs.{distinct, total}
use Rattle.arr_ops.specs.Fits.{Need, meets_need, op_fits}
use Rattle.arr_ops.specs.Formed.{elementwise, operands_kept, same_elem, well_formed}
use Rattle.arr_ops.specs.Memory.{Cell, Memory, computed, first_numbers, operand, out_lengths, without_slots}
use Rattle.arr_ops.specs.Ops.{array_of, inputs, view_of}
use Rattle.arr_ops.specs.Traffic.{axis_length}
use Rattle.arr_ops.proofs.Pairs.{All_weaker}
use Rattle.arr_ops.proofs.Spots.{Plain, all_left, all_right, none_from, operands_of, plain_at, same_elem_is}
use Rattle.arr_ops.proofs.Tests.{both_left, both_right, test_all}
use Rattle.std.proofs.lemmas.List.FromFn.{get_or-map-range_with_len}
use Rattle.arr_loop.proofs.Needs.{elementwise_of, input_need, inputs_met, left_taken, length-first, right_taken}
use Rattle.arr_loop.proofs.Moves.{small_width}
use Rattle.arr_store.specs.Cells.{number_at, width_at}
use Rattle.arr_store.proofs.Pages.{passes}
use Rattle.arr_strips.specs.Columns.{Columns, Row, first_taken, look, taken}
use Rattle.arr_strips.proofs.Sames.{same_base, same_elements}
use Rattle.arr_strips.proofs.Values.{Held, HeldAll, column_zip, length-operand, operand_held, zip_columnar, zips}
use Rattle.arr_loop.specs.Numbers.{loads_each, row_at, same_inputs, same_views}

-- ---- operands

pub range_first : (op : Op) → well_formed op ≡ true → op.code ≡ Range → op.first ≡ None
range_first op well e =
    none_from op.first (both_left (is_none op.first) _ (both_right (elementwise op) _ (ap (λ c. operands_kept (kind c) op) (sym e) ∙ operands_of op well)))

pub no_loads : (W : Strided → ℕ) (op : Op) → well_formed op ≡ true → op.code ≡ Range → total W (view_of op.first) ≡ 0
no_loads W op well e = ap (λ o. total W (view_of o)) (range_first op well e)

pub first_other : (code : Code) (p : ℕ) (h : Row) (o : Option Operand) → (code ≡ Range → ⊥) → first_taken code p h o ≡ taken h o
first_other Range p h o n = absurd (n refl)
first_other _ p h o n = refl

shared_some : (a b : Option Operand) → same_views (array_of a) (array_of b) ≡ true → a ≡ None → ⊥
shared_some None b h e = false≢true h
shared_some (Some (Number z)) b h e = false≢true h
shared_some (Some (Array v)) b h e = absurd (cc)

pub first_shared : (op : Op) (p : ℕ) (h : Row) → well_formed op ≡ true → same_inputs op ≡ true → first_taken op.code p h op.first ≡ taken h op.first
first_shared op p h well s = first_other op.code p h op.first (λ e. shared_some op.first op.second s (range_first op well e))

taken_same : (f : ℕ → Option Cell) (p : ℕ) (a b : Option Operand) → same_views (array_of a) (array_of b) ≡ true → taken (row_at f p) a ≡ taken (row_at f p) b
taken_same f p None b h = absurd (false≢true h)
taken_same f p (Some (Number z)) b h = absurd (false≢true h)
taken_same f p (Some (Array v)) None h = absurd (false≢true h)
taken_same f p (Some (Array v)) (Some (Number z)) h = absurd (false≢true h)
taken_same f p (Some (Array v)) (Some (Array w)) h = ap₂ (λ b es. number_at (f b) (get_or es p 0)) (same_base v w h) (same_elements v w h)

pub second_shared : (op : Op) (f : ℕ → Option Cell) (p : ℕ) → same_inputs op ≡ true → taken (row_at f p) op.first ≡ taken (row_at f p) op.second
second_shared op f p h = taken_same f p op.first op.second h

-- ---- what is loaded

one_each : (W : Strided → ℕ) (w : ℕ) (x y : Option Strided) → AllByRecursion (λ v. W v ≡ w) (option_to_list x) → AllByRecursion (λ v. W v ≡ w) (option_to_list y)
    → total W (option_to_list x) + cond (same_views x y) 0 (total W (option_to_list y)) ≡ length (distinct identical (option_to_list x ++ option_to_list y)) * w
one_each W w None None h k = omega arith
one_each W w None (Some v) h k = let e : W v ≡ w = k.0 in omega arith
one_each W w (Some v) None h k = let e : W v ≡ w = h.0 in omega arith
one_each W w (Some v) (Some u) h k =
    let a : W v ≡ w = h.0 in
    let b : W u ≡ w = k.0 in
    elim (identical v u) as (λ z. W v + 0 + cond z 0 (W u + 0) ≡ length (v ∷ cond (not z) (u ∷ []) []) * w) [ true ↦ omega arith | false ↦ omega arith ]

pub width_met : (c : Option Cell) (n : Need) → meets_need c n ≡ true → width_at c ≡ width n.elem
width_met None n h = absurd (false≢true h)
width_met (Some c) n h = ap width (same_elem_is c.elem n.elem (both_left (same_elem c.elem n.elem) _ h))

element_not_fold : (k : Kind) → (binds_two k || (binds_one k || counts k)) ≡ true → folds k ≡ false
element_not_fold Binary h = refl
element_not_fold Unary h = refl
element_not_fold Counting h = refl
element_not_fold Reduction h = absurd (false≢true h)
element_not_fold Scan h = refl
element_not_fold Ending h = refl
element_not_fold Printing h = refl

zips_of : (k : Kind) → (binds_two k || (binds_one k || counts k)) ≡ true → zips k ≡ true
zips_of Binary h = refl
zips_of Unary h = refl
zips_of Counting h = refl
zips_of Reduction h = absurd (false≢true h)
zips_of Scan h = absurd (false≢true h)
zips_of Ending h = absurd (false≢true h)
zips_of Printing h = absurd (false≢true h)

first_at : (m : Memory) (n : ℕ) (h : Columns) (code : Code) (o : Option Operand) → HeldAll n m h (view_of o) → (p : ℕ) → p < n → get_or (first_numbers code m n o) p (pos 0) ≡ first_taken code p (h p) o
first_at m n h Range o g p l = get_or-map-range_with_len pos 0 n p p (pos 0) l (omega arith)
first_at m n h _ o g p l = operand_held n m h o g p l

module _ (m : Memory) (op : Op) (o : Strided) (well : well_formed op ≡ true) (code : is_element_wise op.code ≡ true) (out : op.out ≡ Some o) (fit : op_fits (without_slots m) (op ∷ []) op ≡ true) where
  plain : Plain op o
  plain = plain_at op o out well (elementwise_of (kind op.code) op code (operands_of op well))

  h : Columns
  h = λ p v. look m v p

  held : HeldAll (positions o.lengths) m h (inputs op)
  unfolding h
  held = All_weaker (λ (v : Strided). length (elements v) ≡ positions o.lengths) (Held (positions o.lengths) m h) (λ v e. record { long = e; same = λ p l. refl }) (inputs op) plain.sizes

  pub there_first : (p : ℕ) → p < positions o.lengths → list_all (λ (v : Strided). nat_lt p (positions v.lengths)) (view_of op.first) ≡ true
  there_first p l =
      test_all (λ (v : Strided). nat_lt p (positions v.lengths)) (view_of op.first)
      (All_weaker (λ (v : Strided). v.lengths ≡ o.lengths) (λ (v : Strided). nat_lt p (positions v.lengths) ≡ true) (λ v e. ap (λ n. nat_lt p (positions n)) e ∙ lt-ltb p (positions o.lengths) l) (view_of op.first)
      (all_left (λ (v : Strided). v.lengths ≡ o.lengths) (view_of op.first) (view_of op.second) plain.shapes))

  pub there_second : (p : ℕ) → p < positions o.lengths → list_all (λ (v : Strided). nat_lt p (positions v.lengths)) (view_of op.second) ≡ true
  there_second p l =
      test_all (λ (v : Strided). nat_lt p (positions v.lengths)) (view_of op.second)
      (All_weaker (λ (v : Strided). v.lengths ≡ o.lengths) (λ (v : Strided). nat_lt p (positions v.lengths) ≡ true) (λ v e. ap (λ n. nat_lt p (positions n)) e ∙ lt-ltb p (positions o.lengths) l) (view_of op.second)
      (all_right (λ (v : Strided). v.lengths ≡ o.lengths) (view_of op.first) (view_of op.second) plain.shapes))

  size : positions (out_lengths op.out) ≡ positions o.lengths
  size = ap (λ x. positions (out_lengths x)) out

  pub element_value : (p : ℕ) → p < positions o.lengths → get_or (computed m op) p (pos 0) ≡ value op.code op.to (first_taken op.code p (row_at m.bases p) op.first) (taken (row_at m.bases p) op.second)
  unfolding h
  element_value p l =
      (zip_columnar (positions o.lengths) op (zips_of (kind op.code) code) size).result m h held p l
      ∙ column_zip (kind op.code) op h p (zips_of (kind op.code) code)

  pub left_in : (p : ℕ) → p < positions o.lengths → positions o.lengths ≤ 1048576 → takes_left op.code op.from (first_taken op.code p (row_at m.bases p) op.first) ≡ true
  unfolding h
  left_in p l few =
      let n : ℕ = positions o.lengths in
      let firsts : HeldAll n m h (view_of op.first) = all_left (Held n m h) (view_of op.first) (view_of op.second) held in
      let long : length (first_numbers op.code m n op.first) ≡ n = length-first op.code m n op.first (length-operand n m h op.first firsts) in
      ap (takes_left op.code op.from) (sym (first_at m n h op.code op.first firsts p l))
      ∙ passes (takes_left op.code op.from) (first_numbers op.code m n op.first) p (pos 0) (omega arith) (left_taken m op o well code out fit n few)

  pub right_in : (p : ℕ) → p < positions o.lengths → takes_right op.code op.from (taken (row_at m.bases p) op.second) ≡ true
  unfolding h
  right_in p l =
      let n : ℕ = positions o.lengths in
      let seconds : HeldAll n m h (view_of op.second) = all_right (Held n m h) (view_of op.first) (view_of op.second) held in
      let long : length (operand m n op.second) ≡ n = length-operand n m h op.second seconds in
      ap (takes_right op.code op.from) (sym (operand_held n m h op.second seconds p l))
      ∙ passes (takes_right op.code op.from) (operand m n op.second) p (pos 0) (omega arith) (right_taken m op o well code out fit n)

  pub element_loads : total (λ (v : Strided). width_at (m.bases v.base)) (view_of op.first) + cond (same_inputs op) 0 (total (λ (v : Strided). width_at (m.bases v.base)) (view_of op.second)) ≡ loads_each op
  element_loads =
      let W : Strided → ℕ = λ (v : Strided). width_at (m.bases v.base) in
      let each : AllByRecursion (λ (v : Strided). W v ≡ width op.from) (inputs op) =
      All_weaker (λ (v : Strided). meets_need (m.bases v.base) (input_need op v) ≡ true) (λ (v : Strided). W v ≡ width op.from) (λ v e. width_met (m.bases v.base) (input_need op v) e) (inputs op) (inputs_met m op well fit) in
      one_each W (width op.from) (array_of op.first) (array_of op.second) (all_left (λ v. W v ≡ width op.from) (view_of op.first) (view_of op.second) each) (all_right (λ v. W v ≡ width op.from) (view_of op.first) (view_of op.second) each)
      ∙ ap (λ z. cond z (axis_length op) (length (distinct identical (inputs op))) * width op.from) (sym (element_not_fold (kind op.code) code))

-- what is loaded for one operand is at most 8 bytes
pub few_loads : (f : ℕ → Option Cell) (o : Option Operand) → total (λ (v : Strided). width_at (f v.base)) (view_of o) ≤ 8
few_loads f None = omega arith
few_loads f (Some (Number z)) = omega arith
few_loads f (Some (Array v)) = let e : width_at (f v.base) ≤ 8 = small_width (f v.base) in omega arith
