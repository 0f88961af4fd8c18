-- What an operation needs is there where it runs: views lie inside their bases, and their numbers are of its types.
use Rattle.std.proofs.Common.{◌≡◌, ℕ, zero, suc, ◌+◌, ◌≤◌, ℤ, pos, List, ◌∷◌, ◌++◌, length, map, Bool, true, false, not, ◌||◌, ◌&&◌, refl, ap, sym, subst, ◌∙◌, arith, Option, Some, None, replicate, []}
use Rattle.std.specs.List.{AllByRecursion, list_all, list_any, range_with_len}
use Rattle.std.specs.Option.{option_to_list}
use Rattle.std.specs.Prelude.{◌==◌, is_some, is_none}
use Rattle.std.proofs.lemmas.Bool.{false≢true, true≢false, eq-eqb, ne_eqb, lt-ltb}
use Rattle.std.proofs.lemmas.List.{length-map}
use Rattle.std.proofs.lemmas.List.FromFn.{length-range_with_len}
use Rattle.arr_num.specs.Kinds.{Kind, Binary, Unary, Counting, Reduction, Scan, Ending, Printing, kind, binds_two, binds_one, counts, is_binary, is_element_wise, is_fold, folds, scans}
use Rattle.arr_num.specs.Numbers.{in_type, may_stand_right}
use Rattle.arr_num.specs.Types.{types_match}
use Rattle.arr_num.specs.declared.code.Code.{Code}
use Rattle.arr_num.specs.declared.code.Code.TheVariants.{Power, Range, Identity}
use Rattle.arr_num.specs.declared.elem.Elem.{Elem}
use Rattle.arr_num.specs.declared.elem.Elem.TheVariants.{U64}
use Rattle.arr_kernel.specs.Inputs.{is_position, takes_left, takes_right}
use Rattle.arr_view.specs.Strided.{Strided}
use Rattle.arr_view.specs.Views.{elements, is_view}
use Rattle.arr_ops.specs.Fits.{Need, needs, meets_need, op_fits}
use Rattle.arr_ops.specs.Formed.{well_formed, makes_whole, writes_once, kind_kept, operands_kept, types_kept, numbers_kept, numbers_of, elementwise, is_array, same_elem, is_whole, along_axis, dropped_axis}
use Rattle.arr_ops.specs.Memory.{Memory, Cell, read, operand, first_numbers, without_slots}
use Rattle.arr_ops.specs.Ops.{view_of, inputs, outputs, freed, creates}
use Rattle.arr_ops.specs.declared.op.Op.{Op}
use Rattle.arr_ops.specs.declared.op.Operand.{Operand}
use Rattle.arr_ops.specs.declared.op.Operand.TheVariants.{Array, Number}
use Rattle.arr_ops.proofs.Pairs.{All_weaker}
use Rattle.arr_ops.proofs.Spots.{all_left, all_right, all_mapped, all_two, same_elem_is, views_of, operands_of, types_of}
use Rattle.arr_ops.proofs.Tests.{both_left, both_right, all_of, test_all}
use Rattle.arr_ops.proofs.Typed.{AllIn, CellFits, read_in, zero_in}
use Rattle.arr_store.specs.Cells.{takes}
use Rattle.arr_store.proofs.Lawful.{both}
use Rattle.arr_contract.proofs.Makings.{numbers_of_op, first_kept}
use Rattle.arr_loop.specs.Numbers.{lie_inside}

-- ---- needs

abbrev pub input_need : Op → Strided → Need
input_need op v = record { base = v.base; elem = op.from; places = elements v }

abbrev pub output_need : Op → Strided → Need
output_need op v = record { base = v.base; elem = op.to; places = elements v }

abbrev pub freed_need : Op → ℕ → Need
freed_need op b = record { base = b; elem = op.to; places = [] }

abbrev met : Memory → Op → Need → Bool
met m op n = creates (op ∷ []) n.base || meets_need (m.bases n.base) n

not_created_by : (makes : Bool) (out : Option Strided) (vs : List Strided)
    → (not makes || (is_some out && list_all (λ (o : Strided). is_whole o && list_all (λ (v : Strided). not (v.base == o.base)) vs) (option_to_list out))) ≡ true
    → AllByRecursion (λ (v : Strided). ((makes && list_any (λ (o : Strided). o.base == v.base) (option_to_list out)) || false) ≡ false) vs
not_created_by false out vs h = each vs
  where
    each : (vs : List Strided) → AllByRecursion (λ (v : Strided). ((false && list_any (λ (o : Strided). o.base == v.base) (option_to_list out)) || false) ≡ false) vs
    each [] = tt
    each (v ∷ vs) = (refl, each vs)
not_created_by true None vs h = absurd (false≢true h)
not_created_by true (Some o) vs h =
    let apart = both_right (is_whole o) _ (both_left (is_whole o && list_all (λ (v : Strided). not (v.base == o.base)) vs) _ h) in
    All_weaker (λ (v : Strided). not (v.base == o.base) ≡ true) (λ (v : Strided). (((o.base == v.base) || false) || false) ≡ false)
    (λ v t. ap (λ b. (b || false) || false) (ne_eqb o.base v.base (λ e. false≢true (sym (ap not (eq-eqb v.base o.base (sym e))) ∙ t)))) vs (all_of (λ (v : Strided). not (v.base == o.base)) vs apart)

if_not : (a b : Bool) → a ≡ false → (a || b) ≡ true → b ≡ true
if_not true b e h = absurd (true≢false e)
if_not false b e h = h

module _ (m : Memory) (op : Op) (well : well_formed op ≡ true) (fit : op_fits (without_slots m) (op ∷ []) op ≡ true) where
  all_met : AllByRecursion (λ n. met m op n ≡ true) (needs op)
  all_met = all_of (met m op) (needs op) (both_left (list_all (met m op) (needs op)) _ fit)

  views_met : AllByRecursion (λ n. met m op n ≡ true) (map (output_need op) (outputs op) ++ map (input_need op) (inputs op))
  views_met = all_left (λ n. met m op n ≡ true) (map (output_need op) (outputs op) ++ map (input_need op) (inputs op)) (map (freed_need op) (freed op)) all_met

  made_apart : makes_whole op ≡ true
  made_apart = both_right (writes_once op) _ (both_right _ (writes_once op && makes_whole op) (both_right (kind_kept op) _ well))

  -- each view that is read is there
  pub inputs_met : AllByRecursion (λ (v : Strided). meets_need (m.bases v.base) (input_need op v) ≡ true) (inputs op)
  inputs_met =
      all_two (λ (v : Strided). creates (op ∷ []) v.base ≡ false) (λ (v : Strided). met m op (input_need op v) ≡ true) (λ (v : Strided). meets_need (m.bases v.base) (input_need op v) ≡ true)
      (λ v a b. if_not (creates (op ∷ []) v.base) _ a b) (inputs op)
      (not_created_by op.makes op.out (inputs op) made_apart)
      (all_mapped (λ n. met m op n ≡ true) (input_need op) (inputs op) (all_right (λ n. met m op n ≡ true) (map (output_need op) (outputs op)) (map (input_need op) (inputs op)) views_met))

  -- a view that is written in a base that it does not create is there
  pub outputs_met : AllByRecursion (λ (v : Strided). op.makes ≡ false → meets_need (m.bases v.base) (output_need op v) ≡ true) (outputs op)
  outputs_met =
      All_weaker (λ (v : Strided). met m op (output_need op v) ≡ true) (λ (v : Strided). op.makes ≡ false → meets_need (m.bases v.base) (output_need op v) ≡ true)
      (λ v h e. if_not (creates (op ∷ []) v.base) _ (ap (λ k. (k && list_any (λ (o : Strided). o.base == v.base) (outputs op)) || false) e) h) (outputs op)
      (all_mapped (λ n. met m op n ≡ true) (output_need op) (outputs op) (all_left (λ n. met m op n ≡ true) (map (output_need op) (outputs op)) (map (input_need op) (inputs op)) views_met))

-- ---- what is there

pub met_inside : (c : Option Cell) (n : Need) → meets_need c n ≡ true → lie_inside n.places c ≡ true
met_inside None n h = absurd (false≢true h)
met_inside (Some c) n h = both_right (list_all (in_type c.elem) c.numbers) _ (both_right (same_elem c.elem n.elem) _ h)

pub met_typed : (c : Option Cell) (n : Need) → meets_need c n ≡ true → CellFits n.elem c
met_typed None n h = absurd (false≢true h)
met_typed (Some c) n h =
    let same : c.elem ≡ n.elem = same_elem_is c.elem n.elem (both_left (same_elem c.elem n.elem) _ h) in
    let numbers : AllIn c.elem c.numbers = all_of (in_type c.elem) c.numbers (both_left (list_all (in_type c.elem) c.numbers) _ (both_right (same_elem c.elem n.elem) _ h)) in
    (same, subst (λ t. AllIn t c.numbers) same numbers)

pub met_views : (m : Memory) (op : Op) (vs : List Strided) → AllByRecursion (λ (v : Strided). meets_need (m.bases v.base) (input_need op v) ≡ true) vs → list_all (λ (v : Strided). lie_inside (elements v) (m.bases v.base)) vs ≡ true
met_views m op vs h =
    test_all (λ (v : Strided). lie_inside (elements v) (m.bases v.base)) vs
    (All_weaker (λ (v : Strided). meets_need (m.bases v.base) (input_need op v) ≡ true) (λ (v : Strided). lie_inside (elements v) (m.bases v.base) ≡ true) (λ v e. met_inside (m.bases v.base) (input_need op v) e) vs h)

pub same_in : (t : Elem) (z : ℤ) (n : ℕ) → in_type t z ≡ true → list_all (in_type t) (replicate n z) ≡ true
same_in t z zero h = refl
same_in t z (suc n) h = both _ _ h (same_in t z n h)

pub operand_in : (m : Memory) (n : ℕ) (t : Elem) (o : Option Operand) → list_all (in_type t) (numbers_of o) ≡ true → AllByRecursion (λ (v : Strided). CellFits t (m.bases v.base)) (view_of o) → list_all (in_type t) (operand m n o) ≡ true
operand_in m n t None h k = same_in t (pos 0) n (zero_in t)
operand_in m n t (Some (Number z)) h k = same_in t z n (both_left (in_type t z) _ h)
operand_in m n t (Some (Array v)) h k = test_all (in_type t) (read (m.bases v.base) (elements v)) (read_in t (m.bases v.base) (elements v) k.0)

pub length-first : (code : Code) (m : Memory) (n : ℕ) (o : Option Operand) → length (operand m n o) ≡ n → length (first_numbers code m n o) ≡ n
length-first Range m n o h = length-map (range_with_len 0 n) pos ∙ length-range_with_len 0 n
length-first _ m n o h = h

-- ---- what a code takes

positions_in : (a n : ℕ) → a + n ≤ 1048576 → list_all is_position (map pos (range_with_len a n)) ≡ true
positions_in a zero h = refl
positions_in a (suc n) h = both _ _ (lt-ltb a 1048576 (omega arith)) (positions_in (a + 1) n (omega arith))

pub left_in : (code : Code) (m : Memory) (n : ℕ) (o : Option Operand) (t : Elem) → n ≤ 1048576 → list_all (in_type t) (operand m n o) ≡ true → list_all (takes_left code t) (first_numbers code m n o) ≡ true
left_in Range m n o t few h = positions_in 0 n (omega arith)
left_in _ m n o t few h = h

weaker_in : (b : Bool) (p : ℤ → Bool) (ys : List ℤ) → list_all p ys ≡ true → list_all (λ y. not b || p y) ys ≡ true
weaker_in true p ys h = h
weaker_in false p [] h = refl
weaker_in false p (y ∷ ys) h = weaker_in false p ys (both_right (p y) _ h)

pub right_in : (code : Code) (t : Elem) (ys : List ℤ) → list_all (may_stand_right code t) ys ≡ true → list_all (takes_right code t) ys ≡ true
right_in code t ys h = weaker_in (is_binary code) (may_stand_right code t) ys h

no_views : (m : Memory) (t : Elem) (o : Option Operand) → not (is_array o) ≡ true → AllByRecursion (λ (v : Strided). CellFits t (m.bases v.base)) (view_of o)
no_views m t None h = tt
no_views m t (Some (Number z)) h = tt
no_views m t (Some (Array v)) h = absurd (false≢true h)

pub second_in : (code : Code) (m : Memory) (n : ℕ) (op : Op) → numbers_kept code op ≡ true → AllByRecursion (λ (v : Strided). CellFits op.from (m.bases v.base)) (view_of op.second) → list_all (may_stand_right code op.from) (operand m n op.second) ≡ true
second_in Power m n op h k =
    let a = both_right (list_all (in_type op.from) (numbers_of op.first)) _ h in
    operand_in m n U64 op.second (both_right (not (is_array op.second)) _ a) (no_views m U64 op.second (both_left (not (is_array op.second)) _ a))
second_in _ m n op h k = operand_in m n op.from op.second (both_right (list_all (in_type op.from) (numbers_of op.first)) _ h) k

-- ---- types

pub types_matched : (code : Code) (op : Op) → types_kept code op ≡ true → types_match code op.to op.from ≡ true
types_matched Identity op h = refl
types_matched Range op h = refl
types_matched _ op h = h

pub elementwise_of : (k : Kind) (op : Op) → (binds_two k || (binds_one k || counts k)) ≡ true → operands_kept k op ≡ true → elementwise op ≡ true
elementwise_of Binary op e h = both_left (elementwise op) _ h
elementwise_of Unary op e h = both_left (elementwise op) _ h
elementwise_of Counting op e h = both_left (elementwise op) _ h
elementwise_of Reduction op e h = absurd (false≢true e)
elementwise_of Scan op e h = absurd (false≢true e)
elementwise_of Ending op e h = absurd (false≢true e)
elementwise_of Printing op e h = absurd (false≢true e)

-- ---- what is written

module _ (m : Memory) (op : Op) (o : Strided) (well : well_formed op ≡ true) (out : op.out ≡ Some o) (fit : op_fits (without_slots m) (op ∷ []) op ≡ true) where
  pub out_view : is_view o ≡ true
  out_view = (subst (λ x. AllByRecursion (λ v. is_view v ≡ true) (option_to_list x)) out (all_left (λ v. is_view v ≡ true) (outputs op) (inputs op) (views_of op well))).0

  out_met : op.makes ≡ false → meets_need (m.bases o.base) (output_need op o) ≡ true
  out_met makes = (subst (λ x. AllByRecursion (λ (v : Strided). op.makes ≡ false → meets_need (m.bases v.base) (output_need op v) ≡ true) (option_to_list x)) out (outputs_met m op well fit)).0 makes

  pub out_inside : op.makes ≡ false → lie_inside (elements o) (m.bases o.base) ≡ true
  out_inside makes = met_inside (m.bases o.base) (output_need op o) (out_met makes)

  pub out_takes : op.makes ≡ false → (zs : List ℤ) → list_all (in_type op.to) zs ≡ true → list_all (takes (m.bases o.base)) zs ≡ true
  out_takes makes zs h = taken (m.bases o.base) (output_need op o) (out_met makes) refl
    where
      taken : (c : Option Cell) (n : Need) → meets_need c n ≡ true → n.elem ≡ op.to → list_all (takes c) zs ≡ true
      taken None n e same = absurd (false≢true e)
      taken (Some c) n e same = subst (λ t. list_all (in_type t) zs ≡ true) (sym ((met_typed (Some c) n e).0 ∙ same)) h

-- ---- an element-wise operation

module _ (m : Memory) (op : Op) (o : Strided) (well : well_formed op ≡ true) (code : is_element_wise op.code ≡ true) (out : op.out ≡ Some o) (fit : op_fits (without_slots m) (op ∷ []) op ≡ true) where
  there : AllByRecursion (λ (v : Strided). meets_need (m.bases v.base) (input_need op v) ≡ true) (inputs op)
  there = inputs_met m op well fit

  typed : AllByRecursion (λ (v : Strided). CellFits op.from (m.bases v.base)) (inputs op)
  typed = All_weaker (λ (v : Strided). meets_need (m.bases v.base) (input_need op v) ≡ true) (λ (v : Strided). CellFits op.from (m.bases v.base)) (λ v h. met_typed (m.bases v.base) (input_need op v) h) (inputs op) there

  pub first_inside : list_all (λ (v : Strided). lie_inside (elements v) (m.bases v.base)) (view_of op.first) ≡ true
  first_inside = met_views m op (view_of op.first) (all_left (λ (v : Strided). meets_need (m.bases v.base) (input_need op v) ≡ true) (view_of op.first) (view_of op.second) there)

  pub second_inside : list_all (λ (v : Strided). lie_inside (elements v) (m.bases v.base)) (view_of op.second) ≡ true
  second_inside = met_views m op (view_of op.second) (all_right (λ (v : Strided). meets_need (m.bases v.base) (input_need op v) ≡ true) (view_of op.first) (view_of op.second) there)

  pub left_taken : (n : ℕ) → n ≤ 1048576 → list_all (takes_left op.code op.from) (first_numbers op.code m n op.first) ≡ true
  left_taken n few =
      left_in op.code m n op.first op.from few
      (operand_in m n op.from op.first (first_kept op.code op (numbers_of_op op well)) (all_left (λ (v : Strided). CellFits op.from (m.bases v.base)) (view_of op.first) (view_of op.second) typed))

  pub right_taken : (n : ℕ) → list_all (takes_right op.code op.from) (operand m n op.second) ≡ true
  right_taken n =
      right_in op.code op.from (operand m n op.second)
      (second_in op.code m n op (numbers_of_op op well) (all_right (λ (v : Strided). CellFits op.from (m.bases v.base)) (view_of op.first) (view_of op.second) typed))

  pub types_of_op : types_match op.code op.to op.from ≡ true
  types_of_op = types_matched op.code op (types_of op well)

-- ---- an operation along an axis

axis_types : (op : Op) (after : ℕ → List ℕ → List ℕ) → along_axis op after ≡ true → op.to ≡ op.from
axis_types op after h =
    let a = both_right (is_some op.out) _ h in
    let b = both_right (is_array op.first) _ a in
    let c = both_right (is_none op.second) _ b in
    let d = both_right (is_none op.slot) _ c in
    let f = both_right (is_none op.frees) _ d in
    same_elem_is op.to op.from (both_left (same_elem op.to op.from) _ f)

same_types_kept : (k : Kind) (op : Op) → (folds k || scans k) ≡ true → operands_kept k op ≡ true → op.to ≡ op.from
same_types_kept Reduction op h kept = axis_types op dropped_axis kept
same_types_kept Scan op h kept = axis_types op (λ axis lengths. lengths) kept
same_types_kept _ op h kept = absurd (false≢true h)

module _ (m : Memory) (op : Op) (input : Strided) (axis : ℕ) (well : well_formed op ≡ true) (code : is_fold op.code ≡ true) (first : op.first ≡ Some (Array input)) (at : op.axis ≡ Some axis) (fit : op_fits (without_slots m) (op ∷ []) op ≡ true) where
  input_met : meets_need (m.bases input.base) (input_need op input) ≡ true
  input_met =
      let all = all_left (λ (v : Strided). meets_need (m.bases v.base) (input_need op v) ≡ true) (view_of op.first) (view_of op.second) (inputs_met m op well fit) in
      (subst (λ x. AllByRecursion (λ (v : Strided). meets_need (m.bases v.base) (input_need op v) ≡ true) (view_of x)) first all).0

  pub input_inside : lie_inside (elements input) (m.bases input.base) ≡ true
  input_inside = met_inside (m.bases input.base) (input_need op input) input_met

  pub input_typed : list_all (in_type op.to) (read (m.bases input.base) (elements input)) ≡ true
  input_typed =
      let same : op.to ≡ op.from = same_types_kept (kind op.code) op code (operands_of op well) in
      subst (λ t. list_all (in_type t) (read (m.bases input.base) (elements input)) ≡ true) (sym same)
      (test_all (in_type op.from) (read (m.bases input.base) (elements input)) (read_in op.from (m.bases input.base) (elements input) (met_typed (m.bases input.base) (input_need op input) input_met)))
