-- The task of an operation, by its kind.
use Rattle.std.proofs.Common.{◌≡◌, ℕ, ◌+◌, ◌*◌, ◌<◌, List, true, false, ◌||◌, Option, Some, None, length, get_or, map, refl, ap, sym, subst, ◌∙◌, arith}
use Rattle.std.specs.Prelude.{is_none, is_some, slice_get}
use Rattle.std.specs.List.{AllByRecursion}
use Rattle.std.proofs.lemmas.Bool.{false≢true, true≢false}
use Rattle.arr_num.specs.declared.code.Code.{Code}
use Rattle.arr_num.specs.declared.code.Code.TheVariants.{Range}
use Rattle.arr_num.specs.Kinds.{Kind, Binary, Unary, Counting, Ending, Printing, Reduction, Scan, binds_one, binds_two, counts, folds, is_element_wise, is_reduction, is_scan, kind, scans}
use Rattle.arr_view.specs.Strided.{Strided}
use Rattle.arr_ops.specs.declared.op.Op.{Op}
use Rattle.arr_ops.specs.declared.op.Operand.{Operand}
use Rattle.arr_ops.specs.declared.op.Operand.TheVariants.{Array, Number}
use Rattle.arr_ops.specs.Costs.{elem_of}
use Rattle.arr_ops.specs.Formed.{each_typed, elementwise, is_array, operands_kept, well_formed}
use Rattle.arr_ops.specs.Ops.{inputs, outputs, view_of, views}
use Rattle.arr_ops.proofs.Spots.{all_left, all_right, none_from, operands_of}
use Rattle.arr_ops.proofs.Tests.{both_left, both_right}
use Rattle.arr_store.specs.Buffers.{cell_of}
use Rattle.arr_store.specs.declared.buffer.Buffer.{Buffer}
use Rattle.arr_strips.specs.Registers.{register_views}
use Rattle.arr_strips.specs.Strips.{loaded}
use Rattle.arr_strips.proofs.Machine.{has_register}
use Rattle.arr_strips.proofs.Sorts.{sorts}
use Rattle.arr_machine.specs.Tasks.{Stands}
use Rattle.arr_machine.proofs.Blocks.{all_get}
use Rattle.arr_machine.proofs.Operands.{stands_typed}
use Rattle.arr_machine.proofs.Types.{inputs_of_type}
use Rattle.arr_contract.specs.Making.{kept_second, lane_cells, operand_lane}
use Rattle.arr_contract.proofs.Makings.{first_holds, lanes_typed, second_holds}

-- ---- kinds

pub reduction_kind : (k : Kind) → folds k ≡ true → k ≡ Reduction
reduction_kind Reduction h = refl
reduction_kind _ h = absurd (false≢true h)

pub scan_kind : (k : Kind) → scans k ≡ true → k ≡ Scan
scan_kind Scan h = refl
scan_kind _ h = absurd (false≢true h)

-- an operation that has a slot is a SYNC
pub slot_kind : (op : Op) (s : ℕ) → well_formed op ≡ true → op.slot ≡ Some s → kind op.code ≡ Printing
slot_kind op s well e =
    sorts op well (λ o fill plain. absurd (other (sym plain.no_slot ∙ e))) (λ v w. w.kind_is) (λ w. absurd (other (sym w.no_slot ∙ e))) (λ o v w. absurd (other (sym w.no_slot ∙ e)))
  where
    other : None ≡ Some s → ⊥
    other h = cc

-- one that has neither slot nor output is a FREE
pub free_kind : (op : Op) → well_formed op ≡ true → op.slot ≡ None → op.out ≡ None → kind op.code ≡ Ending
free_kind op well slot out =
    sorts op well (λ o fill plain. absurd (none_some (sym out ∙ plain.out))) (λ v w. absurd (prints (kind op.code) (operands_of op well) w.kind_is)) (λ w. w.kind_is) (λ o v w. absurd (none_some (sym out ∙ w.out)))
  where
    none_some : {X : Type 0} {x : X} → None ≡ Some x → ⊥
    none_some h = cc

    prints : (k : Kind) → operands_kept k op ≡ true → k ≡ Printing → ⊥
    prints Printing h e = false≢true (ap (λ (o : Option ℕ). is_some o) (sym slot) ∙ both_left (is_some op.slot) _ h)
    prints Binary h e = cc
    prints Unary h e = cc
    prints Counting h e = cc
    prints Reduction h e = cc
    prints Scan h e = cc
    prints Ending h e = cc

-- one that has an output, and is no fold, computes number by number
pub element_kind : (op : Op) (o : Strided) → well_formed op ≡ true → op.out ≡ Some o → is_reduction op.code ≡ false → is_scan op.code ≡ false → is_element_wise op.code ≡ true
element_kind op o well out red scan = at (kind op.code) refl (operands_of op well)
  where
    none_some : op.out ≡ None → ⊥
    none_some h = let e : None ≡ Some o = sym h ∙ out in cc

    at : (k : Kind) → kind op.code ≡ k → operands_kept k op ≡ true → is_element_wise op.code ≡ true
    at Binary e h = ap (λ q. binds_two q || (binds_one q || counts q)) e
    at Unary e h = ap (λ q. binds_two q || (binds_one q || counts q)) e
    at Counting e h = ap (λ q. binds_two q || (binds_one q || counts q)) e
    at Reduction e h = absurd (true≢false (sym (ap folds e) ∙ red))
    at Scan e h = absurd (true≢false (sym (ap scans e) ∙ scan))
    at Ending e h = absurd (none_some (none_from op.out (both_left (is_none op.out) _ (both_right (is_some op.frees) _ h))))
    at Printing e h = absurd (none_some (none_from op.out (both_left (is_none op.out) _ (both_right (is_array op.first) _ (both_right (is_some op.slot) _ h)))))

-- one that takes nothing is RANGE
counting_range : (code : Code) → kind code ≡ Counting → code ≡ Range
counting_range Range h = refl
counting_range _ h = absurd (cc)

pub range_code : (op : Op) → well_formed op ≡ true → is_element_wise op.code ≡ true → op.first ≡ None → op.code ≡ Range
range_code op well code none = at (kind op.code) refl (operands_of op well)
  where
    at : (k : Kind) → kind op.code ≡ k → operands_kept k op ≡ true → op.code ≡ Range
    at Binary e h = absurd (false≢true (ap (λ (o : Option Operand). is_some o) (sym none) ∙ both_left (is_some op.first) _ (both_right (elementwise op) _ h)))
    at Unary e h = absurd (false≢true (ap (λ (o : Option Operand). is_some o) (sym none) ∙ both_left (is_some op.first) _ (both_right (elementwise op) _ h)))
    at Counting e h = counting_range op.code e
    at Reduction e h = absurd (false≢true (sym (ap (λ q. binds_two q || (binds_one q || counts q)) e) ∙ code))
    at Scan e h = absurd (false≢true (sym (ap (λ q. binds_two q || (binds_one q || counts q)) e) ∙ code))
    at Ending e h = absurd (false≢true (sym (ap (λ q. binds_two q || (binds_one q || counts q)) e) ∙ code))
    at Printing e h = absurd (false≢true (sym (ap (λ q. binds_two q || (binds_one q || counts q)) e) ∙ code))

-- ---- lanes of operands

module _ (ops : List Op) (room : ℕ) (lanes : List Buffer) (e : map cell_of lanes ≡ lane_cells ops room (register_views ops)) (types : each_typed ops ≡ true) (k : ℕ) (op : Op) (l : k < length ops) (is : op ≡ get_or ops k op) where
  on : AllByRecursion (λ v. loaded (register_views ops) v ≡ true) (views op)
  on = all_get (λ (f : Op). AllByRecursion (λ v. loaded (register_views ops) v ≡ true) (views f)) ops k op l is (has_register ops)

  pub inputs_on : AllByRecursion (λ v. loaded (register_views ops) v ≡ true) (inputs op)
  inputs_on = all_right (λ v. loaded (register_views ops) v ≡ true) (outputs op) (inputs op) on

  -- its first operand, where it has one
  pub first_stands : (other : ℕ) → (op.first ≡ None → ⊥) → Stands ops room lanes op.from op.first (operand_lane (register_views ops) (length (register_views ops) + 2 * k) other op.first)
  first_stands other some = at op.first refl
    where
      at : (o : Option Operand) → op.first ≡ o → Stands ops room lanes op.from o (operand_lane (register_views ops) (length (register_views ops) + 2 * k) other o)
      at None h = absurd (some h)
      at (Some (Number z)) h = first_holds ops room lanes e k op l is z h
      at (Some (Array v)) h = refl

  first_typed : (lane : ℕ) → Stands ops room lanes op.from op.first lane → Rattle.arr_lanes.specs.Lanes.IsLane op.from room (slice_get lanes lane)
  first_typed lane s =
      stands_typed ops room lanes op.from op.first lane (lanes_typed ops room lanes e) (all_left (λ v. loaded (register_views ops) v ≡ true) (view_of op.first) (view_of op.second) inputs_on)
      (all_left (λ (v : Strided). elem_of ops v.base ≡ op.from) (view_of op.first) (view_of op.second) (inputs_of_type ops types k op l is)) s

  -- and its second, or else the lane of the first
  pub second_stands : (first : ℕ) → Stands ops room lanes op.from op.first first
      → Stands ops room lanes op.from (kept_second op.code op.second) (operand_lane (register_views ops) (length (register_views ops) + (2 * k + 1)) first (kept_second op.code op.second))
  second_stands first s = at (kept_second op.code op.second) refl
    where
      at : (o : Option Operand) → kept_second op.code op.second ≡ o → Stands ops room lanes op.from o (operand_lane (register_views ops) (length (register_views ops) + (2 * k + 1)) first o)
      at None h = first_typed first s
      at (Some (Number z)) h = second_holds ops room lanes e k op l is z h
      at (Some (Array v)) h = refl

-- ---- lanes as the code finds them

module _ (ops : List Op) (room : ℕ) (lanes : List Buffer) (vs : List Strided) (same : vs ≡ register_views ops) (e : map cell_of lanes ≡ lane_cells ops room vs) (types : each_typed ops ≡ true) (k : ℕ) (op : Op) (l : k < length ops)
    (is : op ≡ get_or ops k op) where
  cells_are : map cell_of lanes ≡ lane_cells ops room (register_views ops)
  cells_are = subst (λ ws. map cell_of lanes ≡ lane_cells ops room ws) same e

  pub first_lane : (lane : ℕ) → lane ≡ operand_lane vs (length vs + 2 * k) (length vs + 2 * k) op.first → (op.first ≡ None → ⊥) → Stands ops room lanes op.from op.first lane
  first_lane lane h some =
      let at : lane ≡ operand_lane (register_views ops) (length (register_views ops) + 2 * k) (length (register_views ops) + 2 * k) op.first = subst (λ ws. lane ≡ operand_lane ws (length ws + 2 * k) (length ws + 2 * k) op.first) same h in
      subst (Stands ops room lanes op.from op.first) (sym at) (first_stands ops room lanes cells_are types k op l is (length (register_views ops) + 2 * k) some)

  pub second_lane : (first lane : ℕ) → Stands ops room lanes op.from op.first first → lane ≡ operand_lane vs (length vs + 2 * k + 1) first (kept_second op.code op.second) → Stands ops room lanes op.from (kept_second op.code op.second) lane
  second_lane first lane s h =
      let at : lane ≡ operand_lane (register_views ops) (length (register_views ops) + (2 * k + 1)) first (kept_second op.code op.second) =
      subst (λ ws. lane ≡ operand_lane ws (length ws + 2 * k + 1) first (kept_second op.code op.second)) same h
      ∙ ap (λ n. operand_lane (register_views ops) n first (kept_second op.code op.second)) (let z : length (register_views ops) + 2 * k + 1 ≡ length (register_views ops) + (2 * k + 1) = omega arith in z) in
      subst (Stands ops room lanes op.from (kept_second op.code op.second)) (sym at) (second_stands ops room lanes cells_are types k op l is first s)

-- a SYNC has an operand
pub prints_first : (op : Op) → well_formed op ≡ true → kind op.code ≡ Printing → op.first ≡ None → ⊥
prints_first op well k none =
    sorts op well (λ o fill plain. true≢false (ap Rattle.arr_num.specs.Kinds.walks (sym k) ∙ fill.walks_not)) (λ v w. let h : None ≡ Some (Array v) = sym none ∙ w.first_is in cc)
    (λ w. let h : Printing ≡ Ending = sym k ∙ w.kind_is in cc) (λ o v w. let h : Printing ≡ Reduction = sym k ∙ w.kind_is in cc)
