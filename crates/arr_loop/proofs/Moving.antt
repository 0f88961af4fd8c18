-- A serial operation that copies a view some places on.
use Rattle.std.proofs.Common.{◌≡◌, ℕ, zero, suc, ◌+◌, ℤ, pos, List, [], ◌∷◌, ◌++◌, Bool, true, false, cond, not, ◌||◌, ◌&&◌, Option, Some, None, length, get_or, replicate, refl, ap, ap₂, sym, subst, ◌∙◌, arith}
use Rattle.std.specs.Prelude.{is_some}
use Rattle.std.specs.List.{AllByRecursion, list_any}
use Rattle.std.specs.Option.{option_to_list}
use Rattle.std.proofs.lemmas.Bool.{false≢true}
use Rattle.std.proofs.lemmas.List.{length-map}
use Rattle.arr_num.specs.declared.elem.Elem.{Elem}
use Rattle.arr_num.specs.declared.code.Code.{Code}
use Rattle.arr_num.specs.declared.code.Code.TheVariants.{Identity}
use Rattle.arr_num.specs.Kinds.{is_element_wise, kind}
use Rattle.arr_num.specs.Numbers.{in_type, value, width}
use Rattle.arr_num.proofs.Wrapping.{wrap_same}
use Rattle.arr_view.specs.Strided.{Strided}
use Rattle.arr_view.specs.Views.{elements, is_view, positions}
use Rattle.arr_ops.specs.declared.op.Op.{Op}
use Rattle.arr_ops.specs.declared.op.Operand.{Operand}
use Rattle.arr_ops.specs.declared.op.Operand.TheVariants.{Array, Number}
use Rattle.arr_ops.specs.Fits.{meets_need, op_fits}
use Rattle.arr_ops.specs.Formed.{elementwise, is_array, operands_kept, same_elem, well_formed}
use Rattle.arr_ops.specs.Memory.{Memory, Cell, computed, first_numbers, lengths_of, operand, or_zero, out_lengths, read, results, without_slots, zip_with}
use Rattle.arr_ops.specs.Ops.{array_of, freed_by, inputs, outputs, serial, view_of}
use Rattle.arr_ops.specs.Costs.{total}
use Rattle.arr_ops.proofs.Parts.{length-elements}
use Rattle.arr_ops.proofs.Spots.{all_right, none_from, operands_of, same_elem_is, views_of}
use Rattle.arr_ops.proofs.Tests.{both_left, both_right}
use Rattle.arr_ops.proofs.Typed.{AllIn, CellFits, read_in}
use Rattle.arr_picks.specs.Picks.{AllBelow}
use Rattle.arr_store.specs.Cells.{size_at, width_at}
use Rattle.arr_store.specs.Runs.{IsOf}
use Rattle.arr_shift.specs.Shifts.{is_shift}
use Rattle.arr_shift.proofs.Shifting.{Shift, shift_of}
use Rattle.arr_contract.specs.Prepared.{copies, is_moved, shifts, slides, writer}
use Rattle.arr_loop.specs.Numbers.{loads_each, same_inputs, same_views}
use Rattle.arr_loop.proofs.Elements.{element_loads, width_met}
use Rattle.arr_loop.proofs.Needs.{input_need, inputs_met, met_typed, output_need, outputs_met}
use Rattle.arr_loop.proofs.There.{need_there}

-- ---- which operation it is

or_nothing : (b : Bool) → (b || false) ≡ true → b ≡ true
or_nothing true h = refl
or_nothing false h = absurd (false≢true h)

not_so : (b : Bool) → not b ≡ true → b ≡ false
not_so true h = absurd (false≢true h)
not_so false h = refl

copies_is : (code : Code) → copies code ≡ true → code ≡ Identity
copies_is Identity h = refl
copies_is _ h = absurd (false≢true h)

pub shifts_one : (ops : List Op) (op : Op) → writer ops ≡ Some op → slides ops ≡ true → shifts ops op ≡ true
shifts_one ops op first h =
    or_nothing (shifts ops op) (sym (ap (λ x. list_any (shifts ops) (option_to_list x)) first) ∙ both_right (list_any serial ops) _ h)

pub moved_array : (ops : List Op) (out : Option Strided) (first : Option Operand) → is_moved ops out (array_of first) ≡ true → is_array first ≡ true
moved_array ops None first h = absurd (false≢true h)
moved_array ops (Some o) None h = absurd (false≢true h)
moved_array ops (Some o) (Some (Number z)) h = absurd (false≢true h)
moved_array ops (Some o) (Some (Array v)) h = refl

pub record Moving (ops : List Op) (op : Op) (o v : Strided) : Type 0 where
  pub code : op.code ≡ Identity
  pub types : op.to ≡ op.from
  pub shift : is_shift o v ≡ true
  pub kept : freed_by ops o.base ≡ false

pub moving : (ops : List Op) (op : Op) (o v : Strided) → op.out ≡ Some o → op.first ≡ Some (Array v) → shifts ops op ≡ true → Moving ops op o v
moving ops op o v out first h =
    let rest = both_right (copies op.code) _ h in
    let moved : (is_shift o v && not (freed_by ops o.base)) ≡ true =
    sym (ap₂ (λ x y. is_moved ops x (array_of y)) out first) ∙ both_right (same_elem op.to op.from) _ rest in
    record {
      code = copies_is op.code (both_left (copies op.code) _ h);
      types = same_elem_is op.to op.from (both_left (same_elem op.to op.from) _ rest);
      shift = both_left (is_shift o v) _ moved;
      kept = not_so (freed_by ops o.base) (both_right (is_shift o v) _ moved);
    }

-- ---- what it computes

same_value : (t : Elem) (x : ℤ) → in_type t x ≡ true → value Identity t x (pos 0) ≡ x
unfolding value
same_value t x h = wrap_same t x h

zip_copies : (t : Elem) (xs : List ℤ) (n : ℕ) → AllIn t xs → length xs ≡ n → zip_with (value Identity t) xs (replicate n (pos 0)) ≡ xs
zip_copies t [] n a e = refl
zip_copies t (x ∷ xs) zero a e = absurd (omega arith)
zip_copies t (x ∷ xs) (suc n) a e =
    let p : value Identity t x (pos 0) ≡ x = same_value t x a.0 in
    let q = zip_copies t xs n a.1 (omega arith) in
    λ i. p i ∷ q i

length-read : (c : Option Cell) (ps : List ℕ) → length (read c ps) ≡ length ps
length-read None ps = length-map ps (λ p. pos 0)
length-read (Some c) ps = length-map ps (λ p. get_or c.numbers p (pos 0))

copied : (m : Memory) (op : Op) (v : Strided) (n : ℕ) → positions (out_lengths op.out) ≡ n → op.code ≡ Identity → op.first ≡ Some (Array v) → op.second ≡ None
    → computed m op ≡ zip_with (value Identity op.to) (read (m.bases v.base) (elements v)) (replicate n (pos 0))
unfolding results
copied m op v n long code first second =
    ap₂ (λ c k. results c op.to (lengths_of op.first) (or_zero op.axis) (first_numbers c m k op.first) (operand m k op.second)) code long
    ∙ ap₂ (λ a b. zip_with (value Identity op.to) (operand m n a) (operand m n b)) first second

module _ (m : Memory) (ops : List Op) (op : Op) (o v : Strided) (well : well_formed op ≡ true) (out : op.out ≡ Some o) (first : op.first ≡ Some (Array v)) (makes : op.makes ≡ false)
    (fit : op_fits (without_slots m) (op ∷ []) op ≡ true) (s : Moving ops op o v) where
  moved : Shift o v
  moved = shift_of o v s.shift

  second : op.second ≡ None
  second = none_from op.second (both_right (is_some op.first) _ (both_right (elementwise op) _ (ap (λ c. operands_kept (kind c) op) (sym s.code) ∙ operands_of op well)))

  ins : inputs op ≡ v ∷ []
  ins = ap₂ (λ a b. view_of a ++ view_of b) first second

  law : is_view v ≡ true
  law = (subst (AllByRecursion (λ u. is_view u ≡ true)) ins (all_right (λ u. is_view u ≡ true) (outputs op) (inputs op) (views_of op well))).0

  out_met : meets_need (m.bases o.base) (output_need op o) ≡ true
  out_met = (subst (λ x. AllByRecursion (λ (u : Strided). op.makes ≡ false → meets_need (m.bases u.base) (output_need op u) ≡ true) (option_to_list x)) out (outputs_met m op well fit)).0 makes

  in_met : meets_need (m.bases v.base) (input_need op v) ≡ true
  in_met = (subst (AllByRecursion (λ (u : Strided). meets_need (m.bases u.base) (input_need op u) ≡ true)) ins (inputs_met m op well fit)).0

  pub out_typed : IsOf op.to (m.bases o.base)
  out_typed = (need_there (m.bases o.base) (output_need op o) out_met).0

  pub out_below : AllBelow (size_at (m.bases o.base)) (elements o)
  out_below = (need_there (m.bases o.base) (output_need op o) out_met).1

  pub in_below : AllBelow (size_at (m.bases o.base)) (elements v)
  in_below = subst (λ b. AllBelow (size_at (m.bases b)) (elements v)) (sym moved.base) (need_there (m.bases v.base) (input_need op v) in_met).1

  pub copies_all : computed m op ≡ read (m.bases o.base) (elements v)
  copies_all =
      let n : ℕ = positions o.lengths in
      let long : positions (out_lengths op.out) ≡ n = ap (λ x. positions (out_lengths x)) out in
      let fits : CellFits op.to (m.bases v.base) = subst (λ t. CellFits t (m.bases v.base)) (sym s.types) (met_typed (m.bases v.base) (input_need op v) in_met) in
      let many : length (read (m.bases v.base) (elements v)) ≡ n = length-read (m.bases v.base) (elements v) ∙ length-elements v law ∙ ap positions (sym moved.lengths) in
      copied m op v n long s.code first second
      ∙ zip_copies op.to (read (m.bases v.base) (elements v)) n (read_in op.to (m.bases v.base) (elements v) fits) many
      ∙ ap (λ b. read (m.bases b) (elements v)) (sym moved.base)

  pub wide : width_at (m.bases o.base) ≡ width op.to
  wide = width_met (m.bases o.base) (output_need op o) out_met

  pub loads_one : width_at (m.bases o.base) ≡ loads_each op
  loads_one =
      let W : Strided → ℕ = λ (u : Strided). width_at (m.bases u.base) in
      let code : is_element_wise op.code ≡ true = ap is_element_wise s.code in
      let all = element_loads m op o well code out fit in
      let none : same_inputs op ≡ false = ap₂ (λ a b. same_views (array_of a) (array_of b)) first second in
      let a : total W (view_of op.first) ≡ W v + 0 = ap (λ x. total W (view_of x)) first in
      let b : cond (same_inputs op) 0 (total W (view_of op.second)) ≡ 0 = ap₂ (λ z x. cond z 0 (total W (view_of x))) none second in
      let base : W v ≡ width_at (m.bases o.base) = ap (λ k. width_at (m.bases k)) (sym moved.base) in
      let sum : W v + 0 + 0 ≡ W v = omega arith in
      sym base ∙ sym sum ∙ sym (ap₂ (λ x y. x + y) a b) ∙ all
