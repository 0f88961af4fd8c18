-- Columns of views are columns of registers.
use Rattle.std.proofs.Common.{◌≡◌, ℕ, suc, List, [], ◌∷◌, ◌++◌, Bool, true, false, cond, ◌||◌, refl, ap, ap₂, sym, ◌∙◌, arith, Option, Some, None}
use Rattle.std.proofs.lemmas.Bool.{false≢true, eq-eqb, eqb-true, eqb-false, ne_eqb}
use Rattle.std.specs.Prelude.{◌==◌}
use Rattle.std.specs.List.{AllByRecursion}
use Rattle.std.specs.Option.{option_to_list}
use Rattle.arr_view.specs.Strided.{Strided}
use Rattle.arr_view.specs.Views.{identical}
use Rattle.arr_num.specs.Kinds.{kind}
use Rattle.arr_num.specs.Numbers.{value}
use Rattle.arr_num.specs.declared.code.Code.{Code}
use Rattle.arr_num.specs.declared.code.Code.TheVariants.{Range}
use Rattle.arr_ops.specs.declared.op.Op.{Op}
use Rattle.arr_ops.specs.declared.op.Operand.{Operand}
use Rattle.arr_ops.specs.declared.op.Operand.TheVariants.{Array, Number}
use Rattle.arr_strips.specs.Columns.{Row, Columns, taken, first_taken, column, assigned, next, ends, fills, filled}
use Rattle.arr_strips.specs.Strips.{loaded}
use Rattle.arr_strips.specs.Registers.{number_in, Registers, assign, Line, source_value, line_value, ran, source_of, first_source, line_at, lines_of, row_of}
use Rattle.arr_strips.proofs.Values.{zips, column_zip}
use Rattle.arr_strips.proofs.Sames.{identical_on, identical_back}

-- a view in the list has the number of another exactly where they are identical
pub one_number : (vs : List Strided) (o v : Strided) → loaded vs o ≡ true → (number_in vs o == number_in vs v) ≡ identical o v
one_number [] o v h = absurd (false≢true h)
one_number (w ∷ ws) o v h =
    elim (identical w o) as (λ t. identical w o ≡ t → (t || loaded ws o) ≡ true → (cond t 0 (suc (number_in ws o)) == cond (identical w v) 0 (suc (number_in ws v))) ≡ identical o v) [
      | true ↦ λ e k.
          elim (identical w v) as (λ t. identical w v ≡ t → (0 == cond t 0 (suc (number_in ws v))) ≡ identical o v) [
            | true ↦ λ d. sym (identical_on o w v (identical_back w o e) d)
            | false ↦ λ d. ne_eqb 0 (suc (number_in ws v)) (λ z. absurd (omega arith)) ∙ unlike (identical o v) (λ q. false≢true (sym d ∙ identical_on w o v e q))
          ] refl
      | false ↦ λ e k.
          elim (identical w v) as (λ t. identical w v ≡ t → (suc (number_in ws o) == cond t 0 (suc (number_in ws v))) ≡ identical o v) [
            | true ↦ λ d. ne_eqb (suc (number_in ws o)) 0 (λ z. absurd (omega arith)) ∙ unlike (identical o v) (λ q. false≢true (sym e ∙ identical_on w v o d (identical_back o v q)))
            | false ↦ λ d. suc_same (number_in ws o) (number_in ws v) ∙ one_number ws o v k
          ] refl
    ] refl h
  where
    unlike : (b : Bool) → (b ≡ true → ⊥) → false ≡ b
    unlike true h = absurd (h refl)
    unlike false h = refl

    suc_same : (a b : ℕ) → (suc a == suc b) ≡ (a == b)
    suc_same a b =
        elim (a == b) as (λ t. (a == b) ≡ t → (suc a == suc b) ≡ t) [
          | true ↦ λ e. eq-eqb (suc a) (suc b) (ap suc (eqb-true a b e))
          | false ↦ λ e. ne_eqb (suc a) (suc b) (λ d. eqb-false a b e (let k : a ≡ b = omega arith in k))
        ] refl

module _ (vs : List Strided) where
  source_taken : (regs : Registers) (p : ℕ) (o : Option Operand) → source_value regs p (source_of vs o) ≡ taken (row_of vs regs) o
  source_taken regs p None = refl
  source_taken regs p (Some (Number z)) = refl
  source_taken regs p (Some (Array v)) = refl

  first_source_taken : (regs : Registers) (p : ℕ) (code : Code) (o : Option Operand) → source_value regs p (first_source vs code o) ≡ first_taken code p (row_of vs regs) o
  first_source_taken regs p Range o = refl
  first_source_taken regs p _ o = source_taken regs p o

  line_row : (op : Op) (out : Option Strided) (h : Columns) (regs : Registers) (p : ℕ) → h p ≡ row_of vs regs → AllByRecursion (λ o. loaded vs o ≡ true) (option_to_list out)
      → AllByRecursion (λ (o : Strided). zips (kind op.code) ≡ true) (option_to_list out)
      → assigned out (column op h p) (h p) ≡ row_of vs (ran p (line_at vs op out) regs)
  line_row op None h regs p e on z = λ i v. e i v
  line_row op (Some o) h regs p e on z =
      let x : column op h p ≡ value op.code op.to (source_value regs p (first_source vs op.code op.first)) (source_value regs p (source_of vs op.second)) =
      column_zip (kind op.code) op h p z.0 ∙ ap (λ r. value op.code op.to (first_taken op.code p r op.first) (taken r op.second)) e
      ∙ sym (ap₂ (value op.code op.to) (first_source_taken regs p op.code op.first) (source_taken regs p op.second)) in
      λ i v. (ap₂ (λ y (r : Row). cond (identical o v) y (r v)) x e ∙ ap (λ t. cond t (value op.code op.to (source_value regs p (first_source vs op.code op.first)) (source_value regs p (source_of vs op.second))) (regs (number_in vs v))) (sym (one_number vs o v on.0))) i

  -- the columns of a block without scans, at a position, are what its lines leave in the registers there
  pub ends_ran : (ops : List Op) (h : Columns) (regs : Registers) (p : ℕ) → h p ≡ row_of vs regs → AllByRecursion (λ (op : Op). AllByRecursion (λ o. loaded vs o ≡ true) (filled op)) ops
      → AllByRecursion (λ (op : Op). AllByRecursion (λ (o : Strided). zips (kind op.code) ≡ true) (filled op)) ops → ends ops h p ≡ row_of vs (ran p (lines_of vs ops) regs)
  ends_ran [] h regs p e on z = e
  ends_ran (op ∷ ops) h regs p e on z =
      ends_ran ops (next op h) (ran p (line_at vs op (fills op)) regs) p (line_row op (fills op) h regs p e on.0 z.0) on.1 z.1
      ∙ ap (row_of vs) (sym (ran-append (line_at vs op (fills op)) (lines_of vs ops) regs))
    where
      ran-append : (ks ls : List Line) (regs : Registers) → ran p (ks ++ ls) regs ≡ ran p ls (ran p ks regs)
      ran-append [] ls regs = refl
      ran-append (k ∷ ks) ls regs = ran-append ks ls (assign regs k.dest (line_value p regs k))
