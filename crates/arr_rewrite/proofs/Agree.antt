-- Memories that agree where an operation looks.
use Rattle.std.proofs.Common.{◌≡◌, ℕ, ℤ, List, [], ◌∷◌, ◌++◌, Bool, false, cond, ◌||◌, refl, ap, ap₂, sym, ◌∙◌, Option, Some, None, map}
use Rattle.std.proofs.lemmas.Bool.{eqb-false, ne_eqb}
use Rattle.std.specs.Prelude.{◌==◌, nat_eq}
use Rattle.std.specs.List.{AllByRecursion}
use Rattle.std.specs.Option.{option_to_list}
use Rattle.arr_view.specs.Strided.{Strided}
use Rattle.arr_view.specs.Views.{elements, has, positions}
use Rattle.arr_ops.specs.Ops.{outputs, inputs, views, freed, named, view_of}
use Rattle.arr_ops.specs.Memory.{Memory, Keeps, Drops, Becomes, Writes, changed, change, output_change, read, computed, step, eager, results, first_numbers, operand, out_lengths, lengths_of, or_zero}
use Rattle.arr_num.specs.declared.code.Code.{Code}
use Rattle.arr_num.specs.declared.code.Code.TheVariants.{Range}
use Rattle.arr_ops.specs.declared.op.Op.{Op}
use Rattle.arr_ops.specs.declared.op.Operand.{Operand}
use Rattle.arr_ops.specs.declared.op.Operand.TheVariants.{Array, Number}
use Rattle.arr_ops.proofs.Writes.{or_left, or_right}
use Rattle.arr_ops.proofs.Commute.{append_left_of, append_right_of}

pub eager-append : (m : Memory) (fs gs : List Op) → eager m (fs ++ gs) ≡ eager (eager m fs) gs
eager-append m [] gs = refl
eager-append m (f ∷ fs) gs = eager-append (step m f) fs gs

operand_alike : (m k : Memory) (n : ℕ) (o : Option Operand) → AllByRecursion (λ (v : Strided). m.bases v.base ≡ k.bases v.base) (view_of o) → operand m n o ≡ operand k n o
operand_alike m k n None h = refl
operand_alike m k n (Some (Number z)) h = refl
operand_alike m k n (Some (Array v)) h = ap (λ c. read c (elements v)) h.0

first_alike : (code : Code) (m k : Memory) (n : ℕ) (o : Option Operand) → AllByRecursion (λ (v : Strided). m.bases v.base ≡ k.bases v.base) (view_of o) → first_numbers code m n o ≡ first_numbers code k n o
first_alike Range m k n o h = refl
first_alike _ m k n o h = operand_alike m k n o h

pub computed_alike : (m k : Memory) (g : Op) → AllByRecursion (λ (v : Strided). m.bases v.base ≡ k.bases v.base) (inputs g) → computed m g ≡ computed k g
computed_alike m k g h =
    let n : ℕ = positions (out_lengths g.out) in
    ap₂ (results g.code g.to (lengths_of g.first) (or_zero g.axis))
    (first_alike g.code m k n g.first (append_left_of (λ (v : Strided). m.bases v.base ≡ k.bases v.base) (view_of g.first) (view_of g.second) h))
    (operand_alike m k n g.second (append_right_of (λ (v : Strided). m.bases v.base ≡ k.bases v.base) (view_of g.first) (view_of g.second) h))

-- ---- what an operation does not name it keeps

has_left_not : (xs ys : List ℕ) (b : ℕ) → has (xs ++ ys) b ≡ false → has xs b ≡ false
has_left_not [] ys b h = refl
has_left_not (x ∷ xs) ys b h = ap₂ (λ p q. p || q) (or_left (nat_eq b x) (has (xs ++ ys) b) h) (has_left_not xs ys b (or_right (nat_eq b x) (has (xs ++ ys) b) h))

has_right_not : (xs ys : List ℕ) (b : ℕ) → has (xs ++ ys) b ≡ false → has ys b ≡ false
has_right_not [] ys b h = h
has_right_not (x ∷ xs) ys b h = has_right_not xs ys b (or_right (nat_eq b x) (has (xs ++ ys) b) h)

pub turned_not : (a b : ℕ) → nat_eq a b ≡ false → (b == a) ≡ false
turned_not a b h = ne_eqb b a (λ e. eqb-false a b h (sym e))

bases_not : (vs : List Strided) (b : ℕ) → has (map (λ (v : Strided). v.base) vs) b ≡ false → AllByRecursion (λ (v : Strided). (v.base == b) ≡ false) vs
bases_not [] b h = tt
bases_not (v ∷ vs) b h =
    (turned_not b v.base (or_left (nat_eq b v.base) (has (map (λ (w : Strided). w.base) vs) b) h), bases_not vs b (or_right (nat_eq b v.base) (has (map (λ (w : Strided). w.base) vs) b) h))

pub record Unnamed (b : ℕ) (f : Op) : Type 0 where
  pub outputs_not : AllByRecursion (λ (v : Strided). (v.base == b) ≡ false) (outputs f)
  pub inputs_not : AllByRecursion (λ (v : Strided). (v.base == b) ≡ false) (inputs f)
  pub freed_not : has (freed f) b ≡ false

pub unnamed_test : (b : ℕ) (f : Op) → has (named f) b ≡ false → Unnamed b f
unnamed_test b f h =
    let vs : AllByRecursion (λ (v : Strided). (v.base == b) ≡ false) (views f) = bases_not (views f) b (has_left_not (map (λ (v : Strided). v.base) (views f)) (freed f) b h) in
    record {
      outputs_not = append_left_of (λ (v : Strided). (v.base == b) ≡ false) (outputs f) (inputs f) vs;
      inputs_not = append_right_of (λ (v : Strided). (v.base == b) ≡ false) (outputs f) (inputs f) vs;
      freed_not = has_right_not (map (λ (v : Strided). v.base) (views f)) (freed f) b h;
    }

output_keeps : (out : Option Strided) (makes : Bool) (f : Op) (xs : List ℤ) (b : ℕ) → AllByRecursion (λ (v : Strided). (v.base == b) ≡ false) (option_to_list out) → output_change out makes f.to xs b ≡ Keeps
output_keeps None makes f xs b h = refl
output_keeps (Some o) makes f xs b h = ap (λ k. cond k (cond makes (Becomes (record { elem = f.to; numbers = xs })) (Writes (elements o) xs)) Keeps) h.0

-- no output in the base, and the base not freed
pub change_keeps : (f : Op) (xs : List ℤ) (b : ℕ) → AllByRecursion (λ (v : Strided). (v.base == b) ≡ false) (outputs f) → has (freed f) b ≡ false → change f xs b ≡ Keeps
change_keeps f xs b h k = ap (λ t. cond t Drops (output_change f.out f.makes f.to xs b)) k ∙ output_keeps f.out f.makes f xs b h

pub record Leaves (b : ℕ) (f : Op) : Type 0 where
  pub outputs_not : AllByRecursion (λ (v : Strided). (v.base == b) ≡ false) (outputs f)
  pub freed_not : has (freed f) b ≡ false

pub base_left : (b : ℕ) (fs : List Op) (m : Memory) → AllByRecursion (Leaves b) fs → (eager m fs).bases b ≡ m.bases b
base_left b [] m a = refl
base_left b (f ∷ fs) m a = base_left b fs (step m f) a.1 ∙ ap (λ c. changed c (m.bases b)) (change_keeps f (computed m f) b a.0.outputs_not a.0.freed_not)
