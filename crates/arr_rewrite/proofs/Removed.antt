-- Rules that remove operations keep the memory.
use Rattle.std.proofs.Common.{◌≡◌, ℕ, suc, zero, ℤ, pos, List, [], ◌∷◌, ◌++◌, true, false, cond, not, ◌||◌, refl, ap, ap₂, sym, subst, ◌∙◌, Option, Some, None, map, get_or, set, replicate}
use Rattle.std.proofs.lemmas.Bool.{false≢true, eqb-true}
use Rattle.std.specs.Prelude.{◌==◌}
use Rattle.std.specs.List.{AllByRecursion, list_any}
use Rattle.std.specs.Option.{option_to_list}
use Rattle.arr_view.specs.Strided.{Strided}
use Rattle.arr_view.specs.Views.{elements, has}
use Rattle.arr_ops.specs.Ops.{inputs}
use Rattle.arr_num.specs.Kinds.{kind}
use Rattle.arr_num.specs.Numbers.{value}
use Rattle.arr_ops.specs.Memory.{Memory, Cell, Keeps, Drops, Writes, changed, change, output_change, slot_after, write, read, put, computed, step, eager, zip_with, lengths_of, operand}
use Rattle.arr_rewrite.specs.NextRewrite.{frees_base, unfreed}
use Rattle.arr_ops.proofs.Spots.{is_scalar}
use Rattle.arr_num.specs.declared.elem.Elem.{Elem}
use Rattle.arr_num.specs.declared.code.Code.TheVariants.{Identity}
use Rattle.arr_ops.specs.declared.op.Op.{Op}
use Rattle.arr_ops.specs.declared.op.Operand.TheVariants.{Array}
use Rattle.arr_num.proofs.Wrapping.{wrap_same}
use Rattle.arr_rewrite.proofs.Scalars.{value_identity}
use Rattle.arr_ops.proofs.Typed.{AllIn, CellFits, get_in}
use Rattle.arr_rewrite.proofs.Replace.{computed_scalar, walk_length}
use Rattle.arr_rewrite.proofs.Agree.{eager-append, computed_alike, Unnamed, change_keeps}
use Rattle.arr_ops.proofs.Pairs.{All_weaker}

-- ---- a copy of a view to itself

set_get : (ns : List ℤ) (p : ℕ) → set ns p (get_or ns p (pos 0)) ≡ ns
set_get [] p = refl
set_get (n ∷ ns) zero = refl
set_get (n ∷ ns) (suc p) = ap (λ xs. n ∷ xs) (set_get ns p)

write_back : (t : Elem) (es : List ℕ) (ns : List ℤ) (n : ℕ) → AllIn t ns → write es (zip_with (value Identity t) (map (λ p. get_or ns p (pos 0)) es) (replicate n (pos 0))) ns ≡ ns
write_back t [] ns n a = refl
write_back t (e ∷ es) ns zero a = refl
write_back t (e ∷ es) ns (suc n) a =
    let x : ℤ = get_or ns e (pos 0) in
    ap (λ k. write es (zip_with (value Identity t) (map (λ p. get_or ns p (pos 0)) es) (replicate n (pos 0))) k)
    (ap (set ns e) (value_identity t x (pos 0) ∙ wrap_same t x (get_in t ns e a)) ∙ set_get ns e)
    ∙ write_back t es ns n a

pub copy_to_itself : (m : Memory) (op : Op) (o v : Strided) → op.code ≡ Identity → op.out ≡ Some o → op.first ≡ Some (Array v) → op.second ≡ None → op.slot ≡ None → op.frees ≡ None → op.makes ≡ false
    → o.base ≡ v.base → elements o ≡ elements v → CellFits op.to (m.bases o.base) → step m op ≡ m
copy_to_itself m op o v code out first second slot frees makes base same fits =
    let n : ℕ = walk_length op in
    let xs : List ℤ = computed m op in
    let got : computed m op ≡ zip_with (value Identity op.to) (read (m.bases o.base) (elements o)) (replicate n (pos 0)) =
    computed_scalar m op (ap (λ c. is_scalar (kind c)) code)
    ∙ ap (λ c. zip_with (value c op.to) (operand m n op.first) (operand m n op.second)) code
    ∙ ap₂ (λ a b. zip_with (value Identity op.to) (operand m n a) (operand m n b)) first second
    ∙ ap₂ (λ b es. zip_with (value Identity op.to) (read (m.bases b) es) (replicate n (pos 0))) (sym base) (sym same) in
    let one : (b : ℕ) → changed (change op xs b) (m.bases b) ≡ m.bases b =
    λ b. ap (λ f. changed (cond (has (option_to_list f) b) Drops (output_change op.out op.makes op.to xs b)) (m.bases b)) frees
    ∙ ap₂ (λ u k. changed (output_change u k op.to xs b) (m.bases b)) out makes
    ∙ elim (o.base == b) as (λ k. (o.base == b) ≡ k → changed (cond k (Writes (elements o) xs) Keeps) (m.bases b) ≡ m.bases b) [
      | true ↦ λ e.
          ap (λ ys. changed (Writes (elements o) ys) (m.bases b)) got
          ∙ subst (λ c. changed (Writes (elements o) (zip_with (value Identity op.to) (read (m.bases o.base) (elements o)) (replicate n (pos 0)))) (m.bases c) ≡ m.bases c) (eqb-true o.base b e) (at_cell n (m.bases o.base) fits)
      | false ↦ λ e. refl
    ] refl in
    let slots : (s : ℕ) → (step m op).slots s ≡ m.slots s = λ s. ap (λ k. slot_after k (record { elem = op.from; lengths = lengths_of op.first; numbers = xs }) s (m.slots s)) slot in
    λ i. record { bases = λ b. one b i; slots = λ s. slots s i }
  where
    at_cell : (n : ℕ) (c : Option Cell) → CellFits op.to c → changed (Writes (elements o) (zip_with (value Identity op.to) (read c (elements o)) (replicate n (pos 0)))) c ≡ c
    at_cell n None h = refl
    at_cell n (Some c) h = λ i. Some (record { elem = c.elem; numbers = write_back op.to (elements o) c.numbers n h.1 i })

-- ---- a base that nobody uses

abbrev pub without : ℕ → Memory → Memory
without b m = record { bases = λ c. cond (c == b) None (m.bases c); slots = m.slots }

pub without_absent : (b : ℕ) (m : Memory) → m.bases b ≡ None → without b m ≡ m
without_absent b m h =
    let one : (c : ℕ) → cond (c == b) None (m.bases c) ≡ m.bases c =
    λ c. elim (c == b) as (λ k. (c == b) ≡ k → cond k None (m.bases c) ≡ m.bases c) [
      | true ↦ λ e. sym (ap m.bases (eqb-true c b e) ∙ h)
      | false ↦ λ e. refl
    ] refl in
    λ i. record { bases = λ c. one c i; slots = m.slots }

step_without : (b : ℕ) (f : Op) (m : Memory) → Unnamed b f → without b (step m f) ≡ step (without b m) f
step_without b f m u =
    let xs : List ℤ = computed m f in
    let alike : computed m f ≡ computed (without b m) f =
    computed_alike m (without b m) f (All_weaker (λ (v : Strided). (v.base == b) ≡ false) (λ (v : Strided). m.bases v.base ≡ cond (v.base == b) None (m.bases v.base))
    (λ v e. sym (ap (λ k. cond k None (m.bases v.base)) e)) (inputs f) u.inputs_not) in
    let one : (c : ℕ) → cond (c == b) None (changed (change f xs c) (m.bases c)) ≡ changed (change f xs c) (cond (c == b) None (m.bases c)) =
    λ c. elim (c == b) as (λ k. (c == b) ≡ k → cond k None (changed (change f xs c) (m.bases c)) ≡ changed (change f xs c) (cond k None (m.bases c))) [
      | true ↦ λ e. sym (ap (λ d. changed (change f xs d) None) (eqb-true c b e) ∙ ap (λ d. changed d None) (change_keeps f xs b u.outputs_not u.freed_not))
      | false ↦ λ e. refl
    ] refl in
    let same : without b (step m f) ≡ put (without b m) f xs = λ i. record { bases = λ c. one c i; slots = (step m f).slots } in
    same ∙ ap (put (without b m) f) alike

-- all that f does is done to the base
pub record OnlyTo (b : ℕ) (f : Op) : Type 0 where
  pub no_slot : f.slot ≡ None
  pub elsewhere : (xs : List ℤ) (c : ℕ) → (c == b) ≡ false → change f xs c ≡ Keeps

without_step : (b : ℕ) (f : Op) (m : Memory) → OnlyTo b f → without b (step m f) ≡ without b m
without_step b f m h =
    let xs : List ℤ = computed m f in
    let one : (c : ℕ) → cond (c == b) None (changed (change f xs c) (m.bases c)) ≡ cond (c == b) None (m.bases c) =
    λ c. elim (c == b) as (λ k. (c == b) ≡ k → cond k None (changed (change f xs c) (m.bases c)) ≡ cond k None (m.bases c)) [
      | true ↦ λ e. refl
      | false ↦ λ e. ap (λ d. changed d (m.bases c)) (h.elsewhere xs c e)
    ] refl in
    let slots : (s : ℕ) → (step m f).slots s ≡ m.slots s = λ s. ap (λ k. slot_after k (record { elem = f.from; lengths = lengths_of f.first; numbers = xs }) s (m.slots s)) h.no_slot in
    λ i. record { bases = λ c. one c i; slots = λ s. slots s i }

-- a FREE of the base, or an operation that does not name it
abbrev pub Passes : ℕ → Op → Type 0
Passes b f = (frees_base f b ≡ true → OnlyTo b f) × (frees_base f b ≡ false → Unnamed b f)

eager_without : (b : ℕ) (fs : List Op) (m : Memory) → AllByRecursion (Passes b) fs → without b (eager m fs) ≡ eager (without b m) (unfreed fs b)
eager_without b [] m a = refl
eager_without b (f ∷ fs) m a =
    elim (frees_base f b) as (λ k. frees_base f b ≡ k → without b (eager (step m f) fs) ≡ eager (without b m) (cond (not k) (f ∷ unfreed fs b) (unfreed fs b))) [
      | true ↦ λ e. eager_without b fs (step m f) a.1 ∙ ap (λ k. eager k (unfreed fs b)) (without_step b f m (a.0.0 e))
      | false ↦ λ e. eager_without b fs (step m f) a.1 ∙ ap (λ k. eager k (unfreed fs b)) (step_without b f m (a.0.1 e))
    ] refl

dropped : (f : Op) (xs : List ℤ) (b : ℕ) (c : Option Cell) → frees_base f b ≡ true → changed (change f xs b) c ≡ None
dropped f xs b c e = ap (λ k. changed (cond k Drops (output_change f.out f.makes f.to xs b)) c) e

none_stays : (b : ℕ) (fs : List Op) (m : Memory) → AllByRecursion (Passes b) fs → m.bases b ≡ None → (eager m fs).bases b ≡ None
none_stays b [] m a h = h
none_stays b (f ∷ fs) m a h =
    none_stays b fs (step m f) a.1
    (elim (frees_base f b) as (λ k. frees_base f b ≡ k → (step m f).bases b ≡ None) [
      | true ↦ λ e. dropped f (computed m f) b (m.bases b) e
      | false ↦ λ e. ap (λ d. changed d (m.bases b)) (change_keeps f (computed m f) b (a.0.1 e).outputs_not (a.0.1 e).freed_not) ∙ h
    ] refl)

freed_none : (b : ℕ) (fs : List Op) (m : Memory) → AllByRecursion (Passes b) fs → list_any (λ f. frees_base f b) fs ≡ true → (eager m fs).bases b ≡ None
freed_none b [] m a h = absurd (false≢true h)
freed_none b (f ∷ fs) m a h =
    elim (frees_base f b) as (λ k. frees_base f b ≡ k → (k || list_any (λ f. frees_base f b) fs) ≡ true → (eager (step m f) fs).bases b ≡ None) [
      | true ↦ λ e t. none_stays b fs (step m f) a.1 (dropped f (computed m f) b (m.bases b) e)
      | false ↦ λ e t. freed_none b fs (step m f) a.1 t
    ] refl h

pub unused_removed : (b : ℕ) (m : Memory) (front back : List Op) (op : Op) → (eager m front).bases b ≡ None → OnlyTo b op → AllByRecursion (Passes b) back
    → list_any (λ f. frees_base f b) back ≡ true → eager m (front ++ op ∷ back) ≡ eager m (front ++ unfreed back b)
unused_removed b m front back op absent only passes some =
    let n : Memory = eager m front in
    eager-append m front (op ∷ back)
    ∙ sym (without_absent b (eager (step n op) back) (freed_none b back (step n op) passes some))
    ∙ eager_without b back (step n op) passes
    ∙ ap (λ k. eager k (unfreed back b)) (without_step b op n only ∙ without_absent b n absent)
    ∙ sym (eager-append m front (unfreed back b))
