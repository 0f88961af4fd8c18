-- Two operations of which neither disturbs the other commute, whatever the memory.
use Rattle.std.proofs.Common.{◌≡◌, ◌≢◌, ℕ, ℤ, List, [], ◌∷◌, ◌++◌, Bool, true, false, cond, ◌&&◌, refl, ap, ap₂, sym, ◌∙◌, subst, Option, Some, None}
use Rattle.std.proofs.lemmas.Bool.{eqb-true, eq-eqb, false≢true}
use Rattle.std.specs.Prelude.{◌==◌}
use Rattle.std.specs.List.{AllByRecursion}
use Rattle.std.specs.Option.{option_to_list}
use Rattle.arr_view.specs.Strided.{Strided}
use Rattle.arr_view.specs.Views.{elements, has, share, overlap, positions}
use Rattle.arr_ops.specs.Ops.{freed, views, view_of, inputs}
use Rattle.arr_ops.specs.Memory.{Memory, Cell, Slot, Change, Keeps, Drops, Becomes, Writes, changed, change, output_change, slot_after, read, put, operand, first_numbers, computed, results, step, out_lengths, lengths_of, or_zero}
use Rattle.arr_num.specs.declared.elem.Elem.{Elem}
use Rattle.arr_num.specs.declared.code.Code.{Code}
use Rattle.arr_num.specs.declared.code.Code.TheVariants.{Range}
use Rattle.arr_ops.specs.declared.op.Op.{Op}
use Rattle.arr_ops.specs.declared.op.Operand.{Operand}
use Rattle.arr_ops.specs.declared.op.Operand.TheVariants.{Array, Number}
use Rattle.arr_ops.proofs.Writes.{write-write, read-write}

-- ---- one base

abbrev pub Independent : Change → Change → Type 0
Independent Keeps d = Unit {0}
Independent c Keeps = Unit {0}
Independent Drops Drops = Unit {0}
Independent (Writes ps xs) (Writes qs ys) = share ps qs ≡ false
Independent c d = ⊥

pub changed_comm : (c d : Change) (cell : Option Cell) → Independent c d → changed c (changed d cell) ≡ changed d (changed c cell)
changed_comm Keeps d cell h = refl
changed_comm Drops Keeps cell h = refl
changed_comm Drops Drops cell h = refl
changed_comm (Becomes x) Keeps cell h = refl
changed_comm (Writes ps xs) Keeps cell h = refl
changed_comm (Writes ps xs) (Writes qs ys) None h = refl
changed_comm (Writes ps xs) (Writes qs ys) (Some c) h = ap (λ ns. Some (record { elem = c.elem; numbers = ns })) (write-write ps qs xs ys c.numbers h)
changed_comm c d cell h = absurd h

-- ---- one view beside another operation

-- a view and the output of an operation
abbrev pub Misses : Option Strided → Bool → Strided → Type 0
Misses None makes w = Unit {0}
Misses (Some v) makes w = (overlap v w ≡ false) × (makes ≡ true → (v.base == w.base) ≡ false)

-- f leaves what the view w shows
pub record Spared (f : Op) (w : Strided) : Type 0 where
  pub kept : has (freed f) w.base ≡ false
  pub missed : Misses f.out f.makes w

and_right : (a b : Bool) → a ≡ true → (a && b) ≡ false → b ≡ false
and_right true b e h = h
and_right false b e h = absurd (false≢true e)

read_output : (out : Option Strided) (makes : Bool) (t : Elem) (xs : List ℤ) (w : Strided) (cell : Option Cell) → Misses out makes w
    → read (changed (output_change out makes t xs w.base) cell) (elements w) ≡ read cell (elements w)
read_output None makes t xs w cell h = refl
read_output (Some v) makes t xs w cell h =
    elim (v.base == w.base) as (λ b. (v.base == w.base) ≡ b →
    read (changed (cond b (cond makes (Becomes (record { elem = t; numbers = xs })) (Writes (elements v) xs)) Keeps) cell) (elements w) ≡ read cell (elements w)) [
      | true ↦ λ e.
          elim makes as (λ k. (k ≡ true → (v.base == w.base) ≡ false) →
          read (changed (cond k (Becomes (record { elem = t; numbers = xs })) (Writes (elements v) xs)) cell) (elements w) ≡ read cell (elements w)) [
            | true ↦ λ no. absurd (false≢true (sym (no refl) ∙ e))
            | false ↦ λ no. written cell (and_right (v.base == w.base) (share (elements v) (elements w)) e h.0)
          ] h.1
      | false ↦ λ e. refl
    ] refl
  where
    written : (c : Option Cell) → share (elements v) (elements w) ≡ false → read (changed (Writes (elements v) xs) c) (elements w) ≡ read c (elements w)
    written None s = refl
    written (Some c) s = read-write (elements v) (elements w) xs c.numbers s

pub read_spared : (f : Op) (xs : List ℤ) (w : Strided) (cell : Option Cell) → Spared f w
    → read (changed (change f xs w.base) cell) (elements w) ≡ read cell (elements w)
read_spared f xs w cell s =
    ap (λ b. read (changed (cond b Drops (output_change f.out f.makes f.to xs w.base)) cell) (elements w)) s.kept
    ∙ read_output f.out f.makes f.to xs w cell s.missed

operand_spared : (f : Op) (xs : List ℤ) (m : Memory) (n : ℕ) (o : Option Operand) → AllByRecursion (Spared f) (view_of o) → operand (put m f xs) n o ≡ operand m n o
operand_spared f xs m n None h = refl
operand_spared f xs m n (Some (Number z)) h = refl
operand_spared f xs m n (Some (Array v)) h = read_spared f xs v (m.bases v.base) h.0

-- ---- two operations at one base

keeps_right : (c : Change) → Independent c Keeps
keeps_right Keeps = tt
keeps_right Drops = tt
keeps_right (Becomes x) = tt
keeps_right (Writes ps xs) = tt

same_base : (a b c : ℕ) → (a == c) ≡ true → (b == c) ≡ true → (a == b) ≡ true
same_base a b c e f = eq-eqb a b (eqb-true a c e ∙ sym (eqb-true b c f))

-- both write to one base: neither makes it, and they share no element
both_write : (x y : Bool) (c d : Cell) (ps qs : List ℕ) (xs ys : List ℤ) → x ≢ true → y ≢ true → share ps qs ≡ false
    → Independent (cond x (Becomes c) (Writes ps xs)) (cond y (Becomes d) (Writes qs ys))
both_write true y c d ps qs xs ys h k s = absurd (h refl)
both_write false true c d ps qs xs ys h k s = absurd (k refl)
both_write false false c d ps qs xs ys h k s = s

outputs_independent : (f g : Op) (xs ys : List ℤ) (b : ℕ) (fo go : Option Strided)
    → ((w : Strided) → go ≡ Some w → Misses fo f.makes w) → ((v : Strided) → fo ≡ Some v → Misses go g.makes v)
    → Independent (output_change fo f.makes f.to xs b) (output_change go g.makes g.to ys b)
outputs_independent f g xs ys b None go h k = tt
outputs_independent f g xs ys b (Some v) None h k = keeps_right (output_change (Some v) f.makes f.to xs b)
outputs_independent f g xs ys b (Some v) (Some w) h k =
    elim (v.base == b) as (λ x. (v.base == b) ≡ x → Independent (cond x (output f v xs) Keeps) (cond (w.base == b) (output g w ys) Keeps)) [
      | false ↦ λ e. tt
      | true ↦ λ e.
          elim (w.base == b) as (λ y. (w.base == b) ≡ y → Independent (output f v xs) (cond y (output g w ys) Keeps)) [
            | false ↦ λ d. keeps_right (output f v xs)
            | true ↦ λ d.
                both_write f.makes g.makes (record { elem = f.to; numbers = xs }) (record { elem = g.to; numbers = ys }) (elements v) (elements w) xs ys
                (λ m. false≢true (sym ((h w refl).1 m) ∙ same_base v.base w.base b e d))
                (λ m. false≢true (sym ((k v refl).1 m) ∙ same_base w.base v.base b d e))
                (and_right (v.base == w.base) (share (elements v) (elements w)) (same_base v.base w.base b e d) (h w refl).0)
          ] refl
    ] refl
  where
    output : Op → Strided → List ℤ → Change
    output o u zs = cond o.makes (Becomes (record { elem = o.to; numbers = zs })) (Writes (elements u) zs)

-- neither disturbs the other
pub record Separate (f g : Op) : Type 0 where
  pub left : AllByRecursion (Spared f) (views g)
  pub right : AllByRecursion (Spared g) (views f)
  pub slots : (i j : ℕ) → f.slot ≡ Some i → g.slot ≡ Some j → i ≢ j

pub turned : (f g : Op) → Separate f g → Separate g f
turned f g s = record { left = s.right; right = s.left; slots = λ i j p q e. s.slots j i q p (sym e) }

output_spared : (f g : Op) (go : Option Strided) (more : List Strided) → AllByRecursion (Spared f) (option_to_list go ++ more) → (w : Strided) → go ≡ Some w → Spared f w
output_spared f g None more h w e = absurd (cc)
output_spared f g (Some v) more h w e = subst (Spared f) (some_same v w e) h.0
  where
    some_same : (a c : Strided) → Some a ≡ Some c → a ≡ c
    some_same a c e = cc

inputs_spared : (f : Op) (go : Option Strided) (more : List Strided) → AllByRecursion (Spared f) (option_to_list go ++ more) → AllByRecursion (Spared f) more
inputs_spared f None more h = h
inputs_spared f (Some v) more h = h.1

pub append_left_of : (P : Strided → Type 0) (xs ys : List Strided) → AllByRecursion P (xs ++ ys) → AllByRecursion P xs
append_left_of P [] ys h = tt
append_left_of P (x ∷ xs) ys h = (h.0, append_left_of P xs ys h.1)

pub append_right_of : (P : Strided → Type 0) (xs ys : List Strided) → AllByRecursion P (xs ++ ys) → AllByRecursion P ys
append_right_of P [] ys h = h
append_right_of P (x ∷ xs) ys h = append_right_of P xs ys h.1

append_left : (f : Op) (xs ys : List Strided) → AllByRecursion (Spared f) (xs ++ ys) → AllByRecursion (Spared f) xs
append_left f xs ys h = append_left_of (Spared f) xs ys h

append_right : (f : Op) (xs ys : List Strided) → AllByRecursion (Spared f) (xs ++ ys) → AllByRecursion (Spared f) ys
append_right f xs ys h = append_right_of (Spared f) xs ys h

-- what f frees is no base that g writes
freed_beside : (f g : Op) (ys : List ℤ) (b : ℕ) (go : Option Strided) → ((w : Strided) → go ≡ Some w → Spared f w) → has (freed f) b ≡ true
    → output_change go g.makes g.to ys b ≡ Keeps
freed_beside f g ys b None h e = refl
freed_beside f g ys b (Some w) h e =
    elim (w.base == b) as (λ x. (w.base == b) ≡ x → cond x (cond g.makes (Becomes (record { elem = g.to; numbers = ys })) (Writes (elements w) ys)) Keeps ≡ Keeps) [
      | true ↦ λ d. absurd (false≢true (sym (h w refl).kept ∙ ap (has (freed f)) (eqb-true w.base b d) ∙ e))
      | false ↦ λ d. refl
    ] refl

all_outputs : (f g : Op) → AllByRecursion (Spared f) (views g) → (w : Strided) → g.out ≡ Some w → Spared f w
all_outputs f g h = output_spared f g g.out (inputs g) h

changes_independent : (f g : Op) (xs ys : List ℤ) (b : ℕ) → Separate f g → Independent (change f xs b) (change g ys b)
changes_independent f g xs ys b s =
    elim (has (freed f) b) as (λ x. has (freed f) b ≡ x → Independent (cond x Drops (output_change f.out f.makes f.to xs b)) (change g ys b)) [
      | true ↦ λ e. subst (Independent Drops) (sym (ap (λ c. cond (has (freed g) b) Drops c) (freed_beside f g ys b g.out (all_outputs f g s.left) e))) (drops (has (freed g) b))
      | false ↦ λ e.
          elim (has (freed g) b) as (λ y. has (freed g) b ≡ y
          → Independent (output_change f.out f.makes f.to xs b) (cond y Drops (output_change g.out g.makes g.to ys b))) [
            | true ↦ λ d. subst (λ c. Independent c Drops) (sym (freed_beside g f xs b f.out (all_outputs g f s.right) d)) tt
            | false ↦ λ d. outputs_independent f g xs ys b f.out g.out
                (λ w p. (all_outputs f g s.left w p).missed) (λ v p. (all_outputs g f s.right v p).missed)
          ] refl
    ] refl
  where
    drops : (y : Bool) → Independent Drops (cond y Drops Keeps)
    drops true = tt
    drops false = tt

-- ---- two steps

first_spared : (code : Code) (f : Op) (xs : List ℤ) (m : Memory) (n : ℕ) (o : Option Operand) → AllByRecursion (Spared f) (view_of o) → first_numbers code (put m f xs) n o ≡ first_numbers code m n o
first_spared Range f xs m n o h = refl
first_spared _ f xs m n o h = operand_spared f xs m n o h

pub computed_spared : (f g : Op) (xs : List ℤ) (m : Memory) → AllByRecursion (Spared f) (inputs g) → computed (put m f xs) g ≡ computed m g
computed_spared f g xs m h =
    let n : ℕ = positions (out_lengths g.out) in
    ap₂ (results g.code g.to (lengths_of g.first) (or_zero g.axis))
    (first_spared g.code f xs m n g.first (append_left f (view_of g.first) (view_of g.second) h))
    (operand_spared f xs m n g.second (append_right f (view_of g.first) (view_of g.second) h))

slots_comm : (i j : Option ℕ) (a b : Slot) (s : ℕ) (c : Option Slot) → ((x y : ℕ) → i ≡ Some x → j ≡ Some y → x ≢ y)
    → slot_after j b s (slot_after i a s c) ≡ slot_after i a s (slot_after j b s c)
slots_comm None j a b s c h = refl
slots_comm (Some x) None a b s c h = refl
slots_comm (Some x) (Some y) a b s c h =
    elim (x == s) as (λ p. (x == s) ≡ p → cond (y == s) (Some b) (cond p (Some a) c) ≡ cond p (Some a) (cond (y == s) (Some b) c)) [
      | false ↦ λ e. refl
      | true ↦ λ e.
          elim (y == s) as (λ q. (y == s) ≡ q → cond q (Some b) (Some a) ≡ Some a) [
            | false ↦ λ d. refl
            | true ↦ λ d. absurd (h x y refl refl (eqb-true x s e ∙ sym (eqb-true y s d)))
          ] refl
    ] refl

put_comm : (f g : Op) (xs ys : List ℤ) (m : Memory) → Separate f g → put (put m f xs) g ys ≡ put (put m g ys) f xs
put_comm f g xs ys m s =
    let bases : (b : ℕ) → changed (change g ys b) (changed (change f xs b) (m.bases b)) ≡ changed (change f xs b) (changed (change g ys b) (m.bases b)) =
    λ b. sym (changed_comm (change f xs b) (change g ys b) (m.bases b) (changes_independent f g xs ys b s)) in
    let slots : (k : ℕ) → (put (put m f xs) g ys).slots k ≡ (put (put m g ys) f xs).slots k =
    λ k. slots_comm f.slot g.slot _ _ k (m.slots k) s.slots in
    λ i. record { bases = λ b. bases b i; slots = λ k. slots k i }

pub step_comm : (f g : Op) (m : Memory) → Separate f g → step (step m f) g ≡ step (step m g) f
step_comm f g m s =
    ap (put (step m f) g) (computed_spared f g (computed m f) m (inputs_spared f g.out (inputs g) s.left))
    ∙ put_comm f g (computed m f) (computed m g) m s
    ∙ sym (ap (put (step m g) f) (computed_spared g f (computed m g) m (inputs_spared g f.out (inputs f) s.right)))
