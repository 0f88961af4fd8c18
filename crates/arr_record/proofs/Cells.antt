-- What a base holds, through one operation.
use Rattle.std.proofs.Common.{◌≡◌, ℕ, ℤ, List, [], ◌∷◌, Bool, true, false, cond, ◌||◌, ◌&&◌, ◌⊎◌, ⊎_elim, refl, ap, ap₂, sym, subst, ◌∙◌, length, set, Option, Some, None}
use Rattle.std.proofs.lemmas.Bool.{false≢true, eqb-true}
use Rattle.std.proofs.lemmas.List.{length-set}
use Rattle.std.specs.Prelude.{◌==◌, nat_lt}
use Rattle.std.specs.List.{AllByRecursion, list_all, list_any}
use Rattle.std.specs.Option.{option_to_list}
use Rattle.arr_num.specs.declared.elem.Elem.{Elem}
use Rattle.arr_num.specs.declared.code.Code.{Code}
use Rattle.arr_num.specs.declared.code.Code.TheVariants.{Range}
use Rattle.arr_num.specs.Kinds.{kind}
use Rattle.arr_num.specs.Numbers.{in_type}
use Rattle.arr_view.specs.Strided.{Strided}
use Rattle.arr_view.specs.Views.{elements, positions, has}
use Rattle.arr_ops.specs.declared.op.Op.{Op}
use Rattle.arr_ops.specs.declared.op.Operand.{Operand}
use Rattle.arr_ops.specs.declared.op.Operand.TheVariants.{Array, Number}
use Rattle.arr_ops.specs.Ops.{inputs, freed, view_of, makes_base}
use Rattle.arr_ops.specs.Memory.{Memory, Cell, Keeps, Drops, Becomes, Writes, changed, change, output_change, write, read, operand, first_numbers, computed, step, results, out_lengths, lengths_of, or_zero}
use Rattle.arr_ops.specs.Fits.{Need, meets_need}
use Rattle.arr_ops.proofs.Tests.{or_cases, test_all, both_right}
use Rattle.arr_ops.proofs.Spots.{all_left, all_right, computes_of, operands_of}
use Rattle.arr_ops.proofs.Typed.{AllIn, computed_in, write_in}
use Rattle.arr_ops.proofs.Serving.{length-computed}
use Rattle.arr_record.proofs.Home.{Home, place_of, typed_parts, same_elem_if, TypedAmong, WholeAmong}

-- ---- memories that agree where an operation looks

operand_alike : (m k : Memory) (n : ℕ) (o : Option Operand) → AllByRecursion (λ (v : Strided). m.bases v.base ≡ k.bases v.base) (view_of o) → operand m n o ≡ operand k n o
operand_alike m k n None h = refl
operand_alike m k n (Some (Number z)) h = refl
operand_alike m k n (Some (Array v)) h = ap (λ c. read c (elements v)) h.0

first_alike : (code : Code) (m k : Memory) (n : ℕ) (o : Option Operand) → AllByRecursion (λ (v : Strided). m.bases v.base ≡ k.bases v.base) (view_of o) → first_numbers code m n o ≡ first_numbers code k n o
first_alike Range m k n o h = refl
first_alike _ m k n o h = operand_alike m k n o h

pub computed_alike : (m k : Memory) (g : Op) → AllByRecursion (λ (v : Strided). m.bases v.base ≡ k.bases v.base) (inputs g) → computed m g ≡ computed k g
computed_alike m k g h =
    let n : ℕ = positions (out_lengths g.out) in
    ap₂ (results g.code g.to (lengths_of g.first) (or_zero g.axis))
    (first_alike g.code m k n g.first (all_left (λ (v : Strided). m.bases v.base ≡ k.bases v.base) (view_of g.first) (view_of g.second) h))
    (operand_alike m k n g.second (all_right (λ (v : Strided). m.bases v.base ≡ k.bases v.base) (view_of g.first) (view_of g.second) h))

-- what an operation leaves in a base, from the same numbers
pub left_alike : (g : Op) (xs ys : List ℤ) (b : ℕ) (c d : Option Cell) → xs ≡ ys → (makes_base g b ≡ true) ⊎ (c ≡ d) → has (freed g) b ≡ false
    → changed (change g xs b) c ≡ changed (change g ys b) d
left_alike g xs ys b c d e h free =
    ap (λ zs. changed (change g zs b) c) e
    ∙ ⊎_elim (λ made. made_alike g.out g.makes made free) (λ same. ap (changed (change g ys b)) same) h
  where
    made_alike : (out : Option Strided) (makes : Bool) → (makes && list_any (λ (o : Strided). o.base == b) (option_to_list out)) ≡ true → has (freed g) b ≡ false
        → changed (cond (has (freed g) b) Drops (output_change out makes g.to ys b)) c ≡ changed (cond (has (freed g) b) Drops (output_change out makes g.to ys b)) d
    made_alike None true h f = absurd (false≢true h)
    made_alike out false h f = absurd (false≢true h)
    made_alike (Some o) true h f =
        ap (λ t. changed (cond t Drops (output_change (Some o) true g.to ys b)) c) f
        ∙ or_cases (o.base == b) false h
        (λ t. ap (λ u. changed (cond u (Becomes (record { elem = g.to; numbers = ys })) Keeps) c) t
        ∙ sym (ap (λ u. changed (cond u (Becomes (record { elem = g.to; numbers = ys })) Keeps) d) t))
        (λ t. absurd (false≢true t))
        ∙ sym (ap (λ t. changed (cond t Drops (output_change (Some o) true g.to ys b)) d) f)

-- ---- a base of a length and a type

abbrev pub Stored : ℕ × Elem → Option Cell → Type 0
Stored p None = ⊥
Stored p (Some c) = (c.elem ≡ p.1) × AllIn p.1 c.numbers × (length c.numbers ≡ p.0)

pub meets_stored : (p : ℕ × Elem) (c : Option Cell) (n : Need) → Stored p c → n.elem ≡ p.1 → list_all (λ e. nat_lt e p.0) n.places ≡ true → meets_need c n ≡ true
meets_stored p None n h e l = absurd h
meets_stored p (Some c) n h e l =
    ap₂ (λ x y. x && y) (same_elem_if c.elem n.elem (h.0 ∙ sym e))
    (ap₂ (λ x y. x && y) (test_all (in_type c.elem) c.numbers (subst (λ t. AllIn t c.numbers) (sym h.0) h.1)) (ap (λ k. list_all (λ e. nat_lt e k) n.places) h.2 ∙ l))

length-write : (ps : List ℕ) (xs ns : List ℤ) → length (write ps xs ns) ≡ length ns
length-write [] xs ns = refl
length-write (p ∷ ps) [] ns = refl
length-write (p ∷ ps) (x ∷ xs) ns = length-write ps xs (set ns p x) ∙ length-set ns p x

stored_written : (p : ℕ × Elem) (ps : List ℕ) (xs : List ℤ) (c : Option Cell) → AllIn p.1 xs → Stored p c → Stored p (changed (Writes ps xs) c)
stored_written p ps xs None a h = absurd h
stored_written p ps xs (Some c) a h = (h.0, write_in p.1 ps xs c.numbers a h.1, length-write ps xs c.numbers ∙ h.2)

-- what the output of g writes or makes
record Output (g : Op) (p : ℕ × Elem) (xs : List ℤ) : Type 0 where
  type_is : g.to ≡ p.1
  numbers : AllIn p.1 xs
  all : g.makes ≡ true → length xs ≡ p.0

output_of : (bases : List (ℕ × Elem)) (m : Memory) (g : Op) (o : Strided) → Home bases g → g.out ≡ Some o → Output g (place_of bases o.base) (computed m g)
output_of bases m g o h e =
    let typed_out : TypedAmong bases (o.base, g.to) = at_out g.out e (typed_parts (TypedAmong bases) g h.typed_there).0 in
    record {
      type_is = typed_out.1;
      numbers = subst (λ t. AllIn t (computed m g)) typed_out.1 (computed_in m g (computes_of (kind g.code) g o e (operands_of g h.well)));
      all = λ k. length-computed m g o h.well e ∙ whole_at g.out e (h.whole k);
    }
  where
    at_out : (out : Option Strided) → out ≡ Some o → AllByRecursion (λ (v : Strided). TypedAmong bases (v.base, g.to)) (option_to_list out) → TypedAmong bases (o.base, g.to)
    at_out None e h = absurd (cc)
    at_out (Some u) e h = let same : u ≡ o = cc in subst (λ (w : Strided). TypedAmong bases (w.base, g.to)) same h.0

    whole_at : (out : Option Strided) → out ≡ Some o → AllByRecursion (WholeAmong bases) (option_to_list out) → WholeAmong bases o
    whole_at None e h = absurd (cc)
    whole_at (Some u) e h = let same : u ≡ o = cc in subst (WholeAmong bases) same h.0

pub stored_output : (to : Elem) (p : ℕ × Elem) (xs : List ℤ) (b : ℕ) (out : Option Strided) (makes : Bool) (c : Option Cell)
    → ((o : Strided) → out ≡ Some o → (o.base == b) ≡ true → (to ≡ p.1) × AllIn p.1 xs × (makes ≡ true → length xs ≡ p.0))
    → ((makes && list_any (λ (o : Strided). o.base == b) (option_to_list out)) ≡ true) ⊎ Stored p c → Stored p (changed (output_change out makes to xs b) c)
stored_output to p xs b None makes c f h = ⊎_elim (λ t. absurd (false≢true (both_right makes false t))) (λ s. s) h
stored_output to p xs b (Some o) makes c f h =
    elim (o.base == b) as (λ t. (o.base == b) ≡ t → ((makes && (t || false)) ≡ true) ⊎ Stored p c
    → Stored p (changed (cond t (cond makes (Becomes (record { elem = to; numbers = xs })) (Writes (elements o) xs)) Keeps) c)) [
      | true ↦ λ e k. here makes (f o refl e) k
      | false ↦ λ e k. ⊎_elim (λ t. absurd (false≢true (both_right makes false t))) (λ s. s) k
    ] refl h
  where
    here : (makes : Bool) → (to ≡ p.1) × AllIn p.1 xs × (makes ≡ true → length xs ≡ p.0) → ((makes && true) ≡ true) ⊎ Stored p c
        → Stored p (changed (cond makes (Becomes (record { elem = to; numbers = xs })) (Writes (elements o) xs)) c)
    here true w k = (w.0, w.1, w.2 refl)
    here false w k = ⊎_elim (λ t. absurd (false≢true t)) (λ s. stored_written p (elements o) xs c w.1 s) k

pub stored_step : (bases : List (ℕ × Elem)) (m : Memory) (g : Op) (b : ℕ) → Home bases g → has (freed g) b ≡ false → (makes_base g b ≡ true) ⊎ Stored (place_of bases b) (m.bases b)
    → Stored (place_of bases b) ((step m g).bases b)
stored_step bases m g b home free h =
    subst (λ t. Stored (place_of bases b) (changed (cond t Drops (output_change g.out g.makes g.to (computed m g) b)) (m.bases b))) (sym free)
    (stored_output g.to (place_of bases b) (computed m g) b g.out g.makes (m.bases b)
    (λ o e t.
    let w : Output g (place_of bases o.base) (computed m g) = output_of bases m g o home e in
    let same : place_of bases o.base ≡ place_of bases b = ap (place_of bases) (eqb-true o.base b t) in
    (w.type_is ∙ ap (λ (q : ℕ × Elem). q.1) same, subst (λ (q : ℕ × Elem). AllIn q.1 (computed m g)) same w.numbers, (λ k. w.all k ∙ ap (λ (q : ℕ × Elem). q.0) same)))
    h)

-- ---- a base that is not there

pub absent_output : (out : Option Strided) (makes : Bool) (t : Elem) (xs : List ℤ) (b : ℕ) → (makes && list_any (λ (o : Strided). o.base == b) (option_to_list out)) ≡ false
    → changed (output_change out makes t xs b) None ≡ None
absent_output None makes t xs b h = refl
absent_output (Some v) makes t xs b h =
    elim (v.base == b) as (λ p. (makes && (p || false)) ≡ false → changed (cond p (cond makes (Becomes (record { elem = t; numbers = xs })) (Writes (elements v) xs)) Keeps) None ≡ None) [
      | true ↦ λ k. elim makes as (λ q. (q && true) ≡ false → changed (cond q (Becomes (record { elem = t; numbers = xs })) (Writes (elements v) xs)) None ≡ None) [
        | true ↦ λ l. absurd (false≢true (sym l))
        | false ↦ λ l. refl
      ] k
      | false ↦ λ k. refl
    ] h

pub absent_step : (m : Memory) (g : Op) (b : ℕ) → (has (freed g) b ≡ true) ⊎ ((m.bases b ≡ None) × (makes_base g b ≡ false)) → (step m g).bases b ≡ None
absent_step m g b h =
    ⊎_elim
    (λ t. ap (λ f. changed (cond f Drops (output_change g.out g.makes g.to (computed m g) b)) (m.bases b)) t)
    (λ t. ap (changed (change g (computed m g) b)) t.0
    ∙ elim (has (freed g) b) as (λ f. changed (cond f Drops (output_change g.out g.makes g.to (computed m g) b)) None ≡ None) [
      | true ↦ refl
      | false ↦ absent_output g.out g.makes g.to (computed m g) b t.1
    ])
    h
