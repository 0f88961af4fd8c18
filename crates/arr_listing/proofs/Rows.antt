-- Numbers in rows.
use Rattle.std.proofs.Common.{◌≡◌, ℕ, zero, suc, ◌+◌, ◌-◌, ◌*◌, ◌/◌, ◌<◌, ◌≤◌, ℤ, pos, List, [], ◌∷◌, ◌++◌, length, take, drop, get_or, codes, refl, ap, ap₂, sym, ◌∙◌, arith, subst}
use Rattle.std.proofs.Common.{true, false, Option, Some, None, FitsSigned, to_z, of_z, nat_le}
use Rattle.std.specs.Int.{w128}
use Rattle.std.proofs.Math.Nat.{mul-div_cancel, mul-le-mul_right}
use Rattle.std.specs.List.{flat_map}
use Rattle.std.specs.Fmt.{signed_decimal}
use Rattle.std.proofs.lemmas.List.{drop_more, drop_all, drop-take, drop-drop, get_or-take, length-take-le}
use Rattle.std.proofs.lemmas.List.{get_or_default}
use Rattle.std.proofs.lemmas.Bool.{and_parts, leb-true}
use Rattle.arr_num.proofs.Reading.{read}
use Rattle.arr_num.proofs.Wrapping.{fits_of_type}
use Rattle.arr_view.specs.Strided.{Strided}
use Rattle.arr_view.specs.Views.{is_view, positions}
use Rattle.arr_view.proofs.Checks.{lawful}
use Rattle.arr_view.proofs.Places.{length_at}
use Rattle.arr_ops.specs.Memory.{Slot, lengths_of}
use Rattle.arr_ops.specs.declared.op.Op.{Op}
use Rattle.arr_ops.specs.declared.op.Operand.TheVariants.{Array}
use Rattle.arr_store.specs.Slots.{slot_number, slot_size, slot_takes}
use Rattle.arr_listing.specs.Texts.{array_text, numbers_text, row_count, row_width, rows, spaced, type_name}
use Rattle.arr_listing.specs.Shown.{Shows, numbers_of, shown_text}

-- ---- how many rows there are

split : (k : ℕ) (ns : List ℕ) → length ns ≡ suc k → positions ns ≡ positions (take k ns) * get_or ns k 1
split zero [] h = absurd (omega arith)
split zero (n ∷ []) h = omega arith
split zero (n ∷ m ∷ ns) h = absurd (omega arith)
split (suc k) [] h = absurd (omega arith)
split (suc k) (n ∷ ns) h = let e : positions ns ≡ positions (take k ns) * get_or ns k 1 = split k ns (omega arith) in ap (λ p. n * p) e ∙ omega arith

pub all_positions : (ns : List ℕ) → 1 ≤ length ns → row_count ns * row_width ns ≡ positions ns
all_positions ns h = sym (split (length ns - 1) ns (omega arith))

pub counted_rows : (ns : List ℕ) (p w : ℕ) → 1 ≤ length ns → 1 ≤ w → p ≡ positions ns → w ≡ row_width ns → p / w ≡ row_count ns
counted_rows ns p w some wide e f = ap₂ (λ a b. a / b) (e ∙ sym (all_positions ns some) ∙ ap (λ x. row_count ns * x) (sym f)) refl ∙ mul-div_cancel (row_count ns) (let h : 0 < w = omega arith in h)

-- ---- one row

abbrev pub piece : ℤ → List ℕ
piece m = 32 ∷ signed_decimal m

next : (ns : List ℤ) (p n : ℕ) → p < n → n ≤ length ns → drop p (take n ns) ≡ get_or ns p (pos 0) ∷ drop (p + 1) (take n ns)
next ns p n before there =
    let len : length (take n ns) ≡ n = length-take-le n ns there in
    drop_more (take n ns) p (pos 0) (omega arith) ∙ ap (λ z. z ∷ drop (p + 1) (take n ns)) (get_or-take n ns p (pos 0) before)

-- the row is its first number and the others
pub row_begins : (ns : List ℤ) (s w : ℕ) → 1 ≤ w → s + w ≤ length ns → signed_decimal (get_or ns s (pos 0)) ++ flat_map piece (drop (s + 1) (take (s + w) ns)) ≡ spaced (take w (drop s ns))
row_begins ns s w some there = ap spaced (sym (next ns s (s + w) (omega arith) there)) ∙ ap spaced (drop-take s w ns)

-- one more number
pub row_turns : (ns : List ℤ) (p n : ℕ) → p < n → n ≤ length ns → flat_map piece (drop p (take n ns)) ≡ piece (get_or ns p (pos 0)) ++ flat_map piece (drop (p + 1) (take n ns))
row_turns ns p n before there = ap (flat_map piece) (next ns p n before there)

-- all numbers are written
pub row_ends : (ns : List ℤ) (p n : ℕ) → n ≤ length ns → n ≤ p → flat_map piece (drop p (take n ns)) ≡ []
row_ends ns p n there past =
    let len : length (take n ns) ≡ n = length-take-le n ns there in
    ap (flat_map piece) (drop_all p (take n ns) (omega arith))

-- ---- rows

-- one more row
pub rows_turn : (ns : List ℤ) (i count s w : ℕ) → i < count → rows (count - i) w (drop s ns) ≡ (spaced (take w (drop s ns)) ++ codes "\n") ++ rows (count - (i + 1)) w (drop (s + w) ns)
rows_turn ns i count s w below =
    let left : count - i ≡ suc (count - (i + 1)) = omega arith in
    ap (λ k. rows k w (drop s ns)) left ∙ ap (λ xs. (spaced (take w (drop s ns)) ++ codes "\n") ++ rows (count - (i + 1)) w xs) (drop-drop w s ns)

-- all rows are written
pub rows_end : (ns : List ℤ) (i count s w : ℕ) → count ≤ i → rows (count - i) w (drop s ns) ≡ []
rows_end ns i count s w past = let none : count - i ≡ 0 = omega arith in ap (λ k. rows k w (drop s ns)) none

-- a row lies inside the rows
pub row_inside : (i count w size : ℕ) → i < count → count * w ≤ size → i * w + w ≤ size
row_inside i count w size h k = let e : (i + 1) * w ≤ count * w = mul-le-mul_right w (let s : i + 1 ≤ count = omega arith in s) in omega (arith, e)

-- ---- the numbers of a slot

pub number_is : (o : Option Slot) (p : ℕ) → slot_number o p ≡ get_or (numbers_of o) p (pos 0)
number_is None p = refl
number_is (Some s) p = refl

pub size_is : (o : Option Slot) → slot_size o ≡ length (numbers_of o)
size_is None = refl
size_is (Some s) = refl

fits_of_slot : (o : Option Slot) (z : ℤ) → slot_takes o z ≡ true → FitsSigned w128 z
fits_of_slot None z h = absurd (let f : false ≡ true = h in cc)
fits_of_slot (Some s) z h = fits_of_type s.elem z h

-- the digits of a number that a slot gave
pub digits_read : (o : Option Slot) (p : ℕ) (z : ℤ) → slot_takes o z ≡ true → z ≡ slot_number o p → signed_decimal (to_z w128 (of_z w128 z)) ≡ signed_decimal (get_or (numbers_of o) p (pos 0))
digits_read o p z typed e = ap signed_decimal (read z (fits_of_slot o z typed) ∙ e ∙ number_is o p)

-- ---- shapes of views

pub some_length : (v : Strided) → is_view v ≡ true → 1 ≤ length v.lengths
some_length v h = leb-true 1 (length v.lengths) (and_parts (nat_le 1 (length v.lengths)) (nat_le (length v.lengths) 4) (lawful v h).rank).0

pub some_width : (v : Strided) → is_view v ≡ true → 1 ≤ row_width v.lengths
some_width v h =
    let some : 1 ≤ length v.lengths = some_length v h in
    let last : length v.lengths - 1 < length v.lengths = omega arith in
    subst (λ w. 1 ≤ w) (get_or_default v.lengths (length v.lengths - 1) 0 1 last) (length_at (length v.lengths - 1) v.lengths (lawful v h).lengths last)

-- the positions over the width are the rows
pub record Sizes (v : Strided) (p w : ℕ) : Type 0 where
  pub count : p / w ≡ row_count v.lengths
  pub some : 1 ≤ w
  pub all : (p / w) * w ≡ positions v.lengths
  pub few : positions v.lengths ≤ 1048576

pub sizes : (v : Strided) (p w : ℕ) → is_view v ≡ true → p ≡ positions v.lengths → w ≡ row_width v.lengths → Sizes v p w
sizes v p w h e f =
    let wide : 1 ≤ w = subst (λ n. 1 ≤ n) (sym f) (some_width v h) in
    let count : p / w ≡ row_count v.lengths = counted_rows v.lengths p w (some_length v h) wide e f in
    record { count = count; some = wide; all = ap₂ (λ a b. a * b) count f ∙ all_positions v.lengths (some_length v h); few = (lawful v h).size }

-- ---- an array

pub array_is : (op : Op) (v : Strided) (slot : Option Slot) (count width : ℕ) → Shows op slot → op.first ≡ Some (Array v) → count ≡ row_count v.lengths → width ≡ row_width v.lengths
    → type_name op.from ++ numbers_text v.lengths ++ codes "\n" ++ rows count width (numbers_of slot) ≡ shown_text slot
unfolding array_text
array_is op v slot count width shows first is_count is_width =
    let head = type_name op.from ++ numbers_text v.lengths ++ codes "\n" in
    ap (λ o. head ++ rows count width (numbers_of o)) shows.is
    ∙ ap₂ (λ c w. head ++ rows c w shows.numbers) is_count is_width
    ∙ ap (λ ns. type_name op.from ++ numbers_text ns ++ codes "\n" ++ rows (row_count ns) (row_width ns) shows.numbers) (sym (ap lengths_of first))
    ∙ ap shown_text (sym shows.is)
