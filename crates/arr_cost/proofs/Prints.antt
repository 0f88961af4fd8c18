-- What footprints tell, and what two blocks save as one.
use Rattle.std.proofs.Common.{◌≡◌, ◌≢◌, ℕ, ◌+◌, ◌-◌, ◌*◌, ◌/◌, ◌%◌, ◌<◌, ◌≤◌, List, [], ◌∷◌, ◌++◌, Bool, true, false, ◌&&◌, ◌||◌, Some, length, get_or, inl, inr, refl, ap, ap₂, sym, subst, ◌∙◌, arith, eq-eqb}
use Rattle.std.specs.Prelude.{◌==◌, nat_lt}
use Rattle.std.specs.List.{flat_map, list_any}
use Rattle.std.proofs.lemmas.Bool.{cases_lt, eqb-true, false≢true, lt-ltb, ltb-false, ltb-true, ne_eqb}
use Rattle.std.proofs.lemmas.List.{get_or-append_right, get_or_append_left}
use Rattle.std.proofs.lemmas.List.Folds.{list_any-append}
use Rattle.arr_ops.specs.Ops.{views}
use Rattle.arr_ops.specs.Plans.{numbered, ops_of}
use Rattle.arr_ops.specs.declared.op.Op.{Op}
use Rattle.arr_cost.specs.declared.footprints.Row.{Row}
use Rattle.arr_cost.specs.declared.touches.Touch.{Touch}
use Rattle.arr_cost.specs.declared.touches.Touches.{Touches}
use Rattle.arr_cost.specs.Footprints.{bases_of, blank, has_bit, is_class, join, keeps, keeps_class, loses, reads_class, row_for, span, writes_class, IsFootprint}
use Rattle.arr_cost.specs.Touches.{frees_number, makes_number, table_of, touched_by, touches_of, untouched}
use Rattle.arr_cost.proofs.Digits.{or_bit, span_alike, span_more}
use Rattle.arr_cost.proofs.Touched.{any_picked, any_row}

-- ---- one operation

pub on_class : (first : ℕ) (t : Touch) (i : ℕ) → first ≤ t.class → is_class (first + i) (Some t) ≡ (t.class - first == i)
on_class first t i l =
    elim (t.class - first == i) as (λ b. (t.class - first == i) ≡ b → ((t.class == first + i) || false) ≡ b) [
      | true ↦ λ e. let same : t.class - first ≡ i = eqb-true (t.class - first) i e in ap (λ b. b || false) (eq-eqb t.class (first + i) (omega arith))
      | false ↦ λ e. ap (λ b. b || false) (ne_eqb t.class (first + i) (λ z. let z' : t.class ≡ first + i = z in false≢true (sym e ∙ eq-eqb (t.class - first) i (omega arith))))
    ] refl

pub off_class : (first : ℕ) (t : Touch) (i : ℕ) → i < 64 → (t.class ≢ first + i) → is_class (first + i) (Some t) ≡ false
off_class first t i l ne = ap (λ b. b || false) (ne_eqb t.class (first + i) ne)

pub next_below : (p : ℕ → Bool) (n i : ℕ) → ((nat_lt i n && p i) || (p n && (n == i))) ≡ (nat_lt i (n + 1) && p i)
next_below p n i =
    elim (n == i) as (λ b. (n == i) ≡ b → ((nat_lt i n && p i) || (p n && b)) ≡ (nat_lt i (n + 1) && p i)) [
      | true ↦ λ e.
          let same : n ≡ i = eqb-true n i e in
          ap (λ b. (b && p i) || (p n && true)) (not_less i n (omega arith)) ∙ yes (p n) ∙ ap p same ∙ sym (ap (λ b. b && p i) (lt-ltb i (n + 1) (omega arith)))
      | false ↦ λ e. no (nat_lt i n && p i) (p n) ∙ ap (λ b. b && p i) (same_less (λ z. false≢true (sym e ∙ eq-eqb n i (let z' : n ≡ i = z in omega arith))))
    ] refl
  where
    yes : (b : Bool) → (b && true) ≡ b
    yes true = refl
    yes false = refl

    no : (a b : Bool) → (a || (b && false)) ≡ a
    no true b = refl
    no false true = refl
    no false false = refl

    not_less : (a b : ℕ) → b ≤ a → nat_lt a b ≡ false
    not_less a b l = elim (nat_lt a b) as (λ t. nat_lt a b ≡ t → t ≡ false) [ true ↦ λ e. absurd (let k : a < b = ltb-true a b e in omega arith) | false ↦ λ e. refl ] refl

    same_less : (n ≡ i → ⊥) → nat_lt i n ≡ nat_lt i (n + 1)
    same_less ne = elim (nat_lt i n) as (λ t. nat_lt i n ≡ t → t ≡ nat_lt i (n + 1)) [
      | true ↦ λ e. let k : i < n = ltb-true i n e in sym (lt-ltb i (n + 1) (omega arith))
      | false ↦ λ e. let k : n ≤ i = ltb-false i n e in sym (not_less i (n + 1) (apart k))
    ] refl
      where
        apart : n ≤ i → n + 1 ≤ i
        apart k = elim (cases_lt n i) as (λ _. n + 1 ≤ i) [ inl l ↦ omega arith | inr l ↦ absurd (ne (omega arith)) ]

-- the row of an operation
pub record Tells (touches : Touches) (bases : List ℕ) (k : ℕ) (row : Row) : Type 0 where
  pub reads : (i : ℕ) → i < 64 → has_bit row.reads i ≡ reads_class (64 * k + i) touches
  pub writes : (i : ℕ) → i < 64 → has_bit row.writes i ≡ writes_class (64 * k + i) touches
  pub makes : (i : ℕ) → i < 64 → 64 * k + i < length bases → has_bit row.makes i ≡ makes_number (get_or bases (64 * k + i) 0) touches
  pub frees : (i : ℕ) → i < 64 → 64 * k + i < length bases → has_bit row.frees i ≡ frees_number (get_or bases (64 * k + i) 0) touches

pub row_pushed : (P : ℕ → Row → Type 0) (rows new : List Row) (r : Row) (n : ℕ) → new ≡ rows ++ r ∷ [] → length rows ≡ n → ((k : ℕ) → k < n → P k (get_or rows k blank)) → P n r → (k : ℕ) → k < n + 1 → P k (get_or new k blank)
row_pushed P rows new r n e l h p k below =
    elim (cases_lt k n) as (λ _. P k (get_or new k blank)) [
      | inl less ↦ subst (P k) (sym (ap (λ rs. get_or rs k blank) e ∙ get_or_append_left rows (r ∷ []) blank k (omega arith))) (h k less)
      | inr more ↦
          let same : k ≡ n = omega arith in
          let zero_place : k - n ≡ 0 = omega arith in
          subst (P k) (sym (ap (λ rs. get_or rs k blank) e ∙ get_or-append_right rows (r ∷ []) n k blank l (omega arith) ∙ ap (λ j. get_or (r ∷ []) j blank) zero_place)) (subst (λ j. P j r) (sym same) p)
    ]

-- ---- two blocks

touched_join : (table : List Touches) (x y : List ℕ) → touched_by table (x ++ y) ≡ touched_by table x ++ touched_by table y
touched_join table [] y = refl
touched_join table (i ∷ x) y = ap (λ r. get_or table i untouched ∷ r) (touched_join table x y)

pub any_touched : (K : Touches → Bool) (table : List Touches) (x y : List ℕ) → list_any K (touched_by table (x ++ y)) ≡ (list_any K (touched_by table x) || list_any K (touched_by table y))
any_touched K table x y = ap (list_any K) (touched_join table x y) ∙ list_any-append K (touched_by table x) (touched_by table y)

pub footprints_join : (list : List Op) (x y : List ℕ) (a b rows : List Row) → IsFootprint list x a → IsFootprint list y b → length rows ≡ length (bases_of list) / 64 + 1
    → ((k : ℕ) → k < length (bases_of list) / 64 + 1 → get_or rows k blank ≡ join (get_or a k blank) (get_or b k blank)) → IsFootprint list (x ++ y) rows
footprints_join list x y a b rows f g long each = record {
  long = long;
  reads = λ c l.
      ap (λ (r : Row). has_bit r.reads (c % 64)) (each (c / 64) (omega arith)) ∙ or_bit (row_for a c).reads (row_for b c).reads (c % 64) ∙ ap₂ (λ s t. s || t) (f.reads c l) (g.reads c l) ∙ sym (any_touched (reads_class c) (table_of list) x y);
  writes = λ c l.
      ap (λ (r : Row). has_bit r.writes (c % 64)) (each (c / 64) (omega arith)) ∙ or_bit (row_for a c).writes (row_for b c).writes (c % 64) ∙ ap₂ (λ s t. s || t) (f.writes c l) (g.writes c l) ∙ sym (any_touched (writes_class c) (table_of list) x y);
  makes = λ c l.
      ap (λ (r : Row). has_bit r.makes (c % 64)) (each (c / 64) (omega arith)) ∙ or_bit (row_for a c).makes (row_for b c).makes (c % 64) ∙ ap₂ (λ s t. s || t) (f.makes c l) (g.makes c l) ∙ sym (any_touched (makes_number (get_or (bases_of list) c 0)) (table_of list) x y);
  frees = λ c l.
      ap (λ (r : Row). has_bit r.frees (c % 64)) (each (c / 64) (omega arith)) ∙ or_bit (row_for a c).frees (row_for b c).frees (c % 64) ∙ ap₂ (λ s t. s || t) (f.frees c l) (g.frees c l) ∙ sym (any_touched (frees_number (get_or (bases_of list) c 0)) (table_of list) x y);
}

-- ---- a sum over two footprints, row by row

pub saved_turn : (ws : List ℕ) (a b : List Row) (index : ℕ) (ra rb : Row) (shared lost sum some more : ℕ) → ra ≡ get_or a index blank → rb ≡ get_or b index blank
    → ((i : ℕ) → i < 64 → has_bit shared i ≡ (keeps ra i && keeps rb i)) → ((i : ℕ) → i < 64 → has_bit lost i ≡ loses ra rb i)
    → sum ≡ span ws 0 (64 * index) (λ c. keeps_class a c && keeps_class b c) + span ws 0 (64 * index) (λ c. loses (row_for a c) (row_for b c) (c % 64))
    → some ≡ sum + span ws (64 * index) 64 (has_bit shared) → more ≡ some + span ws (64 * index) 64 (has_bit lost)
    → more ≡ span ws 0 (64 * (index + 1)) (λ c. keeps_class a c && keeps_class b c) + span ws 0 (64 * (index + 1)) (λ c. loses (row_for a c) (row_for b c) (c % 64))
saved_turn ws a b index ra rb shared lost sum some more ea eb h k before first second =
    let next : 64 * (index + 1) ≡ 64 * index + 64 = omega arith in
    let one : span ws (64 * index) 64 (has_bit shared) ≡ span ws (64 * index) 64 (λ i. keeps_class a (64 * index + i) && keeps_class b (64 * index + i))
    = span_alike ws (64 * index) 64 (has_bit shared) (λ i. keeps_class a (64 * index + i) && keeps_class b (64 * index + i)) (λ i l. h i l ∙ ap₂ (λ s t. s && t) (there a ra ea i l) (there b rb eb i l)) in
    let two : span ws (64 * index) 64 (has_bit lost) ≡ span ws (64 * index) 64 (λ i. loses (row_for a (64 * index + i)) (row_for b (64 * index + i)) ((64 * index + i) % 64))
    = span_alike ws (64 * index) 64 (has_bit lost) (λ i. loses (row_for a (64 * index + i)) (row_for b (64 * index + i)) ((64 * index + i) % 64)) (λ i l. k i l
    ∙ ap₂ (λ r s. loses r s i) (ea ∙ sym (row_is a i l)) (eb ∙ sym (row_is b i l)) ∙ ap (loses (row_for a (64 * index + i)) (row_for b (64 * index + i))) (let z : i ≡ (64 * index + i) % 64 = omega arith in z)) in
    let p : span ws 0 (64 * index + 64) (λ c. keeps_class a c && keeps_class b c) ≡ span ws 0 (64 * index) (λ c. keeps_class a c && keeps_class b c) + span ws (64 * index) 64 (λ i. keeps_class a (64 * index + i) && keeps_class b (64 * index + i))
    = span_more ws (64 * index) 64 (λ c. keeps_class a c && keeps_class b c) in
    let q : span ws 0 (64 * index + 64) (λ c. loses (row_for a c) (row_for b c) (c % 64)) ≡ span ws 0 (64 * index) (λ c. loses (row_for a c) (row_for b c) (c % 64)) + span ws (64 * index) 64 (λ i. loses (row_for a (64 * index + i)) (row_for b (64 * index + i)) ((64 * index + i) % 64))
    = span_more ws (64 * index) 64 (λ c. loses (row_for a c) (row_for b c) (c % 64)) in
    let sums : more ≡ span ws 0 (64 * index + 64) (λ c. keeps_class a c && keeps_class b c) + span ws 0 (64 * index + 64) (λ c. loses (row_for a c) (row_for b c) (c % 64)) = omega arith in
    sums ∙ ap (λ n. span ws 0 n (λ c. keeps_class a c && keeps_class b c) + span ws 0 n (λ c. loses (row_for a c) (row_for b c) (c % 64))) (sym next)
  where
    row_is : (rows : List Row) (i : ℕ) → i < 64 → row_for rows (64 * index + i) ≡ get_or rows index blank
    row_is rows i l = ap (λ n. get_or rows n blank) (let z : (64 * index + i) / 64 ≡ index = omega arith in z)

    there : (rows : List Row) (r : Row) → r ≡ get_or rows index blank → (i : ℕ) → i < 64 → keeps r i ≡ keeps_class rows (64 * index + i)
    there rows r e i l = ap (λ s. keeps s i) (e ∙ sym (row_is rows i l)) ∙ ap (keeps (row_for rows (64 * index + i))) (let z : i ≡ (64 * index + i) % 64 = omega arith in z)

-- number 0 is no operation
pub none_print : (list : List Op) (rows : List Row) → IsFootprint list (0 ∷ []) rows → IsFootprint list [] rows
none_print list rows f = record { long = f.long; reads = f.reads; writes = f.writes; makes = f.makes; frees = f.frees }

-- a footprint tells of the operations, however the block is written
pub same_print : (list : List Op) (x y : List ℕ) (rows : List Row) → ops_of (numbered list) x ≡ ops_of (numbered list) y → IsFootprint list x rows → IsFootprint list y rows
same_print list x y rows e f = record {
  long = f.long;
  reads = λ c l. f.reads c l ∙ same (reads_class c) refl;
  writes = λ c l. f.writes c l ∙ same (writes_class c) refl;
  makes = λ c l. f.makes c l ∙ same (makes_number (get_or (bases_of list) c 0)) refl;
  frees = λ c l. f.frees c l ∙ same (frees_number (get_or (bases_of list) c 0)) refl;
}
  where
    told : (K : Touches → Bool) → K untouched ≡ false → (z : List ℕ) → list_any K (touched_by (table_of list) z) ≡ list_any (λ op. K (touches_of list (flat_map views list) op)) (ops_of (numbered list) z)
    told K none z = any_row K (touches_of list (flat_map views list)) none list z ∙ sym (any_picked (λ op. K (touches_of list (flat_map views list) op)) list z)

    same : (K : Touches → Bool) → K untouched ≡ false → list_any K (touched_by (table_of list) x) ≡ list_any K (touched_by (table_of list) y)
    same K none = told K none x ∙ ap (list_any (λ op. K (touches_of list (flat_map views list) op))) e ∙ sym (told K none y)
