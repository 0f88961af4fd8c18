-- The parts of a grid that a script names: their shapes, and that none has an element twice.
use Rattle.std.proofs.Common.{◌≡◌, ℕ, suc, ◌+◌, ◌-◌, ◌*◌, ◌/◌, ◌<◌, ◌≤◌, ℤ, pos, List, [], ◌∷◌, length, refl, ap, ap₂, subst, arith, Bool, true, false, cond, ◌==◌, nat_lt, nat_le, ◌∙◌, Option, None}
use Rattle.std.specs.Prelude.{Ok, Err, unsigned_abs, ◌*ℤ◌, unwrap_or}
use Rattle.std.proofs.lemmas.Bool.{and_from, le-leb, ne_eqb}
use Rattle.std.proofs.lemmas.Int.{ints}
use Rattle.std.proofs.lemmas.Nat.{mul-le}
use Rattle.arr_view.specs.Strided.{Strided}
use Rattle.arr_view.specs.Views.{positions, repeats, whole_view}
use Rattle.arr_overlap.specs.Legs.{IsOpen}
use Rattle.arr_overlap.proofs.Steps.{AllOpen, open_fresh}
use Rattle.arr_shape.specs.declared.bounds.Slice.{Slice}
use Rattle.arr_shape.specs.declared.fault.ShapeFault.TheVariants.{RankRange}
use Rattle.arr_shape.specs.Shapes.{is_shape}
use Rattle.arr_shape.specs.Slices.{slice, all_cuts, cut, cut_view, cut_result, whole_cut, and_then}
use Rattle.arr_shape.proofs.Cuts.{made_up, stepped}
use Rattle.arr_elab.proofs.Shaped.{shape_from}
use Rattle.arr_elab.proofs.Sliced.{derived_slice}
use Rattle.arr_elab.proofs.Wholes.{whole_lawful}

-- ---- a view of two dimensions that doesn't lead back

open_two : (m n columns : ℕ) (s t : ℤ) → s ≡ pos columns → t ≡ pos 1 → 1 ≤ columns → n ≤ columns → AllOpen (m ∷ n ∷ []) (s ∷ t ∷ [])
open_two m n columns s t e f some few =
    let abs_s : unsigned_abs s ≡ columns = ap unsigned_abs e in
    let abs_t : unsigned_abs t ≡ 1 = ap unsigned_abs f in
    (λ long. rows long abs_s abs_t (nat_le n 1) refl, ((λ long. (omega (arith, abs_t), (λ target far leads. omega arith))), tt))
  where
    rows : 1 < m → unsigned_abs s ≡ columns → unsigned_abs t ≡ 1 → (b : Bool) → nat_le n 1 ≡ b → IsOpen m (unsigned_abs s) (cond b [] ((record { places = n + (n - 1); step = unsigned_abs t }) ∷ []))
    rows long abs_s abs_t true g = (omega (arith, abs_s), λ target far leads. omega (arith, far, abs_s))
    rows long abs_s abs_t false g = (
      omega (arith, abs_s),
      λ target far leads.
          let reached : (n + (n - 1) - 1) * unsigned_abs t ≡ n + (n - 1) - 1 = ap (λ k. (n + (n - 1) - 1) * k) abs_t ∙ omega arith in
          omega (arith, far, abs_s, reached),
    )

-- ---- a part

-- what slices see of a view: a shape of two dimensions, and no element twice
pub record Sees (v : Strided) (slices : List Slice) (m n : ℕ) : Type 0 where
  pub view : Strided
  pub is : slice v slices ≡ Ok view
  pub lengths : view.lengths ≡ m ∷ n ∷ []
  pub once : repeats view ≡ false

abbrev pub cut_slice : Option ℕ → Option ℕ → Slice
cut_slice start stop = record { start = start; stop = stop; step = pos 1 }

module _ (base rows columns : ℕ) (tall : 8 ≤ rows) (r : rows ≤ 64) (wide : 8 ≤ columns) (c : columns ≤ 64) where
  abbrev pub grid_view : Strided
  grid_view = whole_view base (rows ∷ columns ∷ [])

  pub few_positions : positions (rows ∷ columns ∷ []) ≤ 4096
  few_positions = omega (arith, mul-le rows (columns * 1) 64 64 r (omega arith))

  pub grid_shape : is_shape (rows ∷ columns ∷ []) ≡ true
  grid_shape =
      shape_from (rows ∷ columns ∷ []) refl (and_from (nat_le 1 rows) _ (le-leb 1 rows (omega arith)) (and_from (nat_le 1 columns) true (le-leb 1 columns (omega arith)) refl))
      (omega (arith, few_positions))

  first_stride : cond (rows == 1) (pos 0) (pos (positions (columns ∷ []))) ≡ pos columns
  first_stride = ap (λ b. cond b (pos 0) (pos (positions (columns ∷ [])))) (ne_eqb rows 1 (λ e. omega arith)) ∙ ap pos (let e : columns * 1 ≡ columns = omega arith in e)

  second_stride : cond (columns == 1) (pos 0) (pos (positions [])) ≡ pos 1
  second_stride = ap (λ b. cond b (pos 0) (pos 1)) (ne_eqb columns 1 (λ e. omega arith))

  one_times : (s z : ℤ) (k : ℕ) → s ≡ pos 1 → z ≡ pos k → s *ℤ z ≡ pos k
  one_times s z k e f = ap₂ (λ (x y : ℤ). x *ℤ y) e f ∙ omega (arith, ints)

  moves : (more : ℕ) → 1 ≤ more → cond (more == 0) (pos 0) (pos 1) ≡ pos 1
  moves more long = ap (λ b. cond b (pos 0) (pos 1)) (ne_eqb more 0 (λ e. omega arith))

  by_cuts : (slices : List Slice) (first more : ℕ) (y : _) → nat_lt 2 (length slices) ≡ false → all_cuts (rows ∷ columns ∷ []) slices ≡ Ok (stepped first more (pos 1) ∷ y ∷ []) → 1 ≤ more
      → y.step ≡ pos 1 → y.count ≤ columns → Sees grid_view slices (suc more) y.count
  by_cuts slices first more y few cuts long f narrow =
      let x = stepped first more (pos 1) in
      let is : slice grid_view slices ≡ Ok (cut_view grid_view (x ∷ y ∷ [])) =
      ap (λ b. cond b (Err RankRange) (cut_result grid_view (all_cuts (rows ∷ columns ∷ []) slices))) few ∙ ap (cut_result grid_view) cuts in
      record {
        view = cut_view grid_view (x ∷ y ∷ []);
        is = is;
        lengths = refl;
        once = open_fresh (cut_view grid_view (x ∷ y ∷ []))
            (derived_slice grid_view slices _ (whole_lawful base (rows ∷ columns ∷ []) grid_shape) is).lawful
            (open_two (suc more) y.count columns _ _ (one_times (cond (more == 0) (pos 0) (pos 1)) _ columns (moves more long) first_stride) (one_times y.step _ 1 f second_stride) (omega arith) narrow);
      }

  abbrev more_of : ℕ → Option ℕ → Option ℕ → ℕ
  more_of n start stop = (unwrap_or stop n - 1 - unwrap_or start 0) / 1

  takes : (n : ℕ) (start stop : Option ℕ) → unwrap_or stop n ≤ n → unwrap_or start 0 < unwrap_or stop n
      → cut n (cut_slice start stop) ≡ Ok (stepped (unwrap_or start 0) (more_of n start stop) (pos 1))
  takes n start stop high some = made_up n start stop 1 (omega arith) (omega arith) high some

  counts : (n : ℕ) (start stop : Option ℕ) → unwrap_or start 0 < unwrap_or stop n → suc (more_of n start stop) ≡ unwrap_or stop n - unwrap_or start 0
  counts n start stop some = omega arith

  pub sees_part : (p q s t : Option ℕ) → unwrap_or q rows ≤ rows → unwrap_or p 0 + 1 < unwrap_or q rows → unwrap_or t columns ≤ columns → unwrap_or s 0 + 1 < unwrap_or t columns
      → Sees grid_view (cut_slice p q ∷ cut_slice s t ∷ []) (unwrap_or q rows - unwrap_or p 0) (unwrap_or t columns - unwrap_or s 0)
  sees_part p q s t high two wide_end far =
      let x = counts rows p q (omega arith) in
      let y = counts columns s t (omega arith) in
      let slices = cut_slice p q ∷ cut_slice s t ∷ [] in
      subst (λ (k : ℕ). Sees grid_view slices k (unwrap_or t columns - unwrap_or s 0)) x
      (subst (λ (k : ℕ). Sees grid_view slices (suc (more_of rows p q)) k) y
      (by_cuts slices (unwrap_or p 0) (more_of rows p q) (stepped (unwrap_or s 0) (more_of columns s t) (pos 1)) refl
      (ap₂ (λ a b. and_then a (and_then b (Ok []))) (takes rows p q high (omega arith)) (takes columns s t wide_end (omega arith)))
      (omega arith) (moves (more_of columns s t) (omega arith)) (omega arith)))

  pub sees_whole : Sees grid_view (cut_slice None None ∷ []) rows columns
  sees_whole =
      let x : suc (more_of rows None None) ≡ rows = counts rows None None (omega arith) ∙ omega arith in
      let slices = cut_slice None None ∷ [] in
      subst (λ (k : ℕ). Sees grid_view slices k columns) x
      (by_cuts slices 0 (more_of rows None None) (whole_cut columns) refl
      (ap (λ a. and_then a (and_then (Ok (whole_cut columns)) (Ok []))) (takes rows None None (omega arith) (omega arith)))
      (omega arith) (ap (λ b. cond b (pos 0) (pos 1)) (ne_eqb columns 1 (λ e. omega arith))) (omega arith))
