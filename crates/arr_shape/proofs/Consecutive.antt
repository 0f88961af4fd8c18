-- Views whose elements are consecutive.
use Rattle.std.proofs.Common.{◌≡◌, ℕ, zero, suc, ◌+◌, ◌-◌, ◌<◌, ◌≤◌, ℤ, pos, negsuc, List, [], ◌∷◌, Bool, true, false, cond, not, length, map, refl, ap, ◌∙◌, arith}
use Rattle.std.specs.Prelude.{Result, Ok, Err}
use Rattle.std.specs.List.{list_all, range_with_len}
use Rattle.std.proofs.lemmas.Bool.{and_parts, and_from, lt-ltb, ltb-true, eq-eqb, ne_eqb}
use Rattle.arr_view.specs.Strided.{Strided}
use Rattle.arr_view.specs.Views.{elements, places, positions, to_place, is_place, whole_strides, is_view}
use Rattle.arr_view.proofs.Checks.{lawful}
use Rattle.arr_view.proofs.Counting.{some_position}
use Rattle.arr_view.proofs.Strides.{whole_places}
use Rattle.arr_view.proofs.Gapless.{in_row, whole_kept}
pub use Rattle.arr_view.proofs.Known.{same_lists-true as lists_same}
use Rattle.arr_shape.specs.declared.fault.ShapeFault.{ShapeFault}
use Rattle.arr_shape.specs.declared.fault.ShapeFault.TheVariants.{NotContiguous, CountMismatch}
use Rattle.arr_shape.specs.Views.{is_consecutive, reshape}
use Rattle.arr_shape.proofs.Shapes.{IsShape}
use Rattle.arr_shape.proofs.Made.{Sound, strided_of}

-- ---- a stretch without a gap

abbrev stretch : ℕ → ℕ → List ℤ
stretch z n = map pos (range_with_len z n)

stretch_inside : (z n : ℕ) → z + n ≤ 1048576 → list_all is_place (stretch z n) ≡ true
stretch_inside z zero h = refl
stretch_inside z (suc n) h = and_from (is_place (pos z)) (list_all is_place (stretch (z + 1) n)) (lt-ltb z 1048576 (omega arith)) (stretch_inside (z + 1) n (omega arith))

pub sound_whole : (start : ℕ) (ns : List ℕ) → IsShape ns → start + positions ns ≤ 1048576 → Sound start ns (whole_strides ns)
sound_whole start ns good h =
    record {
      rank = good.rank;
      lengths = good.lengths;
      kept = whole_kept ns;
      size = good.size;
      inside = ap (list_all is_place) (whole_places ns start) ∙ stretch_inside start (positions ns) h;
    }

pub elements_whole : (base start : ℕ) (ns : List ℕ) → elements (strided_of base start ns (whole_strides ns)) ≡ range_with_len start (positions ns)
elements_whole base start ns = in_row (strided_of base start ns (whole_strides ns)) refl

-- the last of consecutive elements is a place too
last_below : (ps : List ℤ) (z n : ℕ) → list_all is_place ps ≡ true → map to_place ps ≡ range_with_len z (suc n) → z + n < 1048576
last_below [] z n h e = absurd (let f : 0 ≡ suc (length (range_with_len (z + 1) n)) = ap length e in omega arith)
last_below (p ∷ ps) z zero h e = below p (and_parts (is_place p) (list_all is_place ps) h).0 (let f : to_place p ∷ map to_place ps ≡ z ∷ [] = e in cc)
  where
    below : (p : ℤ) → is_place p ≡ true → to_place p ≡ z → z + 0 < 1048576
    below (pos m) a b = let l : m < 1048576 = ltb-true m 1048576 a in let g : m ≡ z = b in omega arith
    below (negsuc m) a b = absurd (let f : false ≡ true = a in cc)
last_below (p ∷ ps) z (suc n) h e =
    let rest : map to_place ps ≡ range_with_len (z + 1) (suc n) = (let f : to_place p ∷ map to_place ps ≡ z ∷ range_with_len (z + 1) (suc n) = e in cc) in
    let l : (z + 1) + n < 1048576 = last_below ps (z + 1) n (and_parts (is_place p) (list_all is_place ps) h).1 rest in
    omega arith

pub ends_inside : (v : Strided) → is_view v ≡ true → is_consecutive v ≡ true → v.start + positions v.lengths ≤ 1048576
unfolding elements
ends_inside v e h =
    let some : 1 ≤ positions v.lengths = some_position v.lengths (lawful v e).lengths in
    let whole : positions v.lengths ≡ suc (positions v.lengths - 1) = omega arith in
    let l : v.start + (positions v.lengths - 1) < 1048576 =
    last_below (places v.lengths v.strides (pos v.start)) v.start (positions v.lengths - 1) (lawful v e).inside (lists_same _ _ h ∙ ap (range_with_len v.start) whole) in
    omega arith

-- ---- the answers

abbrev pub answer : Strided → List ℕ → Bool → Bool → Result Strided ShapeFault
answer v shape a b = cond (not a) (Err CountMismatch) (cond (not b) (Err NotContiguous) (Ok (strided_of v.base v.start shape (whole_strides shape))))

pub other_count : (v : Strided) (shape : List ℕ) → (positions v.lengths ≡ positions shape → ⊥) → reshape v shape ≡ Err CountMismatch
other_count v shape h = ap (λ a. answer v shape a (is_consecutive v)) (ne_eqb (positions v.lengths) (positions shape) h)

pub reshape_by : (v : Strided) (shape : List ℕ) (b : Bool) → positions v.lengths ≡ positions shape → is_consecutive v ≡ b → reshape v shape ≡ answer v shape true b
reshape_by v shape b h e = ap (λ a. answer v shape a (is_consecutive v)) (eq-eqb (positions v.lengths) (positions shape) h) ∙ ap (answer v shape true) e
