-- A strip of a view as segments of its rows.
use Rattle.std.proofs.Common.{◌≡◌, ℕ, ◌+◌, ◌*◌, ◌/◌, ◌%◌, ◌<◌, suc, zero, ℤ, pos, ◌+ℤ◌, List, [], ◌∷◌, ◌++◌, true, false, cond, refl, ap, sym, ◌∙◌, arith, map, length, get_or, set, Option, Some, None}
use Rattle.std.proofs.Math.Nat.{div-add-mod}
use Rattle.std.proofs.lemmas.List.{ext_get_or, length-map}
use Rattle.std.proofs.lemmas.List.FromFn.{length-range_with_len, get_or-map-range_with_len}
use Rattle.std.proofs.lemmas.Bool.{eq-eqb}
use Rattle.std.specs.Prelude.{◌==◌}
use Rattle.std.specs.List.{range_with_len}
use Rattle.arr_view.specs.Strided.{Strided}
use Rattle.arr_view.specs.Views.{places, to_place}
use Rattle.arr_ops.specs.Memory.{Cell, Writes, changed, write}
use Rattle.arr_strips.specs.Columns.{Columns, place_at}
use Rattle.arr_strips.specs.Strips.{Bases, put_at, part, lane_of}
use Rattle.arr_store.specs.Runs.{moved, run_place, run_places}
use Rattle.arr_strips.specs.Laws.{PartsOfRows}
use Rattle.arr_strips.proofs.Rows.{row_place}

-- ---- one segment after another

map_more : {X : Type 0} (f : ℕ → X) (p c d : ℕ) → map f (range_with_len p (c + d)) ≡ map f (range_with_len p c) ++ map f (range_with_len (p + c) d)
map_more f p zero d =
    ap (λ n. map f (range_with_len p n)) (let e : 0 + d ≡ d = omega arith in e) ∙ ap (λ q. map f (range_with_len q d)) (let e : p ≡ p + 0 = omega arith in e)
map_more f p (suc c) d =
    ap (λ n. map f (range_with_len p n)) (let e : suc c + d ≡ suc (c + d) = omega arith in e)
    ∙ ap (λ r. f p ∷ r) (map_more f (p + 1) c d ∙ ap (λ q. map f (range_with_len (p + 1) c) ++ map f (range_with_len q d)) (let e : p + 1 + c ≡ p + suc c = omega arith in e))

pub part_more : (v : Strided) (p c d : ℕ) → part v p (c + d) ≡ part v p c ++ part v (p + c) d
part_more v p c d = map_more (place_at v) p c d

pub lane_more : (h : Columns) (v : Strided) (p c d : ℕ) → lane_of h v p (c + d) ≡ lane_of h v p c ++ lane_of h v (p + c) d
lane_more h v p c d = map_more (λ q. h q v) p c d

write_more : (es fs : List ℕ) (xs ys ns : List ℤ) → length es ≡ length xs → write (es ++ fs) (xs ++ ys) ns ≡ write fs ys (write es xs ns)
write_more [] fs [] ys ns l = refl
write_more [] fs (x ∷ xs) ys ns l = absurd (omega arith)
write_more (e ∷ es) fs [] ys ns l = absurd (omega arith)
write_more (e ∷ es) fs (x ∷ xs) ys ns l = write_more es fs xs ys (set ns e x) (omega arith)

-- what is written at two parts is written at the one, then at the other
pub put_more : (b : ℕ) (es fs : List ℕ) (xs ys : List ℤ) (f : Bases) (a : ℕ) → length es ≡ length xs → put_at b (es ++ fs) (xs ++ ys) f a ≡ put_at b fs ys (put_at b es xs f) a
put_more b es fs xs ys f a l =
    elim (b == a) as (λ t. (b == a) ≡ t → cond t (changed (Writes (es ++ fs) (xs ++ ys)) (f b)) (f a) ≡ cond t (changed (Writes fs ys) (put_at b es xs f b)) (cond t (changed (Writes es xs) (f b)) (f a))) [
      | true ↦ λ e. at_cell (f b) ∙ ap (λ t. changed (Writes fs ys) (cond t (changed (Writes es xs) (f b)) (f b))) (sym (eq-eqb b b refl))
      | false ↦ λ e. refl
    ] refl
  where
    at_cell : (c : Option Cell) → changed (Writes (es ++ fs) (xs ++ ys)) c ≡ changed (Writes fs ys) (changed (Writes es xs) c)
    at_cell None = refl
    at_cell (Some c) = ap (λ ns. let k : Cell = record { elem = c.elem; numbers = ns } in Some k) (write_more es fs xs ys c.numbers l)

-- ---- the places of a segment

moved_more : (z s : ℤ) (j i : ℕ) → moved z s (j + i) ≡ moved (moved z s j) s i
moved_more z s zero i = ap (moved z s) (let e : 0 + i ≡ i = omega arith in e)
moved_more z s (suc j) i = ap (moved z s) (let e : suc j + i ≡ suc (j + i) = omega arith in e) ∙ moved_more (z +ℤ s) s j i

-- a segment inside the row of p, whose first place is a, is a run of the row's stride
pub segment : PartsOfRows
segment v ns ss m s el es e p c a row start fits =
    let left : length (part v p c) ≡ c = length-map (range_with_len p c) (place_at v) ∙ length-range_with_len p c in
    let right : length (run_places a s c) ≡ c = length-map (range_with_len 0 c) (run_place a s) ∙ length-range_with_len 0 c in
    ext_get_or 0 (part v p c) (run_places a s c) (left ∙ sym right)
    (λ i l.
    let below : i < c = omega arith in
    let whole : m * (p / m) + p % m ≡ p = div-add-mod p m in
    let turned : p / m * m ≡ m * (p / m) = omega arith in
    let at : p + i ≡ p / m * m + (p % m + i) = omega arith in
    get_or-map-range_with_len (place_at v) p c i (p + i) 0 below refl
    ∙ ap (place_at v) at
    ∙ row_place v ns ss m s el es e (p / m) (p % m + i) row (omega arith)
    ∙ ap to_place (moved_more (get_or (places ns ss (pos v.start)) (p / m) (pos 0)) s (p % m) i ∙ ap (λ z. moved z s i) start)
    ∙ sym (get_or-map-range_with_len (run_place a s) 0 c i i 0 below (let z : 0 + i ≡ i = omega arith in z)))
