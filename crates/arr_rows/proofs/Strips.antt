-- A strip, one run further.
use Rattle.std.proofs.Common.{◌≡◌, ℕ, zero, suc, ◌+◌, ◌-◌, ◌*◌, ◌<◌, ◌≤◌, ℤ, pos, List, [], ◌∷◌, ◌++◌, Bool, true, false, cond, length, get_or, take, drop, Option, Some, None, refl, ap, ap₂, sym, ◌∙◌, subst, arith}
use Rattle.std.proofs.Math.Seq.{take-add}
use Rattle.std.proofs.lemmas.Bool.{and_parts, eq-eqb, ltb-true, ltb-false}
use Rattle.std.proofs.lemmas.List.{length-take-le}
use Rattle.std.proofs.lemmas.List.FromFn.{length-map-range_with_len}
use Rattle.std.proofs.lemmas.List.Folds.{list_all-append}
use Rattle.std.specs.Prelude.{IsSome, nat_lt}
use Rattle.std.specs.List.{list_all}
use Rattle.arr_num.specs.declared.elem.Elem.{Elem}
use Rattle.arr_view.specs.Strided.{Strided}
use Rattle.arr_view.specs.Views.{is_view, positions}
use Rattle.arr_ops.specs.Memory.{Cell, Writes, changed}
use Rattle.arr_store.specs.Cells.{assigned, size_at, takes, width_at}
use Rattle.arr_store.specs.Runs.{IsOf, with_run}
use Rattle.arr_store.specs.declared.runs.Run.{Run}
use Rattle.arr_store.proofs.Lawful.{length-write}
use Rattle.arr_strips.specs.Columns.{place_at}
use Rattle.arr_strips.specs.Strips.{Bases, part, put_at}
use Rattle.arr_strips.proofs.Segments.{part_more, put_more}
use Rattle.arr_rows.specs.Courses.{IsRunOf}
use Rattle.arr_rows.proofs.Courses.{run_part}

-- ---- numbers of a lane

pub lane_more : (wanted : ℕ → ℤ) (old now : List ℤ) (done n : ℕ) → ((i : ℕ) → i < done → get_or old i (pos 0) ≡ wanted i)
    → ((i : ℕ) → i < n → get_or now (done + i) (pos 0) ≡ wanted (done + i)) → ((k : ℕ) → k < done → get_or now k (pos 0) ≡ get_or old k (pos 0))
    → (i : ℕ) → i < done + n → get_or now i (pos 0) ≡ wanted i
lane_more wanted old now done n before each same i l =
    elim (nat_lt i done) as (λ t. nat_lt i done ≡ t → get_or now i (pos 0) ≡ wanted i) [
      | true ↦ λ t. let k : i < done = ltb-true i done t in same i k ∙ before i k
      | false ↦ λ t.
          let k : done ≤ i = ltb-false i done t in
          let e : done + (i - done) ≡ i = omega arith in
          subst (λ j. get_or now j (pos 0) ≡ wanted j) e (each (i - done) (omega arith))
    ] refl

-- so many bytes, and those of n numbers more
pub counted : (bytes done n each : ℕ) → bytes + done * each + n * each ≡ bytes + (done + n) * each
counted bytes done n each = omega arith

-- ---- what a cell keeps when numbers are written in it

put_here : (b : ℕ) (es : List ℕ) (xs : List ℤ) (f : Bases) → put_at b es xs f b ≡ changed (Writes es xs) (f b)
put_here b es xs f = ap (λ t. cond t (changed (Writes es xs) (f b)) (f b)) (eq-eqb b b refl)

pub size_put : (b : ℕ) (es : List ℕ) (xs : List ℤ) (f now : Bases) → now ≡ put_at b es xs f → size_at (now b) ≡ size_at (f b)
size_put b es xs f now e = ap (λ (g : Bases). size_at (g b)) e ∙ ap size_at (put_here b es xs f) ∙ stays (f b)
  where
    stays : (c : Option Cell) → size_at (changed (Writes es xs) c) ≡ size_at c
    stays None = refl
    stays (Some c) = length-write es xs c.numbers

pub width_put : (b : ℕ) (es : List ℕ) (xs : List ℤ) (f now : Bases) → now ≡ put_at b es xs f → width_at (now b) ≡ width_at (f b)
width_put b es xs f now e = ap (λ (g : Bases). width_at (g b)) e ∙ ap width_at (put_here b es xs f) ∙ stays (f b)
  where
    stays : (c : Option Cell) → width_at (changed (Writes es xs) c) ≡ width_at c
    stays None = refl
    stays (Some c) = refl

pub takes_put : (b : ℕ) (es : List ℕ) (xs : List ℤ) (f now : Bases) → now ≡ put_at b es xs f → takes (now b) ≡ takes (f b)
takes_put b es xs f now e = ap (λ (g : Bases). takes (g b)) e ∙ ap takes (put_here b es xs f) ∙ stays (f b)
  where
    stays : (c : Option Cell) → takes (changed (Writes es xs) c) ≡ takes c
    stays None = refl
    stays (Some c) = refl

pub of_put : (t : Elem) (b : ℕ) (es : List ℕ) (xs : List ℤ) (f now : Bases) → now ≡ put_at b es xs f → IsOf t (f b) → IsOf t (now b)
of_put t b es xs f now e h = subst (IsOf t) (sym (ap (λ (g : Bases). g b) e ∙ put_here b es xs f)) (stays (f b) h)
  where
    stays : (c : Option Cell) → IsOf t c → IsOf t (changed (Writes es xs) c)
    stays None h = h
    stays (Some c) h = h

pub there_put : (b : ℕ) (es : List ℕ) (xs : List ℤ) (f now : Bases) → now ≡ put_at b es xs f → IsSome (f b) → IsSome (now b)
there_put b es xs f now e h = subst IsSome (sym (ap (λ (g : Bases). g b) e ∙ put_here b es xs f)) (stays (f b) h)
  where
    stays : (c : Option Cell) → IsSome c → IsSome (changed (Writes es xs) c)
    stays None h = h
    stays (Some c) h = refl

-- ---- one run more is stored

pub stored_more : (v : Strided) (position done : ℕ) (run : Run) (xs : List ℤ) (f now next : Bases) → is_view v ≡ true → done + run.count ≤ length xs → position + done + run.count ≤ positions v.lengths
    → IsRunOf v (position + done) run → now ≡ put_at v.base (part v position done) (take done xs) f
    → next ≡ assigned now v.base (with_run (now v.base) run.start run.stride run.count (take run.count (drop done xs)))
    → next ≡ put_at v.base (part v position (done + run.count)) (take (done + run.count) xs) f
stored_more v position done run xs f now next law long within is before e =
    e
    ∙ ap (λ es. put_at v.base es (take run.count (drop done xs)) now) (run_part v (position + done) run law is within)
    ∙ ap (put_at v.base (part v (position + done) run.count) (take run.count (drop done xs))) before
    ∙ sym joined
    ∙ sym (ap₂ (λ es ys. put_at v.base es ys f) (part_more v position done run.count) (take-add done run.count xs))
  where
    same : length (part v position done) ≡ length (take done xs)
    same = length-map-range_with_len (place_at v) position done ∙ sym (length-take-le done xs (omega arith))

    joined : put_at v.base (part v position done ++ part v (position + done) run.count) (take done xs ++ take run.count (drop done xs)) f
        ≡ put_at v.base (part v (position + done) run.count) (take run.count (drop done xs)) (put_at v.base (part v position done) (take done xs) f)
    joined = λ i a. put_more v.base (part v position done) (part v (position + done) run.count) (take done xs) (take run.count (drop done xs)) f a same i

-- ---- numbers of a list, each of a type

front_typed : (test : ℤ → Bool) (xs : List ℤ) (n m : ℕ) → list_all test (take (n + m) xs) ≡ true → (list_all test (take n xs) ≡ true) × (list_all test (take m (drop n xs)) ≡ true)
front_typed test xs n m all =
    and_parts (list_all test (take n xs)) _ (sym (list_all-append test (take n xs) (take m (drop n xs))) ∙ sym (ap (list_all test) (take-add n m xs)) ∙ all)

pub run_typed : (test : ℤ → Bool) (xs : List ℤ) (total done n : ℕ) → done + n ≤ total → list_all test (take total xs) ≡ true → list_all test (take n (drop done xs)) ≡ true
run_typed test xs total done n h all =
    let e : total ≡ done + n + (total - (done + n)) = omega arith in
    (front_typed test xs done n (front_typed test xs (done + n) (total - (done + n)) (ap (λ k. list_all test (take k xs)) (sym e) ∙ all)).0).1

pub drop_behind : (a b : ℕ) (xs : List ℤ) → drop (a + b) xs ≡ drop b (drop a xs)
drop_behind zero b xs = ap (λ k. drop k xs) (let e : 0 + b ≡ b = omega arith in e)
drop_behind (suc a) b [] = nothing (suc a + b) ∙ sym (nothing b)
  where
    nothing : (k : ℕ) → drop k (let none : List ℤ = [] in none) ≡ []
    nothing zero = refl
    nothing (suc k) = refl
drop_behind (suc a) b (x ∷ xs) = ap (λ k. drop k (x ∷ xs)) (let e : suc a + b ≡ suc (a + b) = omega arith in e) ∙ drop_behind a b xs
