-- A run with a stride of 1: its numbers lie side by side.
use Rattle.std.proofs.Common.{◌≡◌, ℕ, suc, zero, ◌+◌, ◌-◌, ◌<◌, ◌≤◌, ℤ, pos, List, [], ◌∷◌, ◌++◌, Bool, true, ◌&&◌, ap, ap₂, refl, sym, ◌∙◌, arith, length, get_or, map, set, take, drop, of_z}
use Rattle.std.proofs.lemmas.Bool.{and_parts}
use Rattle.std.proofs.lemmas.Int.{ints}
use Rattle.std.proofs.lemmas.List.{drop-map, drop_more, get_or-append_right, get_or-drop, get_or-take, get_or_append_left, length-drop, length-map, length-take-le, map-append, set-append_right, take-append-drop, take-map, take_more}
use Rattle.std.specs.Int.{w32}
use Rattle.std.specs.List.{list_all}
use mir.Val.{SFits}
use Rattle.arr_view.specs.Views.{to_place}
use Rattle.arr_ops.specs.Memory.{write}
use Rattle.arr_store.specs.Runs.{LiesIn, moved, run_place, run_places}
use Rattle.arr_store.proofs.Places.{run_more}

pub one_stride : (s : ℤ) → SFits w32 s → of_z w32 s ≡ 1 → s ≡ pos 1
one_stride s f h = omega (arith, ints)

moved_side : (start i : ℕ) → moved (pos start) (pos 1) i ≡ pos (start + i)
moved_side start zero = ap pos (let e : start ≡ start + 0 = omega arith in e)
moved_side start (suc i) = moved_side (start + 1) i ∙ ap pos (let e : start + 1 + i ≡ start + suc i = omega arith in e)

pub side_place : (start : ℕ) (s : ℤ) (i : ℕ) → s ≡ pos 1 → run_place start s i ≡ start + i
side_place start s i e = ap (λ t. run_place start t i) e ∙ ap to_place (moved_side start i)

-- such a run ends within the list that its places lie in
pub side_ends : (size start : ℕ) (s : ℤ) (count : ℕ) → s ≡ pos 1 → 0 < count → LiesIn size start s count → start + count ≤ size
side_ends size start s count e some inside =
    let last : count - 1 < count = omega (arith, some) in
    let there : run_place start s (count - 1) < size = (inside (count - 1) last).1 in
    let same : run_place start s (count - 1) ≡ start + (count - 1) = side_place start s (count - 1) e in
    omega (arith, some, there, same)

-- what a list has where numbers were copied to
pub copied_at : {T : Type 0} (old source : List T) (at from count i : ℕ) (d : T) → at + count ≤ length old → from + count ≤ length source → i < count
    → get_or (take at old ++ (take count (drop from source) ++ drop (at + count) old)) (at + i) d ≡ get_or source (from + i) d
copied_at old source at from count i d fits ends l =
    let long : length (take at old) ≡ at = length-take-le at old (omega (arith, fits)) in
    let left : length (drop from source) ≡ length source - from = length-drop from source in
    let copied : length (take count (drop from source)) ≡ count = length-take-le count (drop from source) (omega (arith, ends, left)) in
    get_or-append_right (take at old) (take count (drop from source) ++ drop (at + count) old) at (at + i) d long (omega arith)
    ∙ ap (λ k. get_or (take count (drop from source) ++ drop (at + count) old) k d) (let e : at + i - at ≡ i = omega arith in e)
    ∙ get_or_append_left (take count (drop from source)) (drop (at + count) old) d i (omega (arith, copied, l))
    ∙ get_or-take count (drop from source) i d l ∙ get_or-drop from source i d

put_front : (ys : List ℤ) (y x : ℤ) (zs : List ℤ) → set (ys ++ y ∷ zs) (length ys) x ≡ (ys ++ x ∷ []) ++ zs
put_front [] y x zs = refl
put_front (w ∷ ys) y x zs = ap (λ r. w ∷ r) (put_front ys y x zs)

-- numbers written one by one to places side by side are there as they stood
written_side : (start : ℕ) (s : ℤ) (i : ℕ) (source ns : List ℤ) → s ≡ pos 1 → i ≤ length source → start + i ≤ length ns
    → write (run_places start s i) (take i source) ns ≡ take start ns ++ (take i source ++ drop (start + i) ns)
written_side start s zero source ns e l m = sym (take-append-drop start ns) ∙ ap (λ k. take start ns ++ drop k ns) (let h : start ≡ start + 0 = omega arith in h)
written_side start s (suc i) source ns e l m =
    let one : suc i ≡ i + 1 = omega arith in
    let front = take start ns in
    let done = take i source in
    let x = get_or source i (pos 0) in
    let long : length front ≡ start = length-take-le start ns (omega (arith, m)) in
    let count : length done ≡ i = length-take-le i source (omega (arith, l)) in
    ap (λ k. write (run_places start s k) (take k source) ns) one ∙ run_more start s i source ns (omega (arith, l))
    ∙ ap (λ ms. set ms (run_place start s i) x) (written_side start s i source ns e (omega (arith, l)) (omega (arith, m)))
    ∙ ap (λ k. set (front ++ (done ++ drop (start + i) ns)) k x) (side_place start s i e)
    ∙ set-append_right front (done ++ drop (start + i) ns) start (start + i) x long (omega arith)
    ∙ ap (λ k. front ++ set (done ++ drop (start + i) ns) k x) (let h : start + i - start ≡ length done = omega (arith, count) in h)
    ∙ ap (λ rest. front ++ set (done ++ rest) (length done) x) (drop_more ns (start + i) (pos 0) (omega (arith, m)))
    ∙ ap (λ r. front ++ r) (put_front done (get_or ns (start + i) (pos 0)) x (drop (start + i + 1) ns))
    ∙ ap₂ (λ ys k. front ++ (ys ++ drop k ns)) (sym (take_more source i (pos 0) (omega (arith, l))) ∙ ap (λ k. take k source) (sym one))
    (let h : start + i + 1 ≡ start + suc i = omega arith in h)

-- the same of the numbers that native numbers are
pub copied_sides : {T : Type 0} (number : T → ℤ) (old source : List T) (start : ℕ) (s : ℤ) (at count : ℕ) → s ≡ pos 1 → start + count ≤ length old → at + count ≤ length source
    → map number (take start old ++ (take count (drop at source) ++ drop (start + count) old)) ≡ write (run_places start s count) (take count (drop at (map number source))) (map number old)
copied_sides number old source start s at count e fits ends =
    let long : length (map number old) ≡ length old = length-map old number in
    let left : length (drop at (map number source)) ≡ length (map number source) - at = length-drop at (map number source) in
    let same : length (map number source) ≡ length source = length-map source number in
    map-append number (take start old) (take count (drop at source) ++ drop (start + count) old)
    ∙ ap₂ (λ xs ys. xs ++ ys) (sym (take-map number start old))
    (map-append number (take count (drop at source)) (drop (start + count) old)
    ∙ ap₂ (λ xs ys. xs ++ ys) (sym (take-map number count (drop at source)) ∙ ap (take count) (sym (drop-map number at source))) (sym (drop-map number (start + count) old)))
    ∙ sym (written_side start s count (drop at (map number source)) (map number old) e (omega (arith, ends, left, same)) (omega (arith, fits, long)))

-- ---- a test that all pass is passed by some of them

pub all_front : {X : Type 0} (test : X → Bool) (xs : List X) (n : ℕ) → list_all test xs ≡ true → list_all test (take n xs) ≡ true
all_front test xs zero h = refl
all_front test [] (suc n) h = refl
all_front test (x ∷ xs) (suc n) h = let parts = and_parts (test x) (list_all test xs) h in ap₂ (λ a b. a && b) parts.0 (all_front test xs n parts.1)

pub all_back : {X : Type 0} (test : X → Bool) (xs : List X) (n : ℕ) → list_all test xs ≡ true → list_all test (drop n xs) ≡ true
all_back test xs zero h = h
all_back test [] (suc n) h = h
all_back test (x ∷ xs) (suc n) h = all_back test xs n (and_parts (test x) (list_all test xs) h).1

pub all_of_part : {X : Type 0} (test : X → Bool) (xs : List X) (at n : ℕ) → list_all test xs ≡ true → list_all test (take n (drop at xs)) ≡ true
all_of_part test xs at n h = all_front test (drop at xs) n (all_back test xs at h)
