-- A walk by rows, one run further.
use Rattle.std.proofs.Common.{◌≡◌, ℕ, zero, suc, ◌+◌, ◌*◌, ◌/◌, ◌%◌, ◌<◌, ◌≤◌, ℤ, pos, negsuc, ◌+ℤ◌, ◌*ℤ◌, ◌≤ℤ◌, ◌<ℤ◌, true, length, refl, ap, ap₂, sym, ◌∙◌, subst, arith, to_z, of_z, w64}
use Rattle.std.proofs.lemmas.Bool.{false≢true}
use Rattle.std.proofs.lemmas.Int.{ints}
use Rattle.std.proofs.lemmas.List.{ext_get_or, get_or-map, length-map}
use Rattle.std.proofs.lemmas.List.FromFn.{get_or-map-range_with_len, length-map-range_with_len}
use Rattle.std.proofs.lemmas.Nat.{div-add-mod', div-mul-add, mod-mul-add, mod_below}
use Rattle.arr_view.specs.Strided.{Strided}
use Rattle.arr_view.specs.Views.{elements, places, positions, is_place, is_view, to_place}
use Rattle.arr_view.proofs.Checks.{lawful, same_rank}
use Rattle.arr_view.proofs.Places.{length-places, place_low, place_high}
use Rattle.arr_picks.specs.Picks.{AllBelow}
use Rattle.arr_picks.proofs.Named.{below_at}
use Rattle.arr_store.specs.Runs.{LiesIn, moved, run_place, run_places}
use Rattle.arr_store.proofs.Pages.{passes}
use Rattle.arr_store.proofs.Places.{abs_place, moved_on}
use lib.IntN.{nat_abs}
use Rattle.arr_strips.specs.Columns.{place_at}
use Rattle.arr_strips.specs.Strips.{part}
use Rattle.arr_store.specs.declared.runs.Run.{Run}
use Rattle.arr_rows.specs.Rows.{spot_at}
use Rattle.arr_rows.specs.Courses.{IsAt, IsRunOf}
use Rattle.arr_rows.specs.declared.course.Course.{Course}
use Rattle.arr_rows.proofs.Far.{steps_more}

-- ---- the place at a position

pub spot_place : (v : Strided) (p : ℕ) → is_view v ≡ true → p < positions v.lengths → is_place (spot_at v p) ≡ true
spot_place v p law h =
    let long : length (places v.lengths v.strides (pos v.start)) ≡ positions v.lengths = length-places v.lengths v.strides (pos v.start) (same_rank v law) in
    passes is_place (places v.lengths v.strides (pos v.start)) p (pos 0) (omega arith) (lawful v law).inside

pub spot_seen : (v : Strided) (p : ℕ) → is_view v ≡ true → p < positions v.lengths → to_place (spot_at v p) ≡ place_at v p
unfolding elements
spot_seen v p law h =
    let long : length (places v.lengths v.strides (pos v.start)) ≡ positions v.lengths = length-places v.lengths v.strides (pos v.start) (same_rank v law) in
    sym (get_or-map to_place (places v.lengths v.strides (pos v.start)) p (pos 0) 0 (omega arith))

whole_place : (z : ℤ) → is_place z ≡ true → pos (to_place z) ≡ z
whole_place (pos n) e = refl
whole_place (negsuc n) e = absurd (false≢true e)

pub spot_is : (v : Strided) (p : ℕ) → is_view v ≡ true → p < positions v.lengths → pos (place_at v p) ≡ spot_at v p
spot_is v p law h = ap pos (sym (spot_seen v p law h)) ∙ whole_place (spot_at v p) (spot_place v p law h)

pub length-elements : (v : Strided) → is_view v ≡ true → length (elements v) ≡ positions v.lengths
unfolding elements
length-elements v law = length-map (places v.lengths v.strides (pos v.start)) to_place ∙ length-places v.lengths v.strides (pos v.start) (same_rank v law)

pub spot_low : (v : Strided) (p : ℕ) → is_view v ≡ true → p < positions v.lengths → (pos 0 ≤ℤ spot_at v p) × (spot_at v p <ℤ pos 1048576)
spot_low v p law h = (place_low (spot_at v p) (spot_place v p law h), place_high (spot_at v p) (spot_place v p law h))

pub whole_abs : (v : Strided) (p : ℕ) → is_view v ≡ true → p < positions v.lengths → pos (nat_abs (spot_at v p)) ≡ spot_at v p
whole_abs v p law h = ap pos (abs_place (spot_at v p) (spot_place v p law h)) ∙ whole_place (spot_at v p) (spot_place v p law h)

-- ---- columns, turns and rows

same_row : (p m k : ℕ) → p % m + k < m → ((p + k) / m ≡ p / m) × ((p + k) % m ≡ p % m + k)
same_row p m k l =
    let whole : p / m * m + p % m ≡ p = div-add-mod' p m in
    let e : p + k ≡ p / m * m + (p % m + k) = omega arith in
    (ap (λ x. x / m) e ∙ div-mul-add (p / m) m (p % m + k) l, ap (λ x. x % m) e ∙ mod-mul-add (p / m) m (p % m + k) l)

row_behind : (p m k : ℕ) → 0 < m → p % m + k ≡ m → (p + k ≡ (p / m + 1) * m) × ((p + k) / m ≡ p / m + 1) × ((p + k) % m ≡ 0)
row_behind p m k some l =
    let whole : p / m * m + p % m ≡ p = div-add-mod' p m in
    let d : p + k ≡ (p / m + 1) * m = omega arith in
    let e : p + k ≡ (p / m + 1) * m + 0 = omega arith in
    (d, ap (λ x. x / m) e ∙ div-mul-add (p / m + 1) m 0 some, ap (λ x. x % m) e ∙ mod-mul-add (p / m + 1) m 0 some)

step_more : (x : ℕ) (s : ℤ) → pos (x + 1) *ℤ s ≡ (pos x *ℤ s) +ℤ s
step_more x s = omega (arith, ints)

moved_far : (z s : ℤ) (i : ℕ) → moved z s i ≡ z +ℤ (pos i *ℤ s)
moved_far z s zero = let e : z ≡ z +ℤ (pos 0 *ℤ s) = omega (arith, ints) in e
moved_far z s (suc i) =
    moved_on z s i ∙ ap (λ x. x +ℤ s) (moved_far z s i) ∙ further z (pos i *ℤ s) s
    ∙ ap (λ x. z +ℤ x) (sym (step_more i s) ∙ ap (λ k. pos k *ℤ s) (let e : i + 1 ≡ suc i = omega arith in e))
  where
    further : (z x y : ℤ) → (z +ℤ x) +ℤ y ≡ z +ℤ (x +ℤ y)
    further z x y = omega (arith, ints)

-- ---- the next run

pub first_low : (v : Strided) (c : Course) → IsAt v c → c.position < positions v.lengths → (pos 0 ≤ℤ c.first) × (c.first <ℤ pos 1048576)
first_low v c at h =
    let e : c.position / c.row.length * c.row.length + c.position % c.row.length ≡ c.position = div-add-mod' c.position c.row.length in
    let place : is_place c.first ≡ true = ap is_place (at.first h) ∙ spot_place v (c.position / c.row.length * c.row.length) at.rows.view (omega arith) in
    (place_low c.first place, place_high c.first place)

-- the place of the next position
pub run_start : (v : Strided) (c : Course) → IsAt v c → c.position < positions v.lengths → c.first +ℤ (pos c.column *ℤ c.row.stride) ≡ spot_at v c.position
run_start v c at h =
    ap (λ x. x +ℤ (pos c.column *ℤ c.row.stride)) (at.first h)
    ∙ ap (λ k. spot_at v (c.position / c.row.length * c.row.length) +ℤ (pos k *ℤ c.row.stride)) at.column ∙ sym (at.rows.rows c.position h)

-- as the code adds it up
pub sum_read : (v : Strided) (c : Course) (far : ℤ) → IsAt v c → c.position < positions v.lengths → far ≡ pos c.column *ℤ c.row.stride
    → to_z w64 (of_z w64 (to_z w64 (of_z w64 c.first) +ℤ to_z w64 (of_z w64 far))) ≡ spot_at v c.position
sum_read v c far at h e =
    let low = first_low v c at h in
    let sum : c.first +ℤ far ≡ spot_at v c.position = ap (λ x. c.first +ℤ x) e ∙ run_start v c at h in
    let there = spot_low v c.position at.rows.view h in
    within c.first far (spot_at v c.position) low.0 low.1 there.0 there.1 sum
  where
    within : (x y z : ℤ) → pos 0 ≤ℤ x → x <ℤ pos 1048576 → pos 0 ≤ℤ z → z <ℤ pos 1048576 → x +ℤ y ≡ z → to_z w64 (of_z w64 (to_z w64 (of_z w64 x) +ℤ to_z w64 (of_z w64 y))) ≡ z
    within x y z a b d e f = omega (arith, ints)

-- those behind it in its row
pub run_goes : (v : Strided) (c : Course) (i : ℕ) → IsAt v c → c.column + i < c.row.length → c.position + i < positions v.lengths
    → spot_at v (c.position + i) ≡ moved (spot_at v c.position) c.row.stride i
run_goes v c i at inside h =
    let p : ℕ = c.position in
    let m : ℕ = c.row.length in
    let s : ℤ = c.row.stride in
    let column : p % m + i < m = subst (λ k. k + i < m) at.column inside in
    let same = same_row p m i column in
    at.rows.rows (p + i) h
    ∙ ap₂ (λ x y. spot_at v (x * m) +ℤ (pos y *ℤ s)) same.0 same.1
    ∙ ap (λ y. spot_at v (p / m * m) +ℤ y) (steps_more (p % m) i s)
    ∙ grouped (spot_at v (p / m * m)) (pos (p % m) *ℤ s) (pos i *ℤ s)
    ∙ ap (λ x. x +ℤ (pos i *ℤ s)) (sym (at.rows.rows p (omega arith)))
    ∙ sym (moved_far (spot_at v p) s i)
  where
    grouped : (x y z : ℤ) → x +ℤ (y +ℤ z) ≡ (x +ℤ y) +ℤ z
    grouped x y z = omega (arith, ints)

-- a place is kept whole in 64 bits
pub spot_read : (v : Strided) (p : ℕ) → is_view v ≡ true → p < positions v.lengths → to_z w64 (of_z w64 (spot_at v p)) ≡ spot_at v p
spot_read v p law h =
    let low : pos 0 ≤ℤ spot_at v p = place_low (spot_at v p) (spot_place v p law h) in
    let high : spot_at v p <ℤ pos 1048576 = place_high (spot_at v p) (spot_place v p law h) in
    within (spot_at v p) low high
  where
    within : (z : ℤ) → pos 0 ≤ℤ z → z <ℤ pos 1048576 → to_z w64 (of_z w64 z) ≡ z
    within z a b = omega (arith, ints)

pub turn_ends : (v : Strided) (c : Course) → IsAt v c → c.page.length ≤ c.turn + 1 → c.turn + 1 ≡ c.page.length
turn_ends v c at h =
    let low : c.position / c.row.length % c.page.length < c.page.length = mod_below (c.position / c.row.length) c.page.length at.rows.some_page in
    let turn : c.turn < c.page.length = subst (λ t. t < c.page.length) (sym at.turn) low in
    omega arith

-- ---- the course goes on

-- in the same row
pub goes_in_row : (v : Strided) (c : Course) (k : ℕ) → IsAt v c → c.column + k < c.row.length → c.position + k ≤ positions v.lengths
    → IsAt v (record { row = c.row; page = c.page; position = c.position + k; column = c.column + k; turn = c.turn; first = c.first })
goes_in_row v c k at inside h =
    let m : ℕ = c.row.length in
    let column : c.position % m + k < m = subst (λ x. x + k < m) at.column inside in
    let same = same_row c.position m k column in
    record {
      rows = at.rows;
      within = h;
      column = ap (λ x. x + k) at.column ∙ sym same.1;
      turn = at.turn ∙ ap (λ x. x % c.page.length) (sym same.0);
      first = λ l. at.first (omega arith) ∙ ap (λ x. spot_at v (x * m)) (sym same.0);
    }

-- to the next row of its page
pub goes_to_row : (v : Strided) (c : Course) (k : ℕ) → IsAt v c → 1 ≤ k → c.column + k ≡ c.row.length → c.position + k ≤ positions v.lengths → c.turn + 1 < c.page.length
    → IsAt v (record { row = c.row; page = c.page; position = c.position + k; column = 0; turn = c.turn + 1; first = c.first +ℤ c.page.stride })
goes_to_row v c k at some whole h more =
    let m : ℕ = c.row.length in
    let n : ℕ = c.page.length in
    let r : ℕ = c.position / m in
    let column : c.position % m + k ≡ m = subst (λ x. x + k ≡ m) at.column whole in
    let next = row_behind c.position m k at.rows.some_row column in
    let turn : r % n + 1 < n = subst (λ x. x + 1 < n) at.turn more in
    let same = same_row r n 1 turn in
    record {
      rows = at.rows;
      within = h;
      column = sym next.2;
      turn = ap (λ x. x + 1) at.turn ∙ sym (ap (λ x. x % n) next.1 ∙ same.1);
      first =
          λ l.
          let here : r * m < positions v.lengths = row_before c.position m (positions v.lengths) (omega arith) in
          let there : (r + 1) * m < positions v.lengths = subst (λ x. x < positions v.lengths) next.0 l in
          ap (λ x. x +ℤ c.page.stride) (at.first (omega arith) ∙ at.rows.pages r here)
          ∙ grouped (spot_at v (r / n * n * m)) (pos (r % n) *ℤ c.page.stride) c.page.stride
          ∙ ap (λ x. spot_at v (r / n * n * m) +ℤ x) (sym (step_more (r % n) c.page.stride))
          ∙ sym (at.rows.pages (r + 1) there ∙ ap₂ (λ x y. spot_at v (x * n * m) +ℤ (pos y *ℤ c.page.stride)) same.0 same.1)
          ∙ ap (λ x. spot_at v (x * m)) (sym next.1);
    }
  where
    row_before : (p m b : ℕ) → p < b → p / m * m < b
    row_before p m b l = let e : p / m * m + p % m ≡ p = div-add-mod' p m in omega arith

    grouped : (x y z : ℤ) → (x +ℤ y) +ℤ z ≡ x +ℤ (y +ℤ z)
    grouped x y z = omega (arith, ints)

-- to the next page
pub goes_to_page : (v : Strided) (c : Course) (k : ℕ) (first : ℤ) → IsAt v c → c.column + k ≡ c.row.length → c.position + k ≤ positions v.lengths → c.turn + 1 ≡ c.page.length
    → (c.position + k < positions v.lengths → first ≡ spot_at v (c.position + k))
    → IsAt v (record { row = c.row; page = c.page; position = c.position + k; column = 0; turn = 0; first = first })
goes_to_page v c k first at whole h last new =
    let m : ℕ = c.row.length in
    let n : ℕ = c.page.length in
    let r : ℕ = c.position / m in
    let column : c.position % m + k ≡ m = subst (λ x. x + k ≡ m) at.column whole in
    let next = row_behind c.position m k at.rows.some_row column in
    let turn : r % n + 1 ≡ n = subst (λ x. x + 1 ≡ n) at.turn last in
    let over = row_behind r n 1 at.rows.some_page turn in
    record {
      rows = at.rows;
      within = h;
      column = sym next.2;
      turn = sym (ap (λ x. x % n) next.1 ∙ over.2);
      first = λ l. new l ∙ ap (spot_at v) (next.0 ∙ ap (λ x. x * m) (sym next.1));
    }

-- ---- what a run reaches

pub run_lies : (v : Strided) (p size : ℕ) (run : Run) → is_view v ≡ true → AllBelow size (elements v) → IsRunOf v p run → p + run.count ≤ positions v.lengths → LiesIn size run.start run.stride run.count
run_lies v p size run law below is h i l =
    let inside : p + i < positions v.lengths = omega arith in (
      ap is_place (sym (is i l)) ∙ spot_place v (p + i) law inside,
      subst (λ e. e < size) (sym (spot_seen v (p + i) law inside) ∙ ap to_place (is i l)) (below_at size (elements v) (p + i) below (subst (λ n. p + i < n) (sym (length-elements v law)) inside)),
    )

pub run_seen : (v : Strided) (p : ℕ) (run : Run) → is_view v ≡ true → IsRunOf v p run → p + run.count ≤ positions v.lengths → (i : ℕ) → i < run.count → run_place run.start run.stride i ≡ place_at v (p + i)
run_seen v p run law is h i l = ap to_place (sym (is i l)) ∙ spot_seen v (p + i) law (omega arith)

pub run_part : (v : Strided) (p : ℕ) (run : Run) → is_view v ≡ true → IsRunOf v p run → p + run.count ≤ positions v.lengths → run_places run.start run.stride run.count ≡ part v p run.count
run_part v p run law is h =
    let left : length (run_places run.start run.stride run.count) ≡ run.count = length-map-range_with_len (run_place run.start run.stride) 0 run.count in
    let right : length (part v p run.count) ≡ run.count = length-map-range_with_len (place_at v) p run.count in
    ext_get_or 0 (run_places run.start run.stride run.count) (part v p run.count) (left ∙ sym right)
    (λ i l.
    let below : i < run.count = omega arith in
    get_or-map-range_with_len (run_place run.start run.stride) 0 run.count i i 0 below (let e : 0 + i ≡ i = omega arith in e)
    ∙ run_seen v p run law is h i below
    ∙ sym (get_or-map-range_with_len (place_at v) p run.count i (p + i) 0 below refl))

-- the places of all positions
pub whole_part : (v : Strided) → is_view v ≡ true → part v 0 (positions v.lengths) ≡ elements v
whole_part v law =
    let left : length (part v 0 (positions v.lengths)) ≡ positions v.lengths = length-map-range_with_len (place_at v) 0 (positions v.lengths) in
    let right : length (elements v) ≡ positions v.lengths = length-elements v law in
    ext_get_or 0 (part v 0 (positions v.lengths)) (elements v) (left ∙ sym right)
    (λ i l. get_or-map-range_with_len (place_at v) 0 (positions v.lengths) i i 0 (omega arith) (let e : 0 + i ≡ i = omega arith in e))
