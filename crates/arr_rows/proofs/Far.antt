-- How far each position is from the first, dimension by dimension.
use Rattle.std.proofs.Common.{◌≡◌, ℕ, zero, suc, ◌+◌, ◌*◌, ◌/◌, ◌%◌, ◌<◌, ◌≤◌, ℤ, pos, ◌+ℤ◌, ◌*ℤ◌, List, [], ◌∷◌, true, length, get_or, take, refl, ap, ap₂, sym, ◌∙◌, subst, arith, leb-true}
use Rattle.std.specs.Prelude.{nat_le}
use Rattle.std.specs.List.{list_all}
use Rattle.std.proofs.Math.Arith.{mod-mul}
use Rattle.std.proofs.Math.Nat.{div-div-eq-div-mul, mul-le-mul, mul-le-mul_right}
use Rattle.std.proofs.lemmas.Int.{ints}
use Rattle.std.proofs.lemmas.Nat.{div-add-mod', div-mul-add, mod-mul-add, div_below, mod_below}
use Rattle.std.proofs.lemmas.Bool.{and_parts, false≢true}
use Rattle.std.proofs.lemmas.List.{get_or_append_left}
use Rattle.arr_view.specs.Strided.{Strided}
use Rattle.arr_view.specs.Views.{at_steps, places, positions, is_view}
use Rattle.arr_view.proofs.Checks.{lawful, same_rank}
use lib.IntN.{zero-*ℤ}
use Rattle.arr_view.proofs.Counting.{some_position}
use Rattle.arr_view.proofs.Places.{length_at, steps, steps_is, get_steps, length-places}
use Rattle.arr_rows.specs.Rows.{AreOne, HasRows, far, spot_at, step}
use Rattle.arr_rows.specs.declared.dimension.Dimension.{Dimension}

-- ---- steps

pub steps_more : (a b : ℕ) (s : ℤ) → pos (a + b) *ℤ s ≡ (pos a *ℤ s) +ℤ (pos b *ℤ s)
steps_more a b s = omega (arith, ints)

steps_of_steps : (a n : ℕ) (s : ℤ) → pos a *ℤ (pos n *ℤ s) ≡ pos (a * n) *ℤ s
steps_of_steps zero n s =
    zero-*ℤ (pos n *ℤ s) ∙ sym (zero-*ℤ s) ∙ ap (λ k. pos k *ℤ s) (let e : 0 ≡ 0 * n = omega arith in e)
steps_of_steps (suc a) n s =
    ap (λ k. pos k *ℤ (pos n *ℤ s)) (let e : suc a ≡ a + 1 = omega arith in e)
    ∙ steps_more a 1 (pos n *ℤ s) ∙ ap₂ (λ x y. x +ℤ y) (steps_of_steps a n s) (one_step (pos n *ℤ s))
    ∙ sym (steps_more (a * n) n s) ∙ ap (λ k. pos k *ℤ s) (let e : a * n + n ≡ suc a * n = omega arith in e)
  where
    one_step : (x : ℤ) → pos 1 *ℤ x ≡ x
    one_step x = omega (arith, ints)

-- ---- lengths

front_positions : (ns : List ℕ) (k : ℕ) → k < length ns → positions (take (suc k) ns) ≡ positions (take k ns) * get_or ns k 0
front_positions [] k l = absurd (omega arith)
front_positions (n ∷ ns) zero l = let e : n * 1 ≡ 1 * n = omega arith in e
front_positions (n ∷ ns) (suc k) l =
    ap (λ x. n * x) (front_positions ns k (omega arith)) ∙ (let a = positions (take k ns) in let b = get_or ns k 0 in let e : n * (positions (take k ns) * get_or ns k 0) ≡ n * positions (take k ns) * get_or ns k 0 = omega arith in e)

pub some_product : (a b : ℕ) → 1 ≤ a → 1 ≤ b → 1 ≤ a * b
some_product a b h k = let e : 1 * 1 ≤ a * b = mul-le-mul h k in omega arith

some_front : (ns : List ℕ) (k : ℕ) → list_all (nat_le 1) ns ≡ true → 1 ≤ positions (take k ns)
some_front [] zero all = omega arith
some_front [] (suc k) all = omega arith
some_front (n ∷ ns) zero all = omega arith
some_front (n ∷ ns) (suc k) all =
    let p = and_parts (nat_le 1 n) _ all in
    some_product n (positions (take k ns)) (leb-true 1 n p.0) (some_front ns k p.1)

take_all : (ns : List ℕ) → take (length ns) ns ≡ ns
take_all [] = refl
take_all (n ∷ ns) = ap (λ xs. n ∷ xs) (take_all ns)

-- ---- the first dimension, and all others

-- a position counts modulo the positions of the dimensions
periodic : (ns : List ℕ) (ss : List ℤ) (k p : ℕ) → list_all (nat_le 1) ns ≡ true → k ≤ length ns → far ns ss k (p % positions (take k ns)) ≡ far ns ss k p
periodic ns ss zero p all l = refl
periodic ns ss (suc k) p all l =
    let c : ℕ = get_or ns k 0 in
    let a : ℕ = positions (take k ns) in
    let some : 0 < c = length_at k ns all (omega arith) in
    let more : 0 < a = some_front ns k all in
    let turned : p % positions (take (suc k) ns) ≡ p / c % a * c + p % c = ap (λ q. p % q) (front_positions ns k (omega arith)) ∙ mod-mul p more some in
    let low : p % c < c = mod_below p c some in
    let column : p % positions (take (suc k) ns) % c ≡ p % c = ap (λ q. q % c) turned ∙ mod-mul-add (p / c % a) c (p % c) low in
    let row : p % positions (take (suc k) ns) / c ≡ p / c % a = ap (λ q. q / c) turned ∙ div-mul-add (p / c % a) c (p % c) low in
    ap₂ (λ x y. (pos x *ℤ get_or ss k (pos 0)) +ℤ far ns ss k y) column row
    ∙ ap (λ y. (pos (p % c) *ℤ get_or ss k (pos 0)) +ℤ y) (periodic ns ss k (p / c) all (omega arith))

outer : (n : ℕ) (s : ℤ) (ns : List ℕ) (ss : List ℤ) (k p : ℕ) → k ≤ length ns → far (n ∷ ns) (s ∷ ss) (suc k) p ≡ far ns ss k p +ℤ (pos (p / positions (take k ns) % n) *ℤ s)
outer n s ns ss zero p l =
    let one : p / 1 ≡ p = omega arith in
    let e : (pos (p % n) *ℤ s) +ℤ pos 0 ≡ pos 0 +ℤ (pos (p % n) *ℤ s) = omega (arith, ints) in
    e ∙ ap (λ q. pos 0 +ℤ (pos (q % n) *ℤ s)) (sym one)
outer n s ns ss (suc k) p l =
    let c : ℕ = get_or ns k 0 in
    let t : ℤ = get_or ss k (pos 0) in
    let a : ℕ = positions (take k ns) in
    let front : positions (take (suc k) ns) ≡ c * a = front_positions ns k (omega arith) ∙ (let e : a * c ≡ c * a = omega arith in e) in
    let deep : p / c / a ≡ p / positions (take (suc k) ns) = div-div-eq-div-mul p c a ∙ ap (λ q. p / q) (sym front) in
    ap (λ y. (pos (p % c) *ℤ t) +ℤ y) (outer n s ns ss k (p / c) (omega arith))
    ∙ grouped (pos (p % c) *ℤ t) (far ns ss k (p / c)) (pos (p / c / a % n) *ℤ s)
    ∙ ap (λ q. ((pos (p % c) *ℤ t) +ℤ far ns ss k (p / c)) +ℤ (pos (q % n) *ℤ s)) deep
  where
    grouped : (x y z : ℤ) → x +ℤ (y +ℤ z) ≡ (x +ℤ y) +ℤ z
    grouped x y z = omega (arith, ints)

-- the place at a position
pub spot_far : (ns : List ℕ) (ss : List ℤ) (z : ℤ) (p : ℕ) → length ss ≡ length ns → list_all (nat_le 1) ns ≡ true → p < positions ns → get_or (places ns ss z) p (pos 0) ≡ z +ℤ far ns ss (length ns) p
spot_far [] ss z p same all l = let at : p ≡ 0 = omega arith in ap (λ q. get_or (z ∷ []) q (pos 0)) at ∙ (let e : z ≡ z +ℤ pos 0 = omega (arith, ints) in e)
spot_far (n ∷ ns) [] z p same all l = absurd (omega arith)
spot_far (n ∷ ns) (s ∷ ss) z p same all l =
    let rest = (and_parts (nat_le 1 n) _ all).1 in
    let size : ℕ = positions ns in
    let some : 0 < size = some_position ns rest in
    let q : ℕ = p / size in
    let r : ℕ = p % size in
    let below : q < n = div_below p size n some l in
    let low : r < size = mod_below p size some in
    let whole : positions (take (length ns) ns) ≡ size = ap positions (take_all ns) in
    let turn : r ≡ p % positions (take (length ns) ns) = ap (λ m. p % m) (sym whole) in
    ap (λ k. get_or (places (n ∷ ns) (s ∷ ss) z) k (pos 0)) (sym (div-add-mod' p size))
    ∙ get_steps (places ns ss) size (λ y. length-places ns ss y (omega arith)) n s z q r (pos 0) below low
    ∙ spot_far ns ss (z +ℤ steps q s) r (omega arith) rest low
    ∙ ap₂ (λ x y. (z +ℤ x) +ℤ y) (steps_is q s) (ap (far ns ss (length ns)) turn ∙ periodic ns ss (length ns) p rest (omega arith))
    ∙ regrouped z (pos q *ℤ s) (far ns ss (length ns) p)
    ∙ ap (λ x. z +ℤ (far ns ss (length ns) p +ℤ (pos x *ℤ s))) (sym (ap (λ m. p / m % n) whole ∙ small q n below))
    ∙ ap (λ x. z +ℤ x) (sym (outer n s ns ss (length ns) p (omega arith)))
  where
    regrouped : (z x y : ℤ) → (z +ℤ x) +ℤ y ≡ z +ℤ (y +ℤ x)
    regrouped z x y = omega (arith, ints)

    small : (q n : ℕ) → q < n → q % n ≡ q
    small q n l = ap (λ x. x % n) (let e : q ≡ 0 * n + q = omega arith in e) ∙ mod-mul-add 0 n q l

-- ---- rows, and pages of them

-- the number of whole rows before a row's first position
row_of : (r m : ℕ) → 0 < m → (r * m % m ≡ 0) × (r * m / m ≡ r)
row_of r m some =
    let e : r * m ≡ r * m + 0 = omega arith in
    (ap (λ x. x % m) e ∙ mod-mul-add r m 0 some, ap (λ x. x / m) e ∙ div-mul-add r m 0 some)

pub has_rows : (v : Strided) (row page : Dimension) (l k : ℕ) → is_view v ≡ true → 1 ≤ row.length → 1 ≤ page.length
    → ((p : ℕ) → far v.lengths v.strides (length v.lengths) p ≡ step row p +ℤ far v.lengths v.strides l (p / row.length))
    → ((p : ℕ) → far v.lengths v.strides l p ≡ step page p +ℤ far v.lengths v.strides k (p / page.length))
    → HasRows v row page
has_rows v row page l k law some_row some_page one two =
    record { view = law; some_row = some_row; some_page = some_page; rows = rows; pages = pages }
  where
    all : list_all (nat_le 1) v.lengths ≡ true
    all = (lawful v law).lengths

    at : (p : ℕ) → p < positions v.lengths → spot_at v p ≡ pos v.start +ℤ (step row p +ℤ far v.lengths v.strides l (p / row.length))
    at p h = spot_far v.lengths v.strides (pos v.start) p (same_rank v law) all h ∙ ap (λ x. pos v.start +ℤ x) (one p)

    no_step : (d : Dimension) (p : ℕ) → p % d.length ≡ 0 → step d p ≡ pos 0
    no_step d p e = ap (λ x. pos x *ℤ d.stride) e ∙ zero-*ℤ d.stride

    apart : (a x y : ℤ) → a +ℤ (x +ℤ y) ≡ (a +ℤ (pos 0 +ℤ y)) +ℤ x
    apart a x y = omega (arith, ints)

    -- at the first position of a row
    begins : (r : ℕ) → r * row.length < positions v.lengths → spot_at v (r * row.length) ≡ pos v.start +ℤ (pos 0 +ℤ far v.lengths v.strides l r)
    begins r h =
        let e = row_of r row.length some_row in
        at (r * row.length) h ∙ ap₂ (λ x y. pos v.start +ℤ (x +ℤ far v.lengths v.strides l y)) (no_step row (r * row.length) e.0) e.1

    rows : (p : ℕ) → p < positions v.lengths → spot_at v p ≡ spot_at v (p / row.length * row.length) +ℤ step row p
    rows p h =
        let whole : p / row.length * row.length + p % row.length ≡ p = div-add-mod' p row.length in
        at p h ∙ apart (pos v.start) (step row p) (far v.lengths v.strides l (p / row.length)) ∙ ap (λ x. x +ℤ step row p) (sym (begins (p / row.length) (omega arith)))

    grouped : (a x y : ℤ) → a +ℤ (pos 0 +ℤ (x +ℤ y)) ≡ (a +ℤ (pos 0 +ℤ (pos 0 +ℤ y))) +ℤ x
    grouped a x y = omega (arith, ints)

    pages : (r : ℕ) → r * row.length < positions v.lengths → spot_at v (r * row.length) ≡ spot_at v (r / page.length * page.length * row.length) +ℤ step page r
    pages r h =
        let n : ℕ = page.length in
        let e = row_of (r / n) n some_page in
        let whole : r / n * n + r % n ≡ r = div-add-mod' r n in
        let low : r / n * n ≤ r = omega arith in
        let less : r / n * n * row.length ≤ r * row.length = mul-le-mul_right row.length low in
        let first : far v.lengths v.strides l (r / n * n) ≡ pos 0 +ℤ far v.lengths v.strides k (r / n) = two (r / n * n) ∙ ap₂ (λ x y. x +ℤ far v.lengths v.strides k y) (no_step page (r / n * n) e.0) e.1 in
        begins r h ∙ ap (λ x. pos v.start +ℤ (pos 0 +ℤ x)) (two r) ∙ grouped (pos v.start) (step page r) (far v.lengths v.strides k (r / n))
        ∙ ap (λ x. (pos v.start +ℤ (pos 0 +ℤ x)) +ℤ step page r) (sym first)
        ∙ ap (λ x. x +ℤ step page r) (sym (begins (r / n * n) (omega arith)))

-- ---- dimensions as one

pub are_one : (inner outer : Dimension) (length : ℕ) → 1 ≤ inner.length → 1 ≤ outer.length → length ≡ inner.length * outer.length → outer.stride ≡ pos inner.length *ℤ inner.stride
    → AreOne inner outer (record { length = length; stride = inner.stride })
are_one inner outer length a b size e =
    record {
      length = size;
      step = λ p.
          let n : ℕ = inner.length in
          let k : ℕ = outer.length in
          ap (λ m. pos (p % m) *ℤ inner.stride) (size ∙ (let f : inner.length * outer.length ≡ outer.length * inner.length = omega arith in f))
          ∙ ap (λ x. pos x *ℤ inner.stride) (mod-mul p b a)
          ∙ spread (p / n % k) n (p % n) inner.stride
          ∙ ap (λ t. (pos (p % n) *ℤ inner.stride) +ℤ (pos (p / n % k) *ℤ t)) (sym e);
    }
  where
    turned : (x y : ℤ) → x +ℤ y ≡ y +ℤ x
    turned x y = omega (arith, ints)

    spread : (a n b : ℕ) (s : ℤ) → pos (a * n + b) *ℤ s ≡ (pos b *ℤ s) +ℤ (pos a *ℤ (pos n *ℤ s))
    spread a n b s =
        steps_more (a * n) b s ∙ ap (λ x. x +ℤ (pos b *ℤ s)) (sym (steps_of_steps a n s)) ∙ turned (pos a *ℤ (pos n *ℤ s)) (pos b *ℤ s)

-- no dimension yet
pub none_last : (shape : List ℕ) (strides : List ℤ) (end p : ℕ) → far shape strides end p ≡ (pos (p % 1) *ℤ pos 0) +ℤ far shape strides end (p / 1)
none_last shape strides end p =
    let e : p ≡ p / 1 = omega arith in
    ap (far shape strides end) e ∙ nothing (p % 1) (far shape strides end (p / 1))
  where
    nothing : (a : ℕ) (x : ℤ) → x ≡ (pos a *ℤ pos 0) +ℤ x
    nothing a x = omega (arith, ints)

-- one dimension more
pub more_last : (shape : List ℕ) (strides : List ℤ) (end k : ℕ) (last outer both : Dimension) → outer.length ≡ get_or shape k 0 → outer.stride ≡ get_or strides k (pos 0) → AreOne last outer both
    → ((p : ℕ) → far shape strides end p ≡ step last p +ℤ far shape strides (suc k) (p / last.length))
    → (p : ℕ) → far shape strides end p ≡ step both p +ℤ far shape strides k (p / both.length)
more_last shape strides end k last outer both el es one before p =
    before p
    ∙ ap₂ (λ n s. step last p +ℤ ((pos (p / last.length % n) *ℤ s) +ℤ far shape strides k (p / last.length / n))) (sym el) (sym es)
    ∙ grouped (step last p) (step outer (p / last.length)) (far shape strides k (p / last.length / outer.length))
    ∙ ap₂ (λ x q. x +ℤ far shape strides k q) (sym (one.step p)) (div-div-eq-div-mul p last.length outer.length ∙ ap (λ m. p / m) (sym one.length))
  where
    grouped : (x y z : ℤ) → x +ℤ (y +ℤ z) ≡ (x +ℤ y) +ℤ z
    grouped x y z = omega (arith, ints)

-- the same of equal lists
pub far_seen : (shape lengths : List ℕ) (steps strides : List ℤ) (end k left : ℕ) (last : Dimension) → shape ≡ lengths → steps ≡ strides → end ≡ k
    → ((p : ℕ) → far shape steps end p ≡ step last p +ℤ far shape steps left (p / last.length)) → (p : ℕ) → far lengths strides k p ≡ step last p +ℤ far lengths strides left (p / last.length)
far_seen shape lengths steps strides end k left last a b e h p =
    sym (ap₂ (λ ns ss. far ns ss k p) a b) ∙ sym (ap (λ n. far shape steps n p) e) ∙ h p ∙ ap₂ (λ ns ss. step last p +ℤ far ns ss left (p / last.length)) a b

-- ---- the first row of a page

first_spot : (ns : List ℕ) (ss : List ℤ) (z : ℤ) → length ss ≡ length ns → list_all (nat_le 1) ns ≡ true → get_or (places ns ss z) 0 (pos 0) ≡ z
first_spot [] ss z same all = refl
first_spot (n ∷ ns) [] z same all = absurd (omega arith)
first_spot (zero ∷ ns) (s ∷ ss) z same all = absurd (false≢true all)
first_spot (suc n ∷ ns) (s ∷ ss) z same all =
    let rest = (and_parts (nat_le 1 (suc n)) _ all).1 in
    let some : 0 < length (places ns ss z) = subst (λ k. 0 < k) (sym (length-places ns ss z (omega arith))) (some_position ns rest) in
    get_or_append_left (places ns ss z) (at_steps (places ns ss) n s (z +ℤ s)) (pos 0) 0 some ∙ first_spot ns ss z (omega arith) rest

pub first_page : (v : Strided) (row page : Dimension) (r : ℕ) → HasRows v row page → r < page.length → r * row.length < positions v.lengths
    → pos v.start +ℤ (pos r *ℤ page.stride) ≡ spot_at v (r * row.length)
first_page v row page r has l h =
    let n : ℕ = page.length in
    let e : r ≡ 0 * page.length + r = omega arith in
    let column : r % n ≡ r = ap (λ x. x % n) e ∙ mod-mul-add 0 n r l in
    let turn : r / n ≡ 0 = ap (λ x. x / n) e ∙ div-mul-add 0 n r l in
    let start : 0 * page.length * row.length ≡ 0 = omega arith in
    ap (λ x. x +ℤ (pos r *ℤ page.stride)) (sym (first_spot v.lengths v.strides (pos v.start) (same_rank v has.view) (lawful v has.view).lengths))
    ∙ sym (has.pages r h ∙ ap₂ (λ x y. spot_at v (x * n * row.length) +ℤ (pos y *ℤ page.stride)) turn column ∙ ap (λ x. spot_at v x +ℤ (pos r *ℤ page.stride)) start)
